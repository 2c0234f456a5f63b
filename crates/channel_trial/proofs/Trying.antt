-- What a trial reports the run.
use Rattle.std.specs.Prelude.{ℕ, zero, suc, ◌≡◌, ◌<◌, Bool, true, false, List, [], ◌∷◌, length, slice_index_or, None}
use Rattle.std.specs.Prelude.{OnOk, Result, Ok, Err}
use Rattle.std.proofs.Common.{arith, subst, inl, inr, ◌∙◌, ◌⊎◌, ◌/◌}
use Rattle.s370_channel.specs.declared.limits.Limits.{Limits}
use Rattle.s370_channel.specs.declared.words.Caw.{Caw}
use Rattle.s370_channel.specs.Guest.{guest_written}
use Rattle.s370_channel.specs.Loading.{implied_word, loading, loading_limits}
use Rattle.s370_channel.specs.Progress.{setting}
use Rattle.s370_channel.specs.Runs.{begun, limited}
use Rattle.s370_channel.specs.Start.{most_commands}
use Rattle.s370_channel.specs.Supplied.{AllSuch, EachSuch, IsTouched}
use Rattle.s370_walk.specs.declared.parts.Ending.{Ending}
use Rattle.s370_store.specs.Memory.{Memory, memory_of}
use Rattle.s370_walk.specs.Hardware.{Machine}
use Rattle.s370_walk.specs.Walk.{Fetching, Over, Reaches, Setting, State, live, start_spot}
use Rattle.s370_walk.proofs.Viewing.{asked_back, ends_back, entered_viewed}
use Rattle.s370_walk.specs.Viewed.{IsViewed, setting_for, viewed}
use Rattle.channel_trial.specs.Pages.{IsIn, KeepsUntouched}
use Rattle.channel_trial.specs.DryRun.{IsLoadingTried, IsProgramTried, IsTried}

differ : {b : Bool} → b ≡ false → b ≡ true → ⊥
differ away there = cc

such_in : (P : ℕ → Type 0) (pages : List ℕ) (page k : ℕ) → AllSuch P pages → k < length pages
    → slice_index_or pages k page ≡ page → P page
such_in P [] page k all low is = absurd (omega (arith, low))
such_in P (p ∷ pages) page zero all low is = subst P is all.0
such_in P (p ∷ pages) page (suc k) all low is = such_in P pages page k all.1 (omega (arith, low)) is

in_units : (P : ℕ → Type 0) (units : List (List ℕ)) (page : ℕ) → EachSuch P units → IsIn units page → P page
in_units P [] page each here = absurd here
in_units P (pages ∷ units) page each (inl (k, low, is)) = such_in P pages page k each.0 low is
in_units P (pages ∷ units) page each (inr there) = in_units P units page each.1 there

-- from one storage for a dry run to another just pages of these units came, and the flags are of those that are present
pub record HasTouched (old new : Memory) (before after : ℕ → Bool) (flags : List Bool) (units : List (List ℕ))
    : Type 0 where
  pub clear : (page : ℕ) → before page ≡ false
  pub flagged : (page : ℕ) → after page ≡ slice_index_or flags page false
  pub came : (page : ℕ) → after page ≡ true → (before page ≡ true) ⊎ IsIn units page
  pub beside : KeepsUntouched after old.bytes new.bytes
  pub size : length new.bytes ≡ length old.bytes
  pub keys : new.keys ≡ old.keys

-- A dry run that ends tells which pages its program touches.
pub tried_for : {T : Type 0} (h : Setting T) (from : State T) (t' : T) (ending : Ending) (old new : Memory)
    (before after : ℕ → Bool) (flags : List Bool) (units : List (List ℕ))
    → HasTouched old new before after flags units
    → Reaches (live guest_written) h from (Over ending new t')
    → EachSuch (IsTouched guest_written h from) units → IsTried h from old new.bytes flags
tried_for h from t' ending old new before after flags units touched reaches each =
    let P : List ℕ → Type 0 =
    λ ks. Reaches (live guest_written) h from (Over ending (memory_of new.bytes ks) t') in
    record {
      ending = ending;
      device = t';
      comes = subst P touched.keys reaches;
      touches = λ page flag. (elim (touched.came page (touched.flagged page ∙ flag)) [
        | inl first ↦ absurd (differ (touched.clear page) first)
        | inr here ↦ in_units (IsTouched guest_written h from) units page each here
      ]);
      other_users = λ address away. touched.beside address (touched.flagged (address / 4096) ∙ away);
      size = touched.size;
    }

-- of the program with a start, as it was run
module _ {T : Type 0} (machine : Machine T) (start : Caw) (t t' : T) (ending : Ending) (old new : Memory) where
  pub tried_told : (at : ℕ) (l : Limits) (before after : ℕ → Bool) (flags : List Bool) (units : List (List ℕ))
      → at ≡ start.address → l ≡ record { key = start.key; commands = most_commands; prefix = 0 }
      → HasTouched old new before after flags units
      → Reaches (live guest_written) (setting machine l) (Fetching (start_spot at) old t) (Over ending new t')
      → EachSuch (IsTouched guest_written (setting machine l) (Fetching (start_spot at) old t)) units
      → IsProgramTried machine start old t new.bytes flags
  tried_told at l before after flags units at_is l_is touched reaches each =
      let from : ℕ → State T = λ a. Fetching (start_spot a) old t in
      let end : State T = Over ending new t' in
      let R : ℕ → Type 0 = λ a. Reaches (live guest_written) (setting machine l) (from a) end in
      let S : Limits → Type 0 = λ x. Reaches (live guest_written) (setting machine x) (from start.address) end in
      let Q : ℕ → Type 0 = λ a. EachSuch (IsTouched guest_written (setting machine l) (from a)) units in
      let O : Limits → Type 0 =
      λ x. EachSuch (IsTouched guest_written (setting machine x) (from start.address)) units in
      tried_for (limited machine start) (begun start old t) t' ending old new before after flags units touched
      (subst S l_is (subst R at_is reaches)) (subst O l_is (subst Q at_is each))

-- what was tried with what is seen of a device
back_for : {D E : Type 0} (h : Setting D) (small : Machine E) (view : D → E) (from : State D) (m : Memory)
    (bytes : List ℕ) (touched : List Bool) → IsViewed h.machine small view
    → IsTried (setting_for small h) (viewed view from) m bytes touched → IsTried h from m bytes touched
back_for h small view from m bytes touched same tried =
    let end = ends_back (live guest_written) h small view same from tried.ending
    (record { bytes = bytes; keys = m.keys }) tried.device tried.comes in
    record {
      ending = tried.ending;
      device = end.0;
      comes = end.2;
      touches = λ page flag. (let touch = tried.touches page flag in let back = asked_back guest_written h small view
          same from touch.state page touch.comes touch.asked in
          record { state = back.0; comes = back.1; asked = back.2 });
      other_users = tried.other_users;
      size = tried.size;
    }

-- A dry run of the small machine is one of the whole machine.
pub tried_back : {D E : Type 0} (machine : Machine D) (small : Machine E) (view : D → E) (start : Caw) (m : Memory)
    (d : D) (bytes : List ℕ) (touched : List Bool) → IsViewed machine small view
    → IsProgramTried small start m (view d) bytes touched → IsProgramTried machine start m d bytes touched
tried_back machine small view start m d bytes touched same tried =
    back_for (limited machine start) small view (begun start m d) m bytes touched same tried

-- A dry run of a loading on the small machine is one on the whole machine.
pub loaded_back : {D E : Type 0} (machine : Machine D) (small : Machine E) (view : D → E) (m : Memory) (d : D)
    (bytes : List ℕ) (touched : List Bool) → IsViewed machine small view
    → IsLoadingTried small m (view d) bytes touched → IsLoadingTried machine m d bytes touched
loaded_back {D} {E} machine small view m d bytes touched same tried =
    let h : Setting D = setting machine loading_limits in
    let begins : loading small m (view d) ≡ viewed view (loading machine m d) =
    entered_viewed (live guest_written) h small view same (start_spot 0) implied_word None m d in
    let P : State E → Type 0 = λ s. IsTried (setting_for small h) s m bytes touched in
    back_for h small view (loading machine m d) m bytes touched same (subst P begins tried)

-- what is seen of a device was tried
pub view_tried : {D E X : Type 0} (machine : Machine D) (small : Machine E) (view : D → E) (start : Caw) (m : Memory)
    (d : D) (t : E) (r : Result Unit X) (bytes : List ℕ) (touched : List Bool)
    → IsViewed machine small view → t ≡ view d → OnOk r (IsProgramTried small start m t bytes touched)
    → OnOk r (IsProgramTried machine start m d bytes touched)
view_tried {D} {E} {X} machine small view start m d t (Ok done) bytes touched same is h =
    tried_back machine small view start m d bytes touched same
    (subst (λ (e : E). IsProgramTried small start m e bytes touched) is h)
view_tried machine small view start m d t (Err error) bytes touched same is h = h
