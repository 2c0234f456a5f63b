-- What a dry run leaves of the pages that it touched, and of the others.
use Rattle.std.proofs.Common.{◌≡◌, ◌*◌, ℕ, List, Bool, length, ap, ap₂, ◌∙◌, subst, sym, arith}
use Rattle.s370_store.specs.Memory.{Memory}
use Rattle.s370_walk.specs.Walk.{Setting, State}
use Rattle.channel_trial.specs.DryRun.{IsTried}
use Rattle.cp_dat.specs.declared.dat.Dat.{Dat}
use Rattle.cp_dat.specs.Copies.{written_over}
use Rattle.cp_dat.specs.Lent.{lent_bytes, lent_memory}
use Rattle.cp_dat.proofs.Written.{length-over, over_is, over_wanted}
use Rattle.cp_trial.specs.declared.storage.TouchedPages.{TouchedPages}
use Rattle.cp_trial.specs.declared.storage.TrialStorage.{TrialStorage}
use Rattle.cp_trial.specs.Trial.{touched_flags, trial_bytes, trial_flags, tried_bytes}

-- The pages that were touched, put over the storage, are what the dry run left.
pub pages_of : {D : Type 0} (h : Setting D) (from : Memory → State D) (storage : Dat) (m : Memory) (s : TrialStorage)
    (pages : TouchedPages) → m ≡ lent_memory storage → pages.bytes ≡ s.bytes
    → pages.touched.items ≡ trial_flags s → IsTried h (from m) m (trial_bytes s) (trial_flags s)
    → IsTried h (from (lent_memory storage)) (lent_memory storage) (tried_bytes storage pages) (touched_flags pages)
pages_of h from storage m s pages memory bytes flags tried =
    let on : Memory = lent_memory storage in
    let there : IsTried h (from on) on (trial_bytes s) (trial_flags s) =
    subst (λ (x : Memory). IsTried h (from x) x (trial_bytes s) (trial_flags s)) memory tried in
    let long : length s.bytes ≡ length (lent_bytes storage) = sym s.shown ∙ there.size in
    let over : written_over (trial_flags s) (lent_bytes storage) s.bytes ≡ trial_bytes s =
    over_is (trial_flags s) (lent_bytes storage) s.bytes (trial_bytes s) long s.shown
    (λ a low it. over_wanted (trial_flags s) (lent_bytes s.source.now) s.bytes a low it) there.other_users in
    let same : tried_bytes storage pages ≡ trial_bytes s =
    ap₂ (λ fs xs. written_over fs (lent_bytes storage) xs) flags bytes ∙ over in
    subst (λ xs. IsTried h (from on) on xs (touched_flags pages)) (sym same)
    (subst (λ fs. IsTried h (from on) on (trial_bytes s) fs) (sym flags) there)

-- There is a flag for each page of the storage, and a byte for each of its bytes.
module _ (storage : Dat) (pages : TouchedPages)
    (size : length (tried_bytes storage pages) ≡ length (lent_bytes storage)) where
  pub pages_long : length pages.bytes ≡ length (lent_bytes storage)
  pages_long = sym (length-over pages.touched.items (lent_bytes storage) pages.bytes) ∙ size

  pub flags_fit : (flags : List Bool) → flags ≡ touched_flags pages → length flags * 4096 ≡ length (lent_bytes storage)
  flags_fit flags is =
      let long : length pages.bytes ≡ length (lent_bytes storage) = pages_long in
      let each : length pages.bytes ≡ 4096 * length pages.touched.items = pages.a_flag_a_page in
      let same : length flags ≡ length pages.touched.items = ap length is in
      omega (arith, long, each, same)

-- What is put back over the storage as it was is what the dry run left.
pub put_is : (old middle : Dat) (pages : TouchedPages) (flags : List Bool) (raw : List ℕ)
    → flags ≡ touched_flags pages → raw ≡ pages.bytes → lent_memory middle ≡ lent_memory old
    → written_over flags (lent_bytes middle) raw ≡ tried_bytes old pages
put_is old middle pages flags raw is bytes memory =
    ap (λ fs. written_over fs (lent_bytes middle) raw) is ∙
    ap (λ xs. written_over (touched_flags pages) (lent_bytes middle) xs) bytes ∙
    ap (λ (m : Memory). written_over (touched_flags pages) m.bytes pages.bytes) memory
