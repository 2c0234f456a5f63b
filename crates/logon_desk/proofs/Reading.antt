-- What the bytes of a connection have said.
use Rattle.std.proofs.Common.{◌≡◌, ◌≢◌, ◌⊎◌, inl, inr, ◌<◌, ◌≤◌, ℕ, Bool, true, false, eqb, leb, cond, List, [], ◌∷◌}
use Rattle.std.proofs.Common.{◌++◌, length, get_or, set, refl, ap, sym, ◌∙◌, subst}
use Rattle.std.proofs.Common.{append_assoc, get_or-set_other, get_or-set_same}
use Rattle.std.proofs.lemmas.Bool.Decides.{eqb_tells, leb_tells}
use Rattle.std.proofs.lemmas.List.{get_or_past, set_past}
use Rattle.std.proofs.lemmas.List.Sums.{fold-append}
use Rattle.logon_desk.specs.Connection.{gone, opened}
use Rattle.terminal_lines.specs.Decoder.{after_byte}
use Rattle.logon_desk.specs.Desk.{is_gone}
use Rattle.logon_desk.specs.History.{Gives, Reading, meaning, nothing_read, read_byte, reading_of, with_line}
use Rattle.terminal_lines.specs.Typed.{Typed}
use Rattle.logon_desk.specs.declared.connection.Connection.{Connection}
use Rattle.logon_desk.specs.declared.connection.Stage.{Stage}
use Rattle.logon_desk.specs.declared.connection.Stage.TheVariants.{Gone, Naming, Asking, Waiting, Judged, Refused, On}
use Rattle.terminal_lines.specs.declared.words.Said.TheVariants.{Name}

-- what the stage of a connection says of the lines that were taken there
abbrev pub IsSaid : Stage → List (List ℕ) → Type 0
IsSaid Gone lines = Unit {0}
IsSaid Naming lines = Unit {0}
IsSaid (Asking name) lines = (line : List ℕ) × (rest : List (List ℕ)) × (lines ≡ line ∷ rest)
    × (meaning line ≡ Name name)
IsSaid (Waiting guess) lines = Gives lines guess
IsSaid (Judged guess) lines = Gives lines guess
IsSaid Refused lines = Unit {0}
IsSaid (On user) lines = Unit {0}

-- all bytes that have come were taken or wait, and the connection is what those that were taken make of it
pub record Heard (x : Connection) (came : List ℕ) : Type 0 where
  pub taken : List ℕ
  pub split : came ≡ taken ++ x.waiting
  pub typed : x.decoder ≡ (reading_of taken).typed
  pub said : IsSaid x.stage (reading_of taken).lines

abbrev pub IsHeard : Connection → List ℕ → Type 0
IsHeard x came = is_gone x.stage ≡ false → Heard x came

-- one connection was set
at_one_by : (P : Connection → Type 0) (xs : List Connection) (k c : ℕ) (x : Connection) → P gone → (k ≡ c → P x)
    → (k ≢ c → P (get_or xs c gone))
    → ((eqb k c ≡ true) × (k ≡ c)) ⊎ ((eqb k c ≡ false) × (k ≢ c)) → ((leb (length xs) k ≡ true) × (length xs ≤ k))
    ⊎ ((leb (length xs) k ≡ false) × (k < length xs))
    → P (get_or (set xs k x) c gone)
at_one_by P xs k c x vacant here there (inl w) (inl far) =
    subst P (sym (ap (λ (l : List Connection). get_or l c gone) (set_past xs k x far.1)
    ∙ get_or_past xs c gone (subst (λ (n : ℕ). length xs ≤ n) w.1 far.1))) vacant
at_one_by P xs k c x vacant here there (inl w) (inr near) =
    subst P (sym (ap (λ (n : ℕ). get_or (set xs k x) n gone) (sym w.1) ∙ get_or-set_same xs k x gone near.1)) (here w.1)
at_one_by P xs k c x vacant here there (inr w) far =
    let differs : c ≢ k = λ e. w.1 (sym e) in subst P (sym (get_or-set_other xs k c x gone differs)) (there w.1)

-- What holds of a connection that was set and of all others holds of each.
pub at_one : (P : Connection → Type 0) (xs : List Connection) (k c : ℕ) (x : Connection) → P gone → (k ≡ c → P x)
    → (k ≢ c → P (get_or xs c gone)) → P (get_or (set xs k x) c gone)
at_one P xs k c x vacant here there = at_one_by P xs k c x vacant here there (eqb_tells k c) (leb_tells (length xs) k)

at_both_by : (P : Connection → List ℕ → Type 0) (xs : List Connection) (k c : ℕ) (x : Connection) (came other : List ℕ)
    → ((l : List ℕ) → P gone l) → (k ≡ c → P x other) → P (get_or xs c gone) came
    → ((eqb k c ≡ true) × (k ≡ c)) ⊎ ((eqb k c ≡ false) × (k ≢ c))
    → P (get_or (set xs k x) c gone) (cond (eqb k c) other came)
at_both_by P xs k c x came other vacant here there (inl w) =
    subst (λ (b : Bool). P (get_or (set xs k x) c gone) (cond b other came)) (sym w.0)
    (at_one (λ y. P y other) xs k c x (vacant other) here (λ differs. absurd (differs w.1)))
at_both_by P xs k c x came other vacant here there (inr w) =
    subst (λ (b : Bool). P (get_or (set xs k x) c gone) (cond b other came)) (sym w.0)
    (at_one (λ y. P y came) xs k c x (vacant came) (λ same. absurd (w.1 same)) (λ _. there))

-- What holds of a connection with its own bytes holds of each with its own.
pub at_both : (P : Connection → List ℕ → Type 0) (xs : List Connection) (k c : ℕ) (x : Connection) (came other : List ℕ)
    → ((l : List ℕ) → P gone l) → (k ≡ c → P x other) → P (get_or xs c gone) came
    → P (get_or (set xs k x) c gone) (cond (eqb k c) other came)
at_both P xs k c x came other vacant here there = at_both_by P xs k c x came other vacant here there (eqb_tells k c)

-- Nothing has come from a place without a connection.
pub vacant_heard : (came : List ℕ) → IsHeard gone came
vacant_heard came is_open = absurd cc

-- Nothing has come from a connection that was just opened.
pub heard_opened : (address now : ℕ) → IsHeard (opened address now) []
heard_opened address now is_open = record { taken = []; split = refl; typed = refl; said = tt }

-- Bytes that come are appended to what has come.
pub heard_more : (x : Connection) (came bytes : List ℕ) → IsHeard x came
    → IsHeard (record x { waiting = x.waiting ++ bytes }) (came ++ bytes)
heard_more x came bytes h is_open =
    let was = h is_open in record {
      taken = was.taken;
      split = ap (λ l. l ++ bytes) was.split
          ∙ append_assoc was.taken x.waiting bytes;
      typed = was.typed;
      said = was.said;
    }

-- the stage was changed
pub heard_to : (x y : Connection) (came : List ℕ) → is_gone x.stage ≡ false → y.decoder ≡ x.decoder
    → y.waiting ≡ x.waiting → ((lines : List (List ℕ)) → IsSaid x.stage lines → IsSaid y.stage lines) → IsHeard x came
    → IsHeard y came
heard_to x y came was_open decoder waiting said h is_open =
    let was = h was_open in record {
      taken = was.taken;
      split = was.split
          ∙ ap (λ (w : List ℕ). was.taken ++ w) (sym waiting);
      typed = decoder
          ∙ was.typed;
      said = said (reading_of was.taken).lines was.said;
    }

-- a byte was taken
reading_more : (taken : List ℕ) (byte : ℕ) → reading_of (taken ++ byte ∷ []) ≡ read_byte (reading_of taken) byte
reading_more taken byte = fold-append read_byte nothing_read taken (byte ∷ [])

-- A byte that is taken is decoded, and what has come stays the same.
pub heard_byte : (x y : Connection) (came : List ℕ) (byte : ℕ) (rest : List ℕ) → is_gone x.stage ≡ false
    → x.waiting ≡ byte ∷ rest → y.waiting ≡ rest → y.decoder ≡ (after_byte x.decoder byte).typed
    → ((lines : List (List ℕ)) → IsSaid x.stage lines → IsSaid y.stage
    (with_line (after_byte x.decoder byte).decoded lines)) → IsHeard x came → IsHeard y came
heard_byte x y came byte rest was_open waits waiting decoder said h is_open =
    let was = h was_open in
    let after = reading_more was.taken byte in
    let step : read_byte (reading_of was.taken) byte ≡ record {
      typed = (after_byte x.decoder byte).typed;
      lines = with_line (after_byte x.decoder byte).decoded (reading_of was.taken).lines;
    } =
    ap (λ (t : Typed). read_byte (record { typed = t; lines = (reading_of was.taken).lines }) byte) (sym was.typed) in
    record {
      taken = was.taken ++ byte ∷ [];
      split = was.split ∙ ap (λ (w : List ℕ). was.taken ++ w) (waits ∙ ap (λ (w : List ℕ). byte ∷ w) (sym waiting))
          ∙ sym (append_assoc was.taken (byte ∷ []) y.waiting);
      typed = decoder ∙ ap (λ (r : Reading). r.typed) (sym (after ∙ step));
      said = subst (λ (r : Reading). IsSaid y.stage r.lines) (sym (after ∙ step))
          (said (reading_of was.taken).lines was.said);
    }
