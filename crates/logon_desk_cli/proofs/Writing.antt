-- What is written, one output and one place after another; and that 80 strangers are some.
use Rattle.std.proofs.Common.{◌≡◌, ℕ, ◌+◌, ◌<◌, ◌≤◌, Bool, true, false, cond, List, [], ◌∷◌, ◌++◌, count_by, length}
use Rattle.std.proofs.Common.{take, get_or, ap, sym, ◌∙◌, arith, subst}
use Rattle.std.proofs.lemmas.List.{append_assoc, append-nil, take_more}
use Rattle.std.proofs.lemmas.List.Elements.{All-weaker}
use Rattle.std.proofs.lemmas.List.Sums.{sum_by-le}
use Rattle.std.specs.List.{All}
use Rattle.logon_desk.specs.Desk.{Desk}
use Rattle.logon_desk.specs.Strangers.{is_stranger}
use Rattle.logon_desk.specs.declared.connection.Connection.{Connection}
use Rattle.logon_desk.specs.declared.output.DeskAction.{DeskAction}
use Rattle.logon_desk_cli.specs.Answered.{is_read, read_lines}
use Rattle.logon_desk_cli.specs.Printed.{line, output_line, printed}
use Rattle.std.specs.Prelude.{codes}

printed-more : (outputs : List DeskAction) (output : DeskAction) → printed (outputs ++ output ∷ []) ≡ printed outputs
    ++ output_line output
printed-more [] output = append-nil (output_line output)
printed-more (first ∷ outputs) output =
    ap (λ (more : List ℕ). output_line first ++ more) (printed-more outputs output)
    ∙ sym (append_assoc (output_line first) (printed outputs) (output_line output))

-- One more action is printed as its line.
pub printed-take : (outputs : List DeskAction) (i : ℕ) (d : DeskAction) → i < length outputs
    → printed (take (i + 1) outputs) ≡ printed (take i outputs) ++ output_line (get_or outputs i d)
printed-take outputs i d inside = ap printed (take_more outputs i d inside) ∙ printed-more (take i outputs)
    (get_or outputs i d)

-- the line that a place is read, if it is
abbrev pub read_line : Desk → ℕ → List ℕ
read_line d place = cond (is_read d place) (line (codes "READ") place []) []

read-more : (d : Desk) (places : List ℕ) (place : ℕ) → read_lines d (places ++ place ∷ []) ≡ read_lines d places
    ++ read_line d place
read-more d [] place = append-nil (read_line d place)
read-more d (first ∷ places) place =
    ap (λ (more : List ℕ). read_line d first ++ more) (read-more d places place)
    ∙ sym (append_assoc (read_line d first) (read_lines d places) (read_line d place))

read-take : (d : Desk) (places : List ℕ) (i : ℕ) → i < length places
    → read_lines d (take (i + 1) places) ≡ read_lines d (take i places) ++ read_line d (get_or places i 0)
read-take d places i inside = ap (read_lines d) (take_more places i 0 inside) ∙ read-more d (take i places)
    (get_or places i 0)

-- A connection that is read is printed as such.
pub read-yes : (d : Desk) (places : List ℕ) (i : ℕ) → i < length places → is_read d (get_or places i 0) ≡ true
    → read_lines d (take (i + 1) places) ≡ read_lines d (take i places) ++ line (codes "READ") (get_or places i 0) []
read-yes d places i inside is =
    read-take d places i inside
    ∙ ap (λ (b : Bool). read_lines d (take i places) ++ cond b (line (codes "READ") (get_or places i 0) []) []) is

-- A connection that is not read is printed as nothing.
pub read-no : (d : Desk) (places : List ℕ) (i : ℕ) → i < length places → is_read d (get_or places i 0) ≡ false
    → read_lines d (take (i + 1) places) ≡ read_lines d (take i places)
read-no d places i inside is =
    read-take d places i inside
    ∙ ap (λ (b : Bool). read_lines d (take i places) ++ cond b (line (codes "READ") (get_or places i 0) []) []) is
    ∙ append-nil (read_lines d (take i places))

none-by : (b : Bool) → b ≡ false → cond b 1 0 ≤ 0
none-by b is = subst (λ (v : Bool). cond v 1 0 ≤ 0) (sym is) (omega arith)

-- Where no connection is a stranger none is counted.
pub no-strangers : (connections : List Connection) → All (λ (x : Connection). is_stranger x ≡ false) connections
    → count_by is_stranger connections ≤ 0
no-strangers connections none =
    let at-most = sum_by-le (λ (x : Connection). cond (is_stranger x) 1 0) 0 connections
    (All-weaker (λ (x : Connection). is_stranger x ≡ false) (λ (x : Connection). cond (is_stranger x) 1 0 ≤ 0)
    (λ (x : Connection). none-by (is_stranger x)) connections none) in
    omega (arith, at-most)
