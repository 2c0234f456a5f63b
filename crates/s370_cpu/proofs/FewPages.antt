-- The pages that a unit asks for are in one list of at most eight, and of at most six where it is interrupted.
use Rattle.std.proofs.Common.{◌≡◌, ℕ, ◌+◌, ◌-◌, ◌*◌, ◌/◌, ◌%◌, ◌^◌, ◌<◌, ◌≤◌, ◌⊎◌, Bool, true, false, List, [], ◌∷◌}
use Rattle.std.proofs.Common.{◌++◌, length, length-append, Option, Some, None, Result, Ok, Err, refl, sym, ◌∙◌, ap}
use Rattle.std.proofs.Common.{arith, inl, inr}
use Rattle.std.specs.Prelude.{◌==◌, if◌then◌else◌, nat_lt, bit_or, slice_index, All, Contains}
use Rattle.std.proofs.lemmas.List.Elements.{All-head, All-tail, Contains-append_left, Contains-append_right}
use Rattle.std.proofs.lemmas.Nat.{or_lt}
use Rattle.s370_psw.specs.declared.ProgramCode.{ProgramCode}
use Rattle.s370_psw.specs.declared.ProgramCode.TheVariants.{Specification}
use Rattle.s370_store.specs.Access.{Test, Touches}
use Rattle.s370_store.proofs.Verdicts.{either_page}
use Rattle.s370_rows.specs.declared.ending.Completion.{Completion}
use Rattle.s370_rows.specs.declared.ending.Completion.TheVariants.{Done, Branch, Again, Interrupted}
use Rattle.s370_rows.specs.declared.ending.Completion.TheVariants.{SupervisorCall as Called, InputOutput as Asked}
use Rattle.s370_rows.specs.declared.instruction.Instruction.{Instruction}
use Rattle.s370_rows.specs.declared.place.Place.{Place}
use Rattle.s370_rows.specs.State.{State}
use Rattle.s370_rows.specs.Formats.{r1_of, r2_of, indexed_address}
use Rattle.s370_rows.specs.Rows.{Left, unless, outcome_of, fault_of, fetch_test, half_at}
use Rattle.s370_cpu.specs.declared.conclude.Stop.{Stop}
use Rattle.s370_cpu.specs.declared.conclude.Stop.TheVariants.{Done as DoneStop, Program, Svc, InputOutput, Privileged}
use Rattle.s370_cpu.specs.declared.conclude.Stop.TheVariants.{Absent}
use Rattle.s370_cpu.specs.Fetch.{Asks, Fetched, fetched, fetched_after, rest_fetched, rest_tests, halfwords_of}
use Rattle.s370_cpu.specs.Execute.{executed, target_of}
use Rattle.s370_cpu.specs.Table.{row_of, unit}
use Rattle.s370_cpu.specs.Unit.{concluded, carried, place_at, unit_executed, unit_fetched}
use Rattle.s370_cpu.specs.Laws.{AreAtMost, UnitsAskForFewPages}
use Rattle.s370_cpu.proofs.Fetched.{short}
use Rattle.s370_cpu.proofs.FewTests.{most_ranges, row_fits}

-- ---- pages in a list

-- At most so many is at most more.
pub at_most : (m n : ℕ) (holds : ℕ → Type 0) → m ≤ n → AreAtMost m holds → AreAtMost n holds
at_most m n holds l a = let few = a.few in record { pages = a.pages; few = omega arith; all = a.all }

-- Fewer pages are at most as many.
pub at_most_of : (n : ℕ) (holds others : ℕ → Type 0) → ((page : ℕ) → others page → holds page) → AreAtMost n holds
    → AreAtMost n others
at_most_of n holds others f a = record { pages = a.pages; few = a.few; all = λ page h. a.all page (f page h) }

-- Where there is none there are at most none.
pub none_at_all : (holds : ℕ → Type 0) → ((page : ℕ) → holds page → ⊥) → AreAtMost 0 holds
none_at_all holds f = record { pages = []; few = omega arith; all = λ page h. absurd (f page h) }

-- Pages of two kinds are at most as many as both together.
pub either_at_most : (m n : ℕ) (holds others : ℕ → Type 0) → AreAtMost m holds → AreAtMost n others
    → AreAtMost (m + n) (λ page. holds page ⊎ others page)
either_at_most m n holds others a b =
    let few = a.few in
    let less = b.few in
    record {
      pages = a.pages ++ b.pages;
      few = omega (arith, length-append a.pages b.pages);
      all = λ page h. elim h [
        | inl x ↦ Contains-append_left a.pages b.pages page (a.all page x)
        | inr y ↦ Contains-append_right a.pages b.pages page (b.all page y)
      ];
    }

-- ---- the pages of a range: that of its first byte, and that of its last

abbrev ends : ℕ → ℕ → List ℕ
ends a b = a / 4096 ∷ b / 4096 ∷ []

in_ends : (start k n last page : ℕ) → n ≤ 256 → last + 1 ≡ start + n → k < n → page ≡ (start + k) / 4096
    → Contains (ends start last) page
in_ends start k n last page few e h is = elim (either_page start k n last few e h) [
  | inl f ↦ (0, omega arith, sym (is ∙ f))
  | inr f ↦ (1, omega arith, sym (is ∙ f))
]

abbrev Touches_one : Test → ℕ → Type 0
Touches_one t page = (k : ℕ) × (k < t.count) × (page ≡ (t.start + k) / 4096)

one_touched : (t : Test) → t.count ≤ 256 → AreAtMost 2 (Touches_one t)
one_touched t few = record {
  pages = ends t.start (t.start + 255);
  few = omega arith;
  all = λ page h. in_ends t.start h.0 256 (t.start + 255) page (omega arith) (omega arith) (omega (arith, h.1)) h.2;
}

-- A range of at most 256 bytes touches at most two pages.
pub touched : (ts : List Test) → All (λ t. t.count ≤ 256) ts → AreAtMost (2 * length ts) (Touches ts)
touched [] few = none_at_all (Touches []) (λ page h. h)
touched (t ∷ ts) few =
    let P : Test → Type 0 = λ t. t.count ≤ 256 in
    let both = either_at_most 2 (2 * length ts) (Touches_one t) (Touches ts) (one_touched t (All-head P t ts few))
    (touched ts (All-tail P t ts few)) in
    at_most (2 + 2 * length ts) (2 * length (t ∷ ts)) (Touches (t ∷ ts)) (omega arith) both

-- ---- stages

asks_either : (m : State) (ss ts : List (List Test)) (page : ℕ) → Asks m (ss ++ ts) page → Asks m ss page
    ⊎ Asks m ts page
asks_either m [] ts page h = inr h
asks_either m (s ∷ ss) ts page (inl x) = inl (inl x)
asks_either m (s ∷ ss) ts page (inr x) = elim (asks_either m ss ts page x) [ inl y ↦ inl (inr y) | inr y ↦ inr y ]

stages_at_most : (m : State) (ss ts : List (List Test)) (j k n : ℕ) → j + k ≤ n → AreAtMost j (Asks m ss)
    → AreAtMost k (Asks m ts) → AreAtMost n (Asks m (ss ++ ts))
stages_at_most m ss ts j k n l a b =
    let both = either_at_most j k (Asks m ss) (Asks m ts) a b in
    at_most (j + k) n (Asks m (ss ++ ts)) l (at_most_of (j + k) (λ page. Asks m ss page ⊎ Asks m ts page)
    (Asks m (ss ++ ts)) (asks_either m ss ts) both)

no_stages : (m : State) → AreAtMost 0 (Asks m [])
no_stages m = none_at_all (Asks m []) (λ page h. h)

-- ---- a fetch: an instruction lies in the page of its first byte and that of the sixth

first_in : (a page : ℕ) → Touches (fetch_test a 2 ∷ []) page → Contains (ends a (a + 5)) page
first_in a page (inl h) = in_ends a h.0 6 (a + 5) page (omega arith) (omega arith) (omega (arith, h.1)) h.2
first_in a page (inr h) = absurd h

rest_in : (a n page : ℕ) (more : Bool) → n ≤ 3 → Touches (if more then fetch_test (a + 2) (2 * (n - 1)) ∷ [] else [])
    page → Contains (ends a (a + 5)) page
rest_in a n page true l (inl h) =
    let is : page ≡ (a + (2 + h.0)) / 4096 = h.2 ∙ ap (λ x. x / 4096) (omega arith) in
    in_ends a (2 + h.0) 6 (a + 5) page (omega arith) (omega arith) (omega (arith, h.1)) is
rest_in a n page true l (inr h) = absurd h
rest_in a n page false l h = absurd h

after_in : (m : State) (a : ℕ) (o : Option ProgramCode) (page : ℕ) → Asks m (fetched_after m a o).stages page
    → Contains (ends a (a + 5)) page
after_in m a (Some code) page (inl h) = first_in a page h.touched
after_in m a (Some code) page (inr h) = absurd h
after_in m a None page (inl h) = first_in a page h.touched
after_in m a None page (inr (inl h)) =
    let n = halfwords_of (half_at m.bytes a / 256) in rest_in a n page (nat_lt 1 n)
    (short (half_at m.bytes a / 256)) h.touched
after_in m a None page (inr (inr h)) = absurd h

even_in : (m : State) (a : ℕ) (even : Bool) (f : Fetched) (page : ℕ)
    → (Asks m f.stages page → Contains (ends a (a + 5)) page)
    → Asks m (if even then f else record { stages = []; result = Err Specification }).stages page
    → Contains (ends a (a + 5)) page
even_in m a true f page g h = g h
even_in m a false f page g h = absurd h

fetch_asks : (m : State) (a : ℕ) → AreAtMost 2 (Asks m (fetched m a).stages)
fetch_asks m a =
    let o = fault_of m (fetch_test a 2 ∷ []) in
    record {
      pages = ends a (a + 5);
      few = omega arith;
      all = λ page h. even_in m a (a % 2 == 0)
          (fetched_after m a o) page (after_in m a o page) h;
    }

either_asks : (m : State) (b : Bool) (f g : Fetched) → AreAtMost 2 (Asks m f.stages) → AreAtMost 2 (Asks m g.stages)
    → AreAtMost 2 (Asks m (if b then f else g).stages)
either_asks m true f g h k = h
either_asks m false f g h k = k

-- the target of EX
execute_asks : (m : State) (i : Instruction) → AreAtMost 2 (Asks m (executed m i).stages)
execute_asks m i =
    let f = fetched m (indexed_address m.cpu (r2_of i) i.second_half) in
    let none = at_most 0 2 (Asks m []) (omega arith) (no_stages m) in
    either_asks m (i.opcode == 0x44) (record { stages = f.stages; result = target_of m i f.result })
    (record { stages = []; result = Ok i }) (fetch_asks m (indexed_address m.cpu (r2_of i) i.second_half)) none

-- ---- the second byte of an instruction that is carried out is a byte

abbrev HasByte : Result Instruction ProgramCode → Type 0
HasByte (Err code) = Unit {0}
HasByte (Ok i) = i.second_byte < 2 ^ 8

rest_byte : (m : State) (a : ℕ) (o : Option ProgramCode) → HasByte (rest_fetched m a o)
rest_byte m a (Some code) = tt
rest_byte m a None = omega arith

after_byte : (m : State) (a : ℕ) (o : Option ProgramCode) → HasByte (fetched_after m a o).result
after_byte m a (Some code) = tt
after_byte m a None = rest_byte m a (fault_of m (rest_tests a (halfwords_of (half_at m.bytes a / 256))))

either_byte : (b : Bool) (f g : Fetched) → HasByte f.result → HasByte g.result → HasByte (if b then f else g).result
either_byte true f g h k = h
either_byte false f g h k = k

fetch_byte : (m : State) (a : ℕ) → HasByte (fetched m a).result
fetch_byte m a =
    let o = fault_of m (fetch_test a 2 ∷ []) in
    either_byte (a % 2 == 0) (fetched_after m a o) (record { stages = []; result = Err Specification })
    (after_byte m a o) tt

either_joined : (b : Bool) (i j : Instruction) → i.second_byte < 2 ^ 8 → j.second_byte < 2 ^ 8
    → (if b then i else j).second_byte < 2 ^ 8
either_joined true i j h k = h
either_joined false i j h k = k

target_byte : (m : State) (i : Instruction) (r : Result Instruction ProgramCode) → HasByte r → HasByte (target_of m i r)
target_byte m i (Err code) h = tt
target_byte m i (Ok target) h =
    let x = slice_index m.cpu.general (r1_of i) % 256 in
    either_joined (r1_of i == 0) target (record target { second_byte = bit_or target.second_byte x }) h
    (or_lt 8 target.second_byte x h (omega arith))

execute_byte : (m : State) (i : Instruction) → i.second_byte < 2 ^ 8 → HasByte (executed m i).result
execute_byte m i h =
    let f = fetched m (indexed_address m.cpu (r2_of i) i.second_half) in
    let g = target_byte m i f.result (fetch_byte m (indexed_address m.cpu (r2_of i) i.second_half)) in
    either_byte (i.opcode == 0x44) (record { stages = f.stages; result = target_of m i f.result })
    (record { stages = []; result = Ok i }) g h

-- ---- the operands of a row

-- how many pages the operands have, by how the unit stops: four, but two where it is interrupted, and none where it
-- asks a device
abbrev pub operand_pages : Stop → ℕ
operand_pages DoneStop = 4
operand_pages (Program code ilc) = 2
operand_pages (Svc n ilc) = 2
operand_pages (InputOutput operation device) = 0
operand_pages (Privileged i ilc) = 4
operand_pages (Absent page) = 4

-- of ranges that are tested
ranges_ask : (m : State) (ts : List Test) (n k : ℕ) → All (λ t. t.count ≤ 256) ts → length ts ≤ n → 2 * n ≤ k
    → AreAtMost k (Asks m (ts ∷ []))
ranges_ask m ts n k few l room =
    let asked : (page : ℕ) → Asks m (ts ∷ []) page → Touches ts page = λ page h. elim h
    [ inl x ↦ x.touched | inr y ↦ absurd y ] in
    at_most (2 * length ts) k (Asks m (ts ∷ [])) (omega (arith, l, room))
    (at_most_of (2 * length ts) (Touches ts) (Asks m (ts ∷ [])) asked (touched ts few))

-- of ranges whose tests fail no page is asked for
failed_ask : (m : State) (ts : List Test) (code : ProgramCode) (k : ℕ) → fault_of m ts ≡ Some code
    → AreAtMost k (Asks m (ts ∷ []))
failed_ask m ts code k e =
    let asked : (page : ℕ) → Asks m (ts ∷ []) page → ⊥ = λ page h. elim h [
      | inl x ↦ (let passes = sym e ∙ x.passes in
          cc)
      | inr y ↦ absurd y
    ] in
    at_most 0 k (Asks m (ts ∷ [])) (omega arith) (none_at_all (Asks m (ts ∷ [])) asked)

ended_asks : (m : State) (place : Place) (ts : List Test) (ending : Completion) (l : Left) → All (λ t. t.count ≤ 256) ts
    → length ts ≤ most_ranges None (Ok (record l { ending = ending })) →
    AreAtMost (operand_pages (concluded m place (outcome_of m (Ok (record l { ending = ending })))).stop)
    (Asks m (ts ∷ []))
ended_asks m place ts Done l few h = ranges_ask m ts 2 4 few h (omega arith)
ended_asks m place ts (Branch a) l few h = ranges_ask m ts 2 4 few h (omega arith)
ended_asks m place ts Again l few h = ranges_ask m ts 2 4 few h (omega arith)
ended_asks m place ts (Interrupted code) l few h = ranges_ask m ts 1 2 few h (omega arith)
ended_asks m place ts (Called n) l few h = ranges_ask m ts 1 2 few h (omega arith)
ended_asks m place ts (Asked operation device) l few h = ranges_ask m ts 0 0 few h (omega arith)

row_asks : (m : State) (place : Place) (ts : List Test) (refused fault : Option ProgramCode)
    (leaves : Result Left ProgramCode) → fault_of m ts ≡ fault → All (λ t. t.count ≤ 256) ts
    → length ts ≤ most_ranges refused leaves →
    AreAtMost (operand_pages (concluded m place (outcome_of m (unless refused (unless fault leaves)))).stop)
    (Asks m (ts ∷ []))
row_asks m place ts (Some code) fault leaves f few h = ranges_ask m ts 1 2 few h (omega arith)
row_asks m place ts None (Some code) leaves f few h = failed_ask m ts code 2 f
row_asks m place ts None None (Err code) f few h = ranges_ask m ts 1 2 few h (omega arith)
row_asks m place ts None None (Ok l) f few h = ended_asks m place ts l.ending l few h

carried_asks : (m : State) (place : Place) (i : Instruction) → i.second_byte < 2 ^ 8
    → (let u = carried row_of m place i in AreAtMost (operand_pages u.ran.stop) (Asks m u.stages))
carried_asks m place i h =
    let r = row_of m place i in
    let fits = row_fits m place i h in
    row_asks m place r.tests r.refused (fault_of m r.tests) r.leaves refl fits.short fits.ranges

-- ---- units

executed_asks : (m : State) (ss : List (List Test)) (place : Place) (r : Result Instruction ProgramCode)
    → AreAtMost 4 (Asks m ss) → HasByte r → (let u = unit_executed row_of m ss place r in
    AreAtMost (4 + operand_pages u.ran.stop) (Asks m u.stages))
executed_asks m ss place (Err code) a h = at_most 4 6 (Asks m ss) (omega arith) a
executed_asks m ss place (Ok i) a h =
    let u = carried row_of m place i in
    stages_at_most m ss u.stages 4 (operand_pages u.ran.stop) (4 + operand_pages u.ran.stop) (omega arith) a
    (carried_asks m place i h)

fetched_asks : (m : State) (ss : List (List Test)) (r : Result Instruction ProgramCode) → AreAtMost 2 (Asks m ss)
    → HasByte r → (let u = unit_fetched row_of m ss r in AreAtMost (4 + operand_pages u.ran.stop) (Asks m u.stages))
fetched_asks m ss (Err code) a h = at_most 2 6 (Asks m ss) (omega arith) a
fetched_asks m ss (Ok i) a h =
    let x = executed m i in
    executed_asks m (ss ++ x.stages) (place_at m (halfwords_of i.opcode)) x.result
    (stages_at_most m ss x.stages 2 2 4 (omega arith) a (execute_asks m i)) (execute_byte m i h)

-- two pages for the instruction, two for the target of EX, and those of the operands
pub unit_asks : (m : State) → (let u = unit m in AreAtMost (4 + operand_pages u.ran.stop) (Asks m u.stages))
unit_asks m = let f = fetched m m.cpu.psw.address in fetched_asks m f.stages f.result (fetch_asks m m.cpu.psw.address)
    (fetch_byte m m.cpu.psw.address)

operands_few : (stop : Stop) → operand_pages stop ≤ 4
operands_few DoneStop = omega arith
operands_few (Program code ilc) = omega arith
operands_few (Svc n ilc) = omega arith
operands_few (InputOutput operation device) = omega arith
operands_few (Privileged i ilc) = omega arith
operands_few (Absent page) = omega arith

-- A unit asks for few pages.
pub units_ask_for_few_pages : UnitsAskForFewPages
units_ask_for_few_pages m =
    let u = unit m in at_most (4 + operand_pages u.ran.stop) 8 (Asks m u.stages)
    (omega (arith, operands_few u.ran.stop)) (unit_asks m)
