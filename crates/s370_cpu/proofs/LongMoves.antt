-- Parts of an MVCL, after each of which the same MVCL is the next instruction.
use Rattle.std.proofs.Common.{◌≡◌, ℕ, zero, suc, ◌+◌, ◌-◌, ◌<◌, ◌≤◌, Bool, List, Ok, get_or, drop, length, slice_index}
use Rattle.std.proofs.Common.{slice_range, refl, sym, ◌∙◌, ap, arith, subst}
use Rattle.std.proofs.lemmas.List.{get_or-take, get_or-drop}
use Rattle.s370_store.proofs.Blocks.{block_passes}
use Rattle.s370_psw.specs.Fields.{Fields}
use Rattle.s370_rows.specs.declared.instruction.Instruction.{Instruction}
use Rattle.s370_rows.specs.declared.ending.Completion.TheVariants.{Again}
use Rattle.s370_rows.specs.State.{State}
use Rattle.s370_rows.specs.Rows.{MeetsRow}
use Rattle.s370_bytes.specs.Long.{AreParts, long_moved}
use Rattle.s370_cpu.specs.Fetch.{fetched, instruction_at}
use Rattle.s370_cpu.specs.Laws.{Rights, rights_of}
use Rattle.s370_cpu.specs.Opcodes.{opcode_at}
use Rattle.s370_cpu.specs.Table.{unit}
use Rattle.s370_cpu.specs.Unit.{Carries, MeetsUnit}
use Rattle.s370_cpu.specs.declared.conclude.Stop.TheVariants.{Done as DoneStop}
use Rattle.s370_cpu.proofs.Fetched.{fetch_finds, first_of, made, six_hold}
use Rattle.s370_cpu.specs.Held.{DoesUnits, IsLongMoveAt}
use Rattle.s370_cpu.proofs.Frequent.{long_quiet, quick_done, quick_unit}

abbrev long_move : ℕ → Instruction
long_move second_byte = record { opcode = 0x0E; second_byte = second_byte; second_half = 0; third_half = 0 }

second_of : (bytes : List ℕ) (a : ℕ) → get_or (slice_range bytes a (a + 6)) 1 0 ≡ get_or bytes (a + 1) 0
second_of bytes a = get_or-take (a + 6 - a) (drop a bytes) 1 0 (omega arith) ∙ get_or-drop a bytes 1 0

made_long : (o s h t second_byte : ℕ) (i : Instruction) → made o s h t ≡ i → o ≡ 0x0E → s ≡ second_byte
    → i ≡ long_move second_byte
made_long o s h t second_byte i e a b = sym e ∙ (ap (λ x. made x s h t) a ∙ ap (λ x. made 0x0E x h t) b)

long_at : (bytes : List ℕ) (a second_byte : ℕ) → slice_index bytes a ≡ 0x0E → slice_index bytes (a + 1) ≡ second_byte
    → second_byte < 256 → instruction_at bytes a ≡ long_move second_byte
long_at bytes a second_byte o s small =
    let six = slice_range bytes a (a + 6) in
    let first : get_or six 0 0 ≡ 0x0E = first_of bytes six a refl ∙ o in
    let second : get_or six 1 0 ≡ second_byte = second_of bytes a ∙ s in
    made_long _ _ _ _ second_byte (instruction_at bytes a) (six_hold bytes six a refl (rw second small)) first second

fetches : (m : State) (present : ℕ → Bool) (start second_byte : ℕ) → second_byte < 256
    → IsLongMoveAt m present start second_byte → (fetched m start).result ≡ Ok (long_move second_byte)
fetches m present start second_byte small h =
    fetch_finds m start h.even (block_passes _ _ _ _ h.block start 6 h.may_fetch h.begins (omega (arith, h.ends)))
    ∙ ap Ok (long_at m.bytes start second_byte h.opcode h.second small)

-- the unit that a part is
part_unit : (m m' : State) (present : ℕ → Bool) (start second_byte : ℕ) → start ≡ m.cpu.psw.address → second_byte < 256
    → IsLongMoveAt m present start second_byte → MeetsRow (long_moved m (long_move second_byte)) present m (Ok Again) m'
    → MeetsUnit (unit m) present m DoneStop m'
unfolding opcode_at
part_unit m m' present start second_byte here small h row =
    let fetch : (fetched m m.cpu.psw.address).result ≡ Ok (long_move second_byte) = subst
    (λ (a : ℕ). (fetched m a).result ≡ Ok (long_move second_byte)) here
    (fetches m present start second_byte small h) in
    let carries : Carries m 1 (long_move second_byte) = record {
      first = long_move second_byte;
      fetch = fetch;
      length_code = refl;
      execute = refl;
    } in
    quick_unit m 1 (long_move second_byte) Again m'.cpu present m' carries row refl

part_rights : (m m' : State) (present : ℕ → Bool) (i : Instruction) → MeetsRow (long_moved m i) present m (Ok Again) m'
    → rights_of m' ≡ rights_of m
part_rights m m' present i row = (quick_done (long_moved m i) present m Again m' (long_quiet m i) row).2

-- it is there as long as its bytes, the keys, the pages and the rights are the same
still_stands : (m m' : State) (present present' : ℕ → Bool) (start second_byte : ℕ) → length m'.bytes ≡ length m.bytes
    → rights_of m' ≡ rights_of m → present' ≡ present → ((k : ℕ) → k ≤ 1
    → slice_index m'.bytes (start + k) ≡ slice_index m.bytes (start + k)) → IsLongMoveAt m present start second_byte
    → IsLongMoveAt m' present' start second_byte
still_stands m m' present present' start second_byte size rights same kept h =
    let keys : m'.keys ≡ m.keys = ap (λ (r : Rights). r.keys) rights in
    let key : m'.cpu.psw.key ≡ m.cpu.psw.key = ap (λ (r : Rights). r.key) rights in
    let zero : start + 0 ≡ start = omega arith in
    record {
      block = h.block;
      may_fetch = record {
        aligned = h.may_fetch.aligned;
        inside = rw size h.may_fetch.inside;
        passed = rw (keys, key) h.may_fetch.passed;
        here = rw same h.may_fetch.here;
      };
      begins = h.begins;
      ends = h.ends;
      even = h.even;
      opcode = rw zero at (kept 0 (omega arith)) ∙ h.opcode;
      second = kept 1 (omega arith) ∙ h.second;
    }

-- what so many parts leave: so many units, and the MVCL as it was
pub record AreDone (n start second_byte : ℕ) (present : ℕ → Bool) (m m' : State) : Type 0 where
  pub units : DoesUnits n present m m'
  pub here : start ≡ m'.cpu.psw.address
  pub stands : IsLongMoveAt m' present start second_byte

-- Parts of a long move that are done are units that are done.
pub parts_done : (n start second_byte : ℕ) (present : ℕ → Bool) (m m' : State) → second_byte < 256
    → start ≡ m.cpu.psw.address → IsLongMoveAt m present start second_byte
    → AreParts n start present (long_move second_byte) m m' → AreDone n start second_byte present m m'
parts_done zero start second_byte present m m' small here stands same = record {
  units = same;
  here = subst (λ (x : State). start ≡ x.cpu.psw.address) (sym same) here;
  stands = subst (λ (x : State). IsLongMoveAt x present start second_byte) (sym same) stands;
}
parts_done (suc n) start second_byte present m m' small here stands (part, first, parts) =
    let unit_done = part_unit m part present start second_byte here small stands first.row in
    let rights = part_rights m part present (long_move second_byte) first.row in
    let rest = parts_done n start second_byte present part m' small (here
    ∙ sym (ap (λ (psw : Fields). psw.address) first.psw))
    (still_stands m part present present start second_byte first.size rights refl first.kept stands) parts in
    record { units = (part, unit_done, rights, rest.units); here = rest.here; stands = rest.stands }
