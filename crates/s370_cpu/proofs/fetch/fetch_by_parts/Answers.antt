use Rattle.std.proofs.Common.{rules, ◌≡◌, ℕ, ◌+◌, ◌-◌, ◌/◌, ◌%◌, ◌<◌, ◌≤◌, List, Ok, length, true, false, if◌then◌else◌}
use Rattle.std.proofs.Common.{arith, sym, ◌∙◌, ap}
use Rattle.std.proofs.lemmas.Grind.{common_steps}
use Rattle.std.proofs.lemmas.Bool.Decides.{nat_tests}
use Rattle.s370_rows.specs.declared.instruction.Instruction.{Instruction}
use Rattle.s370_rows.specs.State.{state_of}
use Rattle.s370_rows.specs.Rows.{half_at}
use Rattle.s370_cpu.specs.Fetch.{halfwords_of}
use Rattle.s370_cpu.proofs.Fetched.{parts_found, three_hold}
use Rattle.s370_cpu.proofs.fetch.fetch_by_parts.Goals as goal
use Rattle.s370_cpu.proofs.fetch.fetch_by_parts.Goals.{then-halfwords-gt1+in_ok-grant-2, else-halfwords-gt1}

pub returns-then-halfwords-gt2 : goal.returns-then-halfwords-gt2
returns-then-halfwords-gt2 g c =
    let m = state_of c.args.cpu.now (g.S.Storage.memory c.args.storage.now) in
    elim c.if-halfwords-gt1.branch [
      | then-halfwords-gt1+in_ok-grant-2 w ↦ (let here : c.get-start.result ≡ c.args.at = c.get-start.ensures.value in
          let h : c.load_halfword-first.result ≡ half_at m.bytes c.args.at = rw
          (← here) c.load_halfword-first.ensures in
          let n : c.get-halfwords.result ≡ halfwords_of (half_at m.bytes c.args.at / 256) = rw (← h)
          (c.get-halfwords.ensures.value ∙ c.length_of.ensures) in
          parts_found m c.args.at c.get-halfwords.result _ c.requires (rw (← here) c.in_ok-grant.ensures.0) n
          (omega (arith, w.if-halfwords-gt1.true)) (rw (← here) w.in_ok-grant-2.ensures.0)
          (rw w.instruction-is (three_hold m.bytes c.args.at c.load_halfword-first.result _ w.load_halfword.result
          c.load_halfword-then-halfwords-gt2.result c.get-halfwords.result n
          (omega (arith, c.if-halfwords-gt2.true)) h (omega arith) (rw (← here) w.load_halfword.ensures)
          (rw (← here) c.load_halfword-then-halfwords-gt2.ensures))))
      | else-halfwords-gt1 w ↦ absurd (omega (arith, w.if-halfwords-gt1.false, c.if-halfwords-gt2.true))
    ]
