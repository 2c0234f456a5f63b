use Rattle.std.proofs.Common.{rules, ◌∙◌, ℕ, ap, slice_index}
use Rattle.std.specs.Int.{w64, to_be_bytes}
use Rattle.s370_store.specs.Memory.{with_stored}
use Rattle.s370_bytes.specs.Decimal.{decimal_of}
use Rattle.s370_bytes.proofs.Stored.{wrote}
use Rattle.s370_bytes.proofs.decimal.decimal_row.Goals as goal

pub returns-clause-row : goal.returns-clause-row
returns-clause-row g c =
    let before = g.S.Storage.memory c.args.storage.now in
    let number = λ (r : ℕ). decimal_of (slice_index c.args.cpu.now.general r) in
    wrote c.args.cpu.now before _ _ _ _ c.indexed-start.result 8
    (search rules)
    (c.to_be_bytes.ensures ∙ ap (λ (n : ℕ). to_be_bytes w64 n) (c.decimal_of-decimal.ensures
    ∙ ap number (c.index.ensures.value ∙ c.r1.ensures)))
    c.in_ok-span.ensures.passes
    (c.store.ensures.stored ∙ ap (λ (a : ℕ). with_stored before a c.to_be_bytes.result) c.get.ensures.value)
