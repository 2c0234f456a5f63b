use Rattle.std.proofs.Common.{rules, ◌≡◌, ◌∙◌, ℕ, List, ap, arith, slice_index}
use Rattle.std.proofs.lemmas.Nat.{be_bytes_8}
use Rattle.std.specs.Int.{w64, to_be_bytes}
use Rattle.s370_bytes.specs.Combine.{combined}
use Rattle.s370_bytes.proofs.combine.combine_front.Goals.{After-to_be_bytes}
use Rattle.s370_bytes.proofs.combine.combine_front.Goals as goal

target_is : (c : After-to_be_bytes) → to_be_bytes w64 c.from_be_bytes-bytes.result ≡ c.args.target.now
target_is c = be_bytes_8 c.args.target.now c.from_be_bytes-bytes.result (search rules) (λ i. search rules)
    c.from_be_bytes-bytes.ensures

source_is : (c : After-to_be_bytes) → to_be_bytes w64 c.from_be_bytes.result ≡ c.args.source.now
source_is c = be_bytes_8 c.args.source.now c.from_be_bytes.result (search rules) (λ i. search rules)
    c.from_be_bytes.ensures

pub returns-clause-each : goal.returns-clause-each
returns-clause-each c k l =
    ap (λ (xs : List ℕ). slice_index xs k) c.to_be_bytes.ensures ∙ c.with_front.ensures.front k l
    ∙ c.eight-made.ensures k (omega (arith, l, c.requires.few))
    ∙ ap (λ (xs : List ℕ). combined c.args.operation (slice_index xs k)
    (slice_index (to_be_bytes w64 c.from_be_bytes.result) k)) (target_is c)
    ∙ ap (λ (xs : List ℕ). combined c.args.operation (slice_index c.args.target.now k) (slice_index xs k)) (source_is c)

pub returns-clause-rest : goal.returns-clause-rest
returns-clause-rest c k l =
    ap (λ (xs : List ℕ). slice_index xs k) c.to_be_bytes.ensures ∙ c.with_front.ensures.rest k l
    ∙ ap (λ (xs : List ℕ). slice_index xs k) (target_is c)
