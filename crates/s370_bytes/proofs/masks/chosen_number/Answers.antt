use Rattle.std.proofs.Common.{rules, ◌∙◌, ℕ, take, ap}
use Rattle.s370_bytes.specs.Strings.{number}
use Rattle.s370_bytes.proofs.Fronts.{front_of_four}
use Rattle.s370_bytes.proofs.masks.chosen_number.Goals as goal

pub returns : goal.returns
returns c =
    c.front_number.ensures
    ∙ ap number (front_of_four c.gather.new.into c.chosen_count.result c.gather.array_long c.chosen_count.ensures.few
    ∙ ap (λ (n : ℕ). take n c.gather.new.into) c.chosen_count.ensures.value ∙ c.gather.ensures ∙ search rules)
