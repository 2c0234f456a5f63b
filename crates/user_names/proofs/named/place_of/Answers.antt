use Rattle.std.proofs.Common.{◌∙◌, rules, tests}
use Rattle.std.specs.Str.{bytes_eq}
use Rattle.std.proofs.lemmas.Iterator.{YieldsList-from_slice}
use Rattle.std.proofs.lemmas.Iterator.Search.{position_from_yields_List}
use Rattle.user_names.proofs.Maps.{position_map}
use Rattle.user_names.proofs.named.place_of.Goals as goal

pub returns-clause-value : goal.returns-clause-value
returns-clause-value g c =
    position_from_yields_List (λ v. bytes_eq c.args.name.now (g.N.Named.name v)) _ _ c.position.result
    c.position.ensures.ran (YieldsList-from_slice c.args.users.now cc) (λ x b q k. search (rules, tests))
    ∙ position_map (bytes_eq c.args.name.now) g.N.Named.name c.args.users.now
