use Rattle.std.proofs.Common.{ℕ, List, ap, sym, ◌∙◌}
use Rattle.user_names.specs.Users.{name_of}
use Rattle.vm370.proofs.Stated.{known_names}
use Rattle.vm370.proofs.installation.name_in.Goals as goal

pub returns : goal.returns
returns c =
    let named = rw (c.users.ensures.users, c.directory.ensures) at c.name_of.ensures in
    named ∙ ap (λ (l : List (List ℕ)). name_of l c.args.user) (sym (known_names c.args.system.now.directory))
