use Rattle.s370_channel.specs.Reading.{as_reached}
use Rattle.cp_core.specs.Alone.{own_of_all}
use Rattle.cp_core.specs.Histories.{own}
use Rattle.cp_core.specs.System.{user_at}
use Rattle.cp_core.proofs.Alone.{lives_through}
use Rattle.cp_core.proofs.laws.each_equals_a_bare_machine.Goals as goal

pub returns-clause-whole : goal.returns-clause-whole
returns-clause-whole c = λ first last steps user there alone history names lives.
    c.a_life_comes_to_one_end.ensures.apart as_reached there (own user first steps) (user_at first user)
    (user_at last user) alone names (c.each_is_bare.ensures first last steps history user) lives

pub returns-clause-restored : goal.returns-clause-restored
returns-clause-restored c = λ first last steps more user there alone goes names lives.
    c.a_life_comes_to_one_end.ensures.apart as_reached there (own_of_all user first steps more last goes)
    (user_at first user) (user_at last user) alone names
    (lives_through c.each_is_bare.ensures c.one_by_saved.ensures user first steps more last goes) lives
