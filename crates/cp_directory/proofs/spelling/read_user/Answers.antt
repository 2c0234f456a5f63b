use Rattle.cp_directory.proofs.spelling.read_user.Goals as goal

pub returns : goal.returns
returns c = rw (c.in_ok-name.ensures.words, c.in_ok-password.ensures.words, c.in_ok-size.ensures) c.user_of.ensures
