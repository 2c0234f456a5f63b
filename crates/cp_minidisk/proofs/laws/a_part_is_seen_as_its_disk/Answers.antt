use Rattle.std.proofs.Common.{refl}
use Rattle.cp_minidisk.proofs.laws.a_part_is_seen_as_its_disk.Goals as goal

pub returns : goal.returns
returns c = record {
  answer = λ p order. refl;
  started = λ p order. refl;
  done = λ p. refl;
  gives = λ p. refl;
  gave = λ p. refl;
  took = λ p byte. refl;
  status = λ p. refl;
  finished = λ p. refl;
}
