use Rattle.ckd_image.proofs.OneAnswer.{one_answer}
use Rattle.ckd_image.proofs.laws.one_reading.Goals as goal

pub returns : goal.returns
returns c = one_answer
