use Rattle.ckd_image.proofs.Readings.{image_written, image_readable}
use Rattle.ckd_image.proofs.laws.reads_back.Goals as goal

pub returns : goal.returns
returns c = (image_written, image_readable)
