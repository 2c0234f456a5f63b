use Rattle.cp_frames.specs.Layout.{bytes_of}
use Rattle.cp_frames.proofs.Packed.{zero_packed}
use Rattle.cp_frames.proofs.pool.Frames.save_page.Goals as goal

pub returns-in-None : goal.returns-in-None
returns-in-None c = rw (zero_packed (bytes_of c.args.self.now c.args.user) c.args.page.0 c.in-None.ensures.zero)
    c.put_zero.ensures
