use Rattle.std.proofs.Common.{arith, sym}
use Rattle.std.proofs.lemmas.Grind.{common_steps}
use Rattle.saved_bytes.proofs.Codes.{each_got}
use Rattle.cp_spool.specs.Queues.{files_of}
use Rattle.cp_spool.specs.Saved.{file_bytes}
use Rattle.cp_spool.specs.File.{closed_file}
use Rattle.cp_spool.proofs.queues.Queues.put_punched.Goals as goal

pub loop-index-preserved : goal.loop-index-preserved
loop-index-preserved c =
    grind (
      arith,
      common_steps,
      each_got file_bytes c.loop-index.out.items ((files_of c.args.self.now.users c.args.user).punched)
          c.loop-index.index (closed_file c.in-Some.file.now) (sym c.in-Some.ensures),
    )
