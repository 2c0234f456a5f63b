use Rattle.std.proofs.Common.{arith}
use Rattle.std.proofs.lemmas.Grind.{common_steps}
use Rattle.saved_bytes.proofs.Codes.{each_on}
use Rattle.s370_subchannels.specs.Saved.{subchannel_bytes}
use Rattle.s370_subchannels.proofs.saved.put_subchannels.Goals as goal

pub loop-subchannel-preserved : goal.loop-subchannel-preserved
loop-subchannel-preserved c =
    grind (
      arith,
      common_steps,
      each_on subchannel_bytes c.loop-subchannel.out.items c.args.list.now
          c.loop-subchannel.subchannel-index c.subchannel-item.result c.loop-subchannel-test.true,
    )
