use Rattle.std.proofs.Common.{◌≡◌, ◌++◌, drop}
use Rattle.saved_bytes.specs.Codes.{each}
use Rattle.s370_subchannels.specs.Saved.{subchannel_bytes}
use Rattle.s370_subchannels.proofs.saved.put_subchannels.Given as goal

abbrev pub invariant-loop-subchannel : goal.invariant-loop-subchannel
invariant-loop-subchannel l = l.out.items ++ each subchannel_bytes
    (drop l.subchannel-index l.list) ≡ l.fn.out.items ++ each subchannel_bytes l.list
