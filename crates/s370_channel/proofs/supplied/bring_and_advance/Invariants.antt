use Rattle.std.proofs.Common.{◌≡◌, ℕ, List, length}
use Rattle.s370_channel.specs.Guest.{guest_written}
use Rattle.s370_channel.specs.Halts.{stands}
use Rattle.s370_channel.specs.Supplied.{IsAskedFor}
use Rattle.s370_channel.proofs.Few.{AreDistinct}
use Rattle.s370_channel.proofs.supplied.bring_and_advance.Given as goal

abbrev pub invariant-page : goal.invariant-page
invariant-page g l = record {
  memory : g.S.Storage.memory l.storage ≡ g.S.Storage.memory l.fn.storage;
  device : l.device ≡ l.fn.device;
  supply : (pages : List ℕ) × g.S.Supply.Brought l.fn.storage pages l.storage
      × IsAskedFor guest_written g.D.Device.machine (stands l.fn.from (g.S.Storage.memory l.fn.storage) l.fn.device)
      (length (g.S.Storage.memory l.fn.storage).bytes) pages
      × AreDistinct pages;
}

abbrev pub decreases-page : goal.decreases-page
decreases-page g l = g.S.Supply.spare l.storage
