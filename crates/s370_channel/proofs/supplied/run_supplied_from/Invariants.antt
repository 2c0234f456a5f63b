use Rattle.std.proofs.Common.{◌≡◌, ℕ, List}
use Rattle.s370_walk.specs.Walk.{Reaches, live}
use Rattle.s370_channel.specs.Guest.{guest_written}
use Rattle.s370_channel.specs.Halts.{IsReady, place_weight, stands}
use Rattle.s370_channel.specs.Progress.{setting}
use Rattle.s370_channel.specs.Supplied.{EachSuch, IsTouched}
use Rattle.s370_channel.proofs.supplied.run_supplied_from.Given as goal

abbrev pub invariant-unit : goal.invariant-unit
invariant-unit g l =
    let h = setting g.D.Device.machine l.fn.limits in
    let first = stands l.fn.from (g.S.Storage.memory l.fn.storage) l.fn.device in
    record {
      reaches : Reaches (live guest_written) h first (stands l.place (g.S.Storage.memory l.storage) l.device);
      ready : IsReady l.place;
      between : g.S.UnitSupply.IsBetween l.storage;
      ample : g.S.AmpleSupply.IsAmple l.storage;
      paged_in : (units : List (List ℕ)) × g.S.UnitSupply.Came l.fn.storage units l.storage
          × EachSuch (IsTouched guest_written h first) units;
      keys : (g.S.Storage.memory l.storage).keys ≡ (g.S.Storage.memory l.fn.storage).keys;
    }

abbrev pub decreases-unit : goal.decreases-unit
decreases-unit g l = place_weight l.limits.commands l.place
