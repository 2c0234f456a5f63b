use Rattle.std.proofs.Common.{ℕ, subst, sym}
use Rattle.s370_walk.specs.Walk.{Fetching, Over, Reaches, start_spot}
use Rattle.s370_channel.specs.Reading.{as_reached}
use Rattle.s370_channel.specs.Runs.{Walks, limited}
use Rattle.cp_minidisk.specs.Part.{part_machine}
use Rattle.cp_needs.specs.Words.{IsFixedStill}
use Rattle.cp_volumes.proofs.Parts.{program_keeps, program_walks}
use Rattle.cp_volumes.proofs.running.run_mounted_held.Goals as goal

pub run_held-requires : goal.run_held-requires
run_held-requires g c = record {
  still = subst (λ (a : ℕ).
      IsFixedStill (g.S.Storage.memory c.args.storage.now) (g.S.Storage.present c.args.storage.now) a)
      (sym c.get.ensures.value) c.requires;
}

pub returns-clause-walk : goal.returns-clause-walk
returns-clause-walk g c =
    let m = g.S.Storage.memory c.args.storage.now in
    let n = g.S.Storage.memory c.run_held.new.storage in
    let walked : Walks as_reached part_machine c.args.start m c.args.mounted.now c.in-Ok.ending n
    c.run_held.new.device =
    subst (λ (a : ℕ). Reaches (as_reached m) (limited part_machine c.args.start)
    (Fetching (start_spot a) m c.args.mounted.now) (Over c.in-Ok.ending n c.run_held.new.device))
    c.get.ensures.value c.in-Ok.ensures.reaches in
    program_walks c.args.start m n c.args.mounted.now c.run_held.new.device c.in-Ok.ending walked

pub returns-clause-volume : goal.returns-clause-volume
returns-clause-volume g c =
    let m = g.S.Storage.memory c.args.storage.now in
    let n = g.S.Storage.memory c.run_held.new.storage in
    let walked : Walks as_reached part_machine c.args.start m c.args.mounted.now c.in-Ok.ending n
    c.run_held.new.device =
    subst (λ (a : ℕ). Reaches (as_reached m) (limited part_machine c.args.start)
    (Fetching (start_spot a) m c.args.mounted.now) (Over c.in-Ok.ending n c.run_held.new.device))
    c.get.ensures.value c.in-Ok.ensures.reaches in
    program_keeps c.args.start m n c.args.mounted.now c.run_held.new.device c.in-Ok.ending walked
