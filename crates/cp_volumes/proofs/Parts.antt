-- What a program leaves of a minidisk that is mounted on the unit of its volume.
use Rattle.std.specs.Prelude.{◌≡◌, refl, None, IfOk, Result, Ok, Err}
use Rattle.std.proofs.Common.{subst, sym}
use Rattle.s370_walk.specs.declared.parts.Ending.{Ending}
use Rattle.s370_store.specs.Memory.{Memory}
use Rattle.s370_walk.specs.Walk.{Setting, State, Over, Reaches, live, start_spot}
use Rattle.s370_channel.specs.declared.words.Caw.{Caw}
use Rattle.s370_channel.specs.Guest.{guest_written}
use Rattle.s370_channel.specs.Loading.{loading, loading_limits, implied_word}
use Rattle.s370_channel.specs.Progress.{setting}
use Rattle.s370_channel.specs.Reading.{as_reached}
use Rattle.s370_channel.specs.Runs.{Walks, limited}
use Rattle.ckd_volume.specs.Unit.{disk_machine}
use Rattle.machine_channels.specs.Channels.{WalksLoading}
use Rattle.cp_minidisk.specs.Kept.{Keeps, device_in}
use Rattle.cp_minidisk.specs.Part.{Part, disk_seen, extent_of, part_machine}
use Rattle.cp_minidisk.specs.PartLaws.{HasSameOtherDisks}
use Rattle.cp_minidisk.specs.Placed.{IsReadOnly}
use Rattle.cp_minidisk.specs.Projected.{seen}
use Rattle.cp_minidisk.proofs.Along as along
use Rattle.cp_minidisk.proofs.Parting.{HasExtentOf, extent_kept, extent_same, follows, neighbours_kept, read_only_kept}
use Rattle.cp_minidisk.proofs.Walked as walked
use Rattle.s370_walk.specs.Viewed.{IsViewed}
use Rattle.cp_trial.specs.declared.DryRunError.{DryRunError}
use Rattle.cp_trial.specs.declared.DryRunError.TheVariants as tries
use Rattle.cp_volumes.specs.Running.{KeepsVolume}

-- ---- what is kept in each step

record IsKept (p q : Part) : Type 0 where
  other_disks : HasSameOtherDisks p q
  extent : HasExtentOf (extent_of p) q
  read_only : IsReadOnly p.disk.cylinders p.disk → IsReadOnly p.disk.cylinders q.disk

each_keeps : (p : Part) → Keeps part_machine (IsKept p)
each_keeps p =
    let n = neighbours_kept p in
    let x = extent_kept (extent_of p) in
    let r = read_only_kept p.disk.cylinders in
    record {
      started = λ q order i. record {
        other_disks = n.started q order i.other_disks;
        extent = x.started q order i.extent;
        read_only = λ only. r.started q order (i.read_only only);
      };
      gave = λ q i. record {
        other_disks = n.gave q i.other_disks;
        extent = x.gave q i.extent;
        read_only = λ only. r.gave q (i.read_only only);
      };
      took = λ q byte i. record {
        other_disks = n.took q byte i.other_disks;
        extent = x.took q byte i.extent;
        read_only = λ only. r.took q byte (i.read_only only);
      };
      finished = λ q i. record {
        other_disks = n.finished q i.other_disks;
        extent = x.finished q i.extent;
        read_only = λ only. r.finished q (i.read_only only);
      };
    }

at_first : (p : Part) → IsKept p p
at_first p = record {
  other_disks = record { volser = refl; below = refl; above = refl };
  extent = record { start = refl; count = refl; mode = refl };
  read_only = λ only. only;
}

kept_volume : (p q : Part) → IsKept p q → KeepsVolume p q
kept_volume p q i = record {
  other_disks = i.other_disks;
  extent = extent_same (extent_of p) q i.extent;
  read_only = λ only. (rw (i.other_disks.below, i.other_disks.above, (i.read_only only).same) refl);
}

-- ---- a program

abbrev on_part : Caw → Setting Part
on_part start = limited part_machine start

-- A program's walk on a minidisk is one on its disk.
pub program_walks : (start : Caw) (m n : Memory) (p q : Part) (end : Ending)
    → Walks as_reached part_machine start m p end n q → Walks as_reached disk_machine start m p.disk end n q.disk
program_walks start m n p q end to =
    walked.reaches_seen (λ (x : Part). x.disk) (on_part start) disk_machine follows (as_reached m) _ _ to

-- A program's walk on a minidisk leaves the rest of the volume as it is.
pub program_keeps : (start : Caw) (m n : Memory) (p q : Part) (end : Ending)
    → Walks as_reached part_machine start m p end n q → KeepsVolume p q
program_keeps start m n p q end to =
    kept_volume p q (along.reach_keeps (on_part start) (IsKept p) (each_keeps p) (as_reached m) _ _ to (at_first p))

-- ---- the program of an initial program loading

abbrev loading_part : Setting Part
loading_part = setting part_machine loading_limits

pub loading_walks : (m n : Memory) (p q : Part) (end : Ending) → WalksLoading part_machine m p end n q
    → WalksLoading disk_machine m p.disk end n q.disk
loading_walks m n p q end to =
    let first : seen (λ (x : Part). x.disk) (loading part_machine m p) ≡ loading disk_machine m p.disk =
    walked.of_entry (λ (x : Part). x.disk) loading_part disk_machine follows (start_spot 0) implied_word None m p in
    let whole = walked.reaches_seen (λ (x : Part). x.disk) loading_part disk_machine follows (live guest_written) _ _ to
    in
    subst (λ (s : State _). Reaches (live guest_written) (setting disk_machine loading_limits) s (Over end n q.disk))
    first whole

pub loading_keeps : (m n : Memory) (p q : Part) (end : Ending) → WalksLoading part_machine m p end n q → KeepsVolume p q
loading_keeps m n p q end to =
    let first : IsKept p (device_in (loading part_machine m p)) =
    along.of_entry loading_part (IsKept p) (each_keeps p) (start_spot 0) implied_word None m p (at_first p) in
    kept_volume p q (along.reach_keeps loading_part (IsKept p) (each_keeps p) (live guest_written) _ _ to first)

-- a minidisk that was mounted, and on which nothing ran, is as it was
pub kept_same : (p : Part) → KeepsVolume p p
kept_same p = kept_volume p p (at_first p)

-- ---- a program that was tried

-- A minidisk is seen as its disk.
pub part_viewed : IsViewed part_machine disk_machine disk_seen
part_viewed = record {
  answer = λ p order. refl;
  started = λ p order. refl;
  done = λ p. refl;
  gives = λ p. refl;
  gave = λ p. refl;
  took = λ p byte. refl;
  status = λ p. refl;
  finished = λ p. refl;
}

-- A dry run that ends on a minidisk ends on its disk.
pub walks_ok : (start : Caw) (m n : Memory) (p q : Part) (r : Result Ending DryRunError)
    → IfOk r (λ end. Walks as_reached part_machine start m p end n q)
    → IfOk r (λ end. Walks as_reached disk_machine start m p.disk end n q.disk)
walks_ok start m n p q (Ok end) walk = program_walks start m n p q end walk
walks_ok start m n p q (Err error) walk = tt

-- A dry run leaves the rest of the volume as it is, however it ends.
pub keeps_ok : (start : Caw) (m n : Memory) (p q : Part) (r : Result Ending DryRunError)
    → IfOk r (λ end. Walks as_reached part_machine start m p end n q) → (r ≡ Err tries.Memory → q ≡ p)
    → (r ≡ Err tries.FramesOut → q ≡ p) → KeepsVolume p q
keeps_ok start m n p q (Ok end) walk memory out = program_keeps start m n p q end walk
keeps_ok start m n p q (Err tries.Memory) walk memory out =
    subst (λ (x : Part). KeepsVolume p x) (sym (memory refl)) (kept_same p)
keeps_ok start m n p q (Err tries.FramesOut) walk memory out =
    subst (λ (x : Part). KeepsVolume p x) (sym (out refl)) (kept_same p)

-- A loading that ends on a minidisk ends on its disk.
pub loads_ok : (m n : Memory) (p q : Part) (r : Result Ending DryRunError)
    → IfOk r (λ end. WalksLoading part_machine m p end n q)
    → IfOk r (λ end. WalksLoading disk_machine m p.disk end n q.disk)
loads_ok m n p q (Ok end) walk = loading_walks m n p q end walk
loads_ok m n p q (Err error) walk = tt

-- A loading leaves the rest of the volume as it is, however it ends.
pub load_keeps_ok : (m n : Memory) (p q : Part) (r : Result Ending DryRunError)
    → IfOk r (λ end. WalksLoading part_machine m p end n q) → (r ≡ Err tries.Memory → q ≡ p)
    → (r ≡ Err tries.FramesOut → q ≡ p) → KeepsVolume p q
load_keeps_ok m n p q (Ok end) walk memory out = loading_keeps m n p q end walk
load_keeps_ok m n p q (Err tries.Memory) walk memory out =
    subst (λ (x : Part). KeepsVolume p x) (sym (memory refl)) (kept_same p)
load_keeps_ok m n p q (Err tries.FramesOut) walk memory out =
    subst (λ (x : Part). KeepsVolume p x) (sym (out refl)) (kept_same p)
