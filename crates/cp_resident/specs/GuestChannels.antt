-- Channels of users, and the pages that come for them.
use Rattle.std.specs.Prelude.{◌≡◌, ◌⊎◌, ℕ, ◌<◌, ◌≤◌, false, List, [], length, refl, Result, Ok, Err}
use Rattle.std.proofs.Common.{◌∙◌, arith, subst, sym}
use Rattle.s370_channel.specs.declared.running.ChannelError.{ChannelError}
use Rattle.s370_channel.specs.declared.running.ChannelError.TheVariants as errors
use Rattle.s370_channel.specs.declared.words.Caw.{Caw}
use Rattle.s370_channel.specs.Runs.{begun, limited}
use Rattle.s370_walk.specs.declared.parts.Ending.{Ending}
use Rattle.s370_walk.specs.Hardware.{Machine}
use Rattle.cp_frames.specs.Layout.{FrameSupply, is_there}
use Rattle.cp_dat.specs.declared.dat.Dat.{Dat}
use Rattle.cp_dat.specs.Copies.{times_in}
use Rattle.cp_dat.specs.Lent.{KeepsStored, keeps_frames, keeps_frames_on, keeps_rest_same}
use Rattle.cp_dat.specs.Lent.{lent_keys, lent_memory, lent_pool, user_of}
use Rattle.cp_dat.specs.Letting.{came_none}
use Rattle.cp_dat.specs.Supplied.{HasSuch, IsBetweenUnits, IsBroughtInUnits, SuppliedUnits}
use Rattle.cp_trial.specs.Holding.{ArePagesHeld}
use Rattle.cp_trial.specs.DryRun.{IsPlaced}
use Rattle.cp_trial.specs.declared.DryRunError.{DryRunError}
use Rattle.cp_trial.specs.declared.DryRunError.TheVariants as tries
use Rattle.machine_channels.specs.Disks.{DiskAt}
use Rattle.cp_volumes.specs.Keeping.{neighbours_on, neighbours_same}
use Rattle.cp_volumes.specs.Shared.{DisksValue, KeepsOtherDisks, seen}
use Rattle.cp_resident.specs.declared.resident.GuestChannels.{GuestChannels}
use Rattle.cp_resident.specs.Reuse.{ReuseValue, dropped}

-- the minidisks that hang on the channels of a user, and the volumes on which they are
abbrev pub hung_on : GuestChannels → DisksValue
hung_on r = r.disks

-- the programs of his devices that are kept, and how often one was run again
abbrev pub reuse_of : GuestChannels → ReuseValue
reuse_of r = r.reuse

-- none is kept any longer
abbrev pub Forgets : GuestChannels → GuestChannels → Type 0
Forgets old new = reuse_of new ≡ dropped (reuse_of old)

-- the disks that he sees
abbrev pub disks_on : GuestChannels → List DiskAt
disks_on r = seen (hung_on r)

-- what others have on the volumes is as it was
abbrev pub KeepsHung : GuestChannels → GuestChannels → Type 0
KeepsHung old new = KeepsOtherDisks (hung_on old) (hung_on new)

-- other users' cylinders stay between channels and themselves
pub hung_same : (r : GuestChannels) → KeepsHung r r
hung_same r = neighbours_same (hung_on r)

-- two steps that keep other users' cylinders keep them together
pub hung_further : (r s t : GuestChannels) → KeepsHung r s → KeepsHung s t → KeepsHung r t
hung_further r s t h g = neighbours_on (hung_on r) (hung_on s) (hung_on t) h g

-- why a program does not run that was tried
abbrev pub error_of : DryRunError → ChannelError
error_of tries.Memory = errors.Memory
error_of tries.FramesOut = errors.Absent (record { 0 = 0 })

-- how a program ended that was tried, or why it does not run
abbrev pub told_by : Result Ending DryRunError → Result Ending ChannelError
told_by (Ok ending) = Ok ending
told_by (Err error) = Err (error_of error)

-- a page of a user is in no frame, and each frame has one of his
pub record IsFilled (supply : FrameSupply) (user page : ℕ) : Type 0 where
  pub absent : is_there supply.owners user page ≡ false
  pub owned : (frame : ℕ) → frame < length supply.owners
      → HasSuch user (λ page. Unit {0}) supply.owners frame

-- memory was refused to his program with room for its pages: none has moved; or they are in frames,
-- where no input can change it; or each has its place that it touches
abbrev pub HadRoom : (D : Type 0) → Machine D → Dat → Caw → D → Dat → Type 0
HadRoom D machine old start d new =
    ((lent_pool new).supply ≡ (lent_pool old).supply)
    ⊎ (ArePagesHeld (lent_memory old) start.address new
    ⊎ IsPlaced (limited machine start) (begun start (lent_memory old) d) (lent_memory old) new)

-- ---- pages that come in units

-- just these pages came, in these units, each at most so often, and no key was set
pub record PagedIn (most : ℕ) (old : Dat) (units : List (List ℕ)) (new : Dat) : Type 0 where
  pub paged_in : SuppliedUnits old units new
  pub often : (page : ℕ) → times_in page units ≤ most
  pub keys : lent_keys new ≡ lent_keys old

-- nothing is paged in where nothing happens
pub came_nowhere : (n : ℕ) (d : Dat) → IsBetweenUnits (lent_pool d).supply → PagedIn n d [] d
came_nowhere n d between = record {
  paged_in = came_none d d 0 between (keeps_rest_same d);
  often = λ page. omega arith;
  keys = refl;
}

-- a store after pages came in brings none
pub came_further : (n : ℕ) (s t u : Dat) (units : List (List ℕ)) → PagedIn n s units t
    → KeepsStored t u → PagedIn n s units u
came_further n s t u units c kept = record {
  paged_in = record {
    kept = keeps_frames_on s t u c.paged_in.kept (keeps_frames t u kept.rest);
    brought = subst (λ (supply : FrameSupply).
        IsBroughtInUnits (user_of s) units (lent_pool s).supply supply) (sym kept.rest.same_supply)
        c.paged_in.brought;
  };
  often = c.often;
  keys = kept.keys ∙ c.keys;
}
