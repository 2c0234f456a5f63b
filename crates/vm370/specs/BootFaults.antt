-- What the program says of a system that is not booted.
use Rattle.std.specs.Prelude.{ℕ, List, codes, ◌++◌}
use Rattle.user_names.specs.Users.{name_of}
use Rattle.cp_core.specs.declared.events.BootError.{BootError}
use Rattle.cp_core.specs.declared.events.BootError.TheVariants as refusals
use Rattle.programs.specs.BootFaults.{past_end_text}

-- the line for a boot that is refused, where the users have these names
abbrev pub refusal_text : List (List ℕ) → BootError → List ℕ
refusal_text names refusals.Memory = codes "fault: memory Memory"
refusal_text names refusals.TooFewFrames = codes "fault: boot TooFewFrames"
refusal_text names refusals.DuplicateVolume = codes "fault: boot DuplicateVolume"
refusal_text names (refusals.NoVolume volser) = codes "fault: boot NoVolume " ++ volser
refusal_text names (refusals.ExtentPastEnd user address) =
    past_end_text (name_of names user) address
refusal_text names refusals.DuplicateDevice = codes "fault: boot DuplicateDevice"

-- a boot that is refused is refused input, unless memory was
abbrev pub refusal_status : BootError → ℕ
refusal_status refusals.Memory = 4
refusal_status _ = 1
