-- Memory was refused to an event with room for the pages that it needs.
use Rattle.std.specs.Prelude.{◌≡◌, ℕ, List, true}
use Rattle.s370_channel.specs.Reading.{as_reached}
use Rattle.cp_frames.specs.Layout.{FrameSupply}
use Rattle.cp_dat.specs.declared.dat.Dat.{Dat}
use Rattle.cp_dat.specs.Lent.{lent_pool, user_of}
use Rattle.cp_trial.specs.DryRun.{HadRoomAfterFirst}
use Rattle.machine_devices.specs.Comes.{LineHadRoom, is_ipl}
use Rattle.machine_devices.specs.Equipped.{Equipped}
use Rattle.machine_devices.specs.Lines.{requested}
use Rattle.machine_devices.specs.Stopped.{ServeHadRoom}
use Rattle.cp_resident.specs.GuestChannels.{HadRoom}
use Rattle.cp_core.specs.Keeps.{IsLentSo}

-- there was room, as the channels say it of a user's storage: as it was borrowed from these frames,
-- and as it was when memory was refused
pub record HadFrames (user : ℕ) (e : Equipped) (before after : FrameSupply)
    (Had : Dat → Dat → Type 0) : Type 0 where
  pub old : Dat
  pub new : Dat
  pub lent : IsLentSo old user e before
  pub whose : user_of new ≡ user
  pub frames : (lent_pool new).supply ≡ after
  pub had : Had old new

-- for the program of a device that is served: no page has moved, or each page has its place that it
-- needs
abbrev pub ServeHadFrames : ℕ → ℕ → Equipped → FrameSupply → FrameSupply → Type 0
ServeHadFrames device user e before after =
    HadFrames user e before after (λ old new. ServeHadRoom as_reached HadRoom old new device e)

-- for a line that is an IPL: but for page 0, which may have been paged in before, no page has
-- moved, or each page has its place that the loading needs
pub record LineHadFrames (typed : List ℕ) (user : ℕ) (e : Equipped)
    (before after : FrameSupply) : Type 0 where
  pub loading : is_ipl (requested typed e) ≡ true
      → HadFrames user e before after
      (λ old new. LineHadRoom HadRoomAfterFirst old new (requested typed e) e)
