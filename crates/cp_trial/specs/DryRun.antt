-- What holds of a program that was tried and then runs, or for which there is no room.
use Rattle.std.specs.Prelude.{ℕ, ◌*◌, ◌<◌, ◌≡◌, ◌⊎◌, Bool, List, length, true}
use Rattle.s370_channel.specs.declared.words.Caw.{Caw}
use Rattle.s370_channel.specs.Guest.{guest_written}
use Rattle.s370_channel.specs.Loading.{loading, loading_limits}
use Rattle.s370_channel.specs.Progress.{setting}
use Rattle.s370_channel.specs.Runs.{begun, limited}
use Rattle.s370_channel.specs.Supplied.{IsTouched}
use Rattle.s370_walk.specs.declared.parts.Ending.{Ending}
use Rattle.s370_store.specs.Memory.{Memory}
use Rattle.s370_walk.specs.Hardware.{Machine}
use Rattle.s370_walk.specs.Walk.{Over, Reaches, Setting, State, live}
use Rattle.channel_trial.specs.DryRun.{IsTried}
use Rattle.cp_dat.specs.declared.dat.Dat.{Dat}
use Rattle.cp_dat.specs.Copies.{CameOnly, StandAll}
use Rattle.cp_dat.specs.Lent.{is_lent_page, lent_bytes, lent_memory, lent_pool, user_of}
use Rattle.cp_dat.specs.Supplied.{HasNoRoom}

-- there is no room for such a page of the storage
pub record LacksSuch (IsSuch : ℕ → Type 0) (storage : Dat) : Type 0 where
  pub page : ℕ
  pub inside : page * 4096 < length (lent_bytes storage)
  pub such : IsSuch page
  pub out : HasNoRoom (lent_pool storage).supply (user_of storage) page

-- the walk comes to this ending, with this device, and some storage
pub record EndsSomehow {D : Type 0} (h : Setting D) (from : State D) (ending : Ending)
    (device : D) : Type 0 where
  pub memory : Memory
  pub comes : Reaches (live guest_written) h from (Over ending memory device)

-- each page has its place that this walk was seen to touch, when it was tried
pub record IsPlaced {D : Type 0} (h : Setting D) (from : State D) (m : Memory)
    (storage : Dat) : Type 0 where
  pub bytes : List ℕ
  pub flags : List Bool
  pub tried : IsTried h from m bytes flags
  pub stand : StandAll storage flags

-- only the page of the PSW came, and it is in a frame
pub record HasFirst (old new : Dat) : Type 0 where
  pub paged_in : CameOnly old (λ page. page ≡ 0) 1 new
  pub there : is_lent_page new 0 ≡ true

-- nothing has happened, or each page that the program touches has its place
abbrev pub HadRoom : (D : Type 0) → Machine D → Dat → Caw → D → Dat → Type 0
HadRoom D machine old start d new =
    (new ≡ old) ⊎ IsPlaced (limited machine start) (begun start (lent_memory old) d)
    (lent_memory old) new

-- the same of a loading
abbrev pub HadRoomToLoad : (D : Type 0) → Machine D → Dat → D → Dat → Type 0
HadRoomToLoad D machine old d new =
    (new ≡ old) ⊎ IsPlaced (setting machine loading_limits) (loading machine (lent_memory old) d)
    (lent_memory old) new

-- and of one before which the page of the PSW comes
abbrev pub HadRoomAfterFirst : (D : Type 0) → Machine D → Dat → D → Dat → Type 0
HadRoomAfterFirst D machine old d new = HasFirst old new ⊎ HadRoomToLoad D machine old d new

-- the pages that a loading needs: those that its walk touches, and that of the PSW
abbrev pub LoadTouches : {D : Type 0} → Machine D → Memory → D → ℕ → Type 0
LoadTouches machine m part page =
    (page ≡ 0) ⊎ IsTouched guest_written (setting machine loading_limits) (loading machine m part)
    page
