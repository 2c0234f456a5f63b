-- How a serve ends for which a user's storage is borrowed, with the pages that it needs paged in.
use Rattle.std.specs.Prelude.{◌≡◌, ℕ, Bool, true, Err, IfOk, IsSome, OnErr, OnOk, Result}
use Rattle.s370_store.specs.declared.Storage.{Ghosts as Storage}
use Rattle.s370_subchannels.specs.Programs.{program_of}
use Rattle.machine_channels.specs.declared.channels.Channels.{Ghosts as Channels}
use Rattle.machine_channels.specs.declared.channels.Disks.{Ghosts as Disks}
use Rattle.machine_channels.specs.Channels.{Brings, serve_times}
use Rattle.machine_panel.specs.declared.line.LineError.{LineError}
use Rattle.machine_panel.specs.declared.line.LineError.TheVariants as errors
use Rattle.machine_devices.specs.Borrowed.{Borrowed, IsOut, machine_in}
use Rattle.machine_devices.specs.Devices.{kind_at}
use Rattle.machine_devices.specs.Equipped.{Equipped}
use Rattle.machine_devices.specs.Lent.{KeepsOtherUsers}
use Rattle.machine_devices.specs.Reuses.{MayHaveRun, StartReuses}
use Rattle.machine_devices.specs.Serve.{IsServedAt, ServeNeeds}
use Rattle.machine_devices.specs.Stopped.{ServeHadRoom}

module _ {C S : Type 0} (channels : Channels C S) (disks : Disks C) (storage : Storage S) where
  -- a serve on channels that run a program as a whole, where the machine was such
  pub record ServeSuppliedAs (device : ℕ) (before after : Equipped) (old new : Borrowed C S)
      (r : Result Bool LineError) : Type 0 where
    pub served : IfOk r (λ done. IsServedAt channels.reads device before done after)
    pub unchanged_without_frames : r ≡ Err errors.FramesOut → after ≡ before
    pub frames : r ≡ Err errors.FramesOut
        → IsOut channels storage (ServeNeeds channels.holds device before) old.storage new.storage
    pub memory : r ≡ Err errors.Memory → IsSome (program_of device old.machine.subchannels)
    pub roomy : r ≡ Err errors.Memory
        → ServeHadRoom channels.reads channels.HadRoom old.storage new.storage device before
    pub paged_in : Brings (channels.Came serve_times) old.storage
        (ServeNeeds channels.holds device before) new.storage
    pub ready : channels.IsReady new.storage
    pub kept : OnOk r (StartReuses channels.Reuses channels.ReusesDisk old.channels old.storage
        new.channels (kind_at before.devices before.disks device)
        (program_of device old.machine.subchannels) true)
    pub kept_if_refused : OnErr r ((done : Bool)
        × MayHaveRun (kind_at before.devices before.disks device) done
        × StartReuses channels.Reuses channels.ReusesDisk old.channels old.storage new.channels
        (kind_at before.devices before.disks device) (program_of device old.machine.subchannels)
        done)
    pub others : disks.KeepsOthers old.channels new.channels
    pub other_users : KeepsOtherUsers old.devices old.queues new.devices new.queues

  -- a serve on channels that run a program as a whole
  abbrev pub ServeSupplied : ℕ → Borrowed C S → Borrowed C S → Result Bool LineError → Type 0
  ServeSupplied device old new r =
      ServeSuppliedAs device (machine_in disks storage old) (machine_in disks storage new) old new r
