-- A System/370 with its operator's panel (GA22-7000, "Program States", "Resets"; docs/MACHINE.md).
use Rattle.std.specs.Prelude.{ℕ, false, List, [], ◌∷◌, ◌++◌, length, replicate}
use Rattle.s370_psw.specs.Fields.{Fields, fields_of}
use Rattle.s370_store.specs.Memory.{Memory}
use Rattle.s370_rows.specs.declared.cpu.Cpu.{Cpu}
use Rattle.s370_rows.specs.State.{State, state_of}
use Rattle.s370_intr.specs.declared.pending.Pending.{Pending}
use Rattle.s370_subchannels.specs.declared.subchannel.Subchannel.{Subchannel}
use Rattle.s370_subchannels.specs.Subchannels.{reset as reset_devices}
use Rattle.s370_intr.specs.Units.{Core, core_of}
use Rattle.machine_panel.specs.declared.machine.Mode.{Mode}
use Rattle.machine_panel.specs.declared.machine.Mode.TheVariants.{Off, Stopped, Running}

-- the processor with its storage, the external conditions that are pending and the subchannels of
-- its devices, whether it is on and runs, and the lines that its console has printed
pub record Machine : Type 0 where
  pub core : Core
  pub mode : Mode
  pub output : List (List ℕ)

-- no external condition is pending
abbrev pub nothing_pending : Pending
nothing_pending = record { timer = false; key = false }

-- the control registers of a reset machine: register 0 lets the timer, the interrupt key and
-- external signals interrupt
abbrev pub reset_control : List ℕ
reset_control = 0xE0 ∷ replicate 15 0

-- a processor after a reset: general registers stay
abbrev pub reset_cpu : List ℕ → Cpu
reset_cpu general = record { general = general; control = reset_control; psw = fields_of 0 }

-- SYSTEM RESET: general registers, storage, keys and what was printed stay; no device works or has
-- a status pending
abbrev pub reset : Machine → Machine
reset m = record m {
  core = core_of (record m.core.processor { cpu = reset_cpu m.core.processor.cpu.general })
      nothing_pending (reset_devices m.core.subchannels);
  mode = Stopped;
}

-- general registers, storage and keys are zero
abbrev pub zeroed : State → State
zeroed s = record {
  cpu = record s.cpu { general = replicate 16 0 };
  bytes = replicate (length s.bytes) 0;
  keys = replicate (length s.keys) 0;
}

-- LOGON: a reset machine of which general registers, storage and keys are zero too
abbrev pub cleared : Machine → Machine
cleared m = let r = reset m in record
    r { core = record r.core { processor = zeroed r.core.processor } }

-- LOGOFF: a cleared machine that is off
abbrev pub switched_off : Machine → Machine
switched_off m = record (cleared m) { mode = Off }

-- a machine that was never switched on, with a storage as large as this and these devices: a
-- cleared one that is off, and has printed nothing
abbrev pub unused : Memory → List Subchannel → Machine
unused m devices =
    let new : Machine = record {
      core = core_of (state_of (reset_cpu (replicate 16 0)) m)
          nothing_pending devices;
      mode = Off;
      output = [];
    } in
    switched_off new

-- a line more on the console
abbrev pub printed : Machine → List ℕ → Machine
printed m text = record m { output = m.output ++ text ∷ [] }

-- the machine with these subchannels
abbrev pub with_subchannels : Machine → List Subchannel → Machine
with_subchannels m list = record m { core = record m.core { subchannels = list } }

-- the machine runs from this PSW on
abbrev pub started : Machine → Fields → Machine
started m psw =
    record m {
      core = record
          m.core {
            processor = record
                m.core.processor { cpu = record m.core.processor.cpu { psw = psw } };
          };
      mode = Running;
    }

-- ---- a machine whose storage is apart

-- a machine but for its storage, and for how many lines its console has room
pub record Parts : Type 0 where
  pub cpu : Cpu
  pub pending : Pending
  pub subchannels : List Subchannel
  pub mode : Mode
  pub output : List (List ℕ)
  pub room : ℕ

-- the machine that it is with this storage
abbrev pub machine_of : Parts → Memory → Machine
machine_of p m = record {
  core = core_of (state_of p.cpu m) p.pending p.subchannels;
  mode = p.mode;
  output = p.output;
}
