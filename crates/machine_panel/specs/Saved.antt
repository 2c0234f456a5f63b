-- The bytes of a machine but for its storage, in a saved state. For how many lines its console has
-- room is not among them.
use Rattle.std.specs.Prelude.{ℕ, List, ◌++◌}
use Rattle.saved_bytes.specs.Codes.{each, flag, number}
use Rattle.cp_console.specs.Saved.{printed_bytes}
use Rattle.s370_psw.specs.Fields.{Fields}
use Rattle.s370_rows.specs.declared.cpu.Cpu.{Cpu}
use Rattle.s370_rows.specs.State.{state_of}
use Rattle.s370_intr.specs.declared.pending.Pending.{Pending}
use Rattle.s370_intr.specs.Units.{core_of}
use Rattle.s370_store.specs.Memory.{Memory}
use Rattle.s370_subchannels.specs.declared.subchannel.Subchannel.{Subchannel}
use Rattle.s370_subchannels.specs.Saved.{subchannels_bytes}
use Rattle.machine_panel.specs.declared.machine.Mode.{Mode}
use Rattle.machine_panel.specs.declared.machine.Mode.TheVariants.{Off, Stopped, Running}
use Rattle.machine_panel.specs.Machine.{Machine, Parts}

-- ---- the processor

-- the bytes of a PSW's masks and key
abbrev pub psw_masks_bytes : Fields → List ℕ
psw_masks_bytes f = number f.system_mask ++ (number f.key ++ number f.program_mask)

-- the bytes of a PSW's flags
abbrev pub psw_flags_bytes : Fields → List ℕ
psw_flags_bytes f = flag f.extended ++ (flag f.machine_check ++ (flag f.wait ++ flag f.problem))

-- the bytes of a PSW
abbrev pub psw_bytes : Fields → List ℕ
psw_bytes f = psw_masks_bytes f ++ (psw_flags_bytes f ++ (number f.condition ++ number f.address))

unfoldable pub cpu_bytes : Cpu → List ℕ
cpu_bytes c = each number c.general ++ (each number c.control ++ psw_bytes c.psw)

-- ---- the machine

-- the bytes of the external conditions that are pending
abbrev pub pending_bytes : Pending → List ℕ
pending_bytes p = flag p.timer ++ flag p.key

-- the number of a mode
abbrev pub mode_number : Mode → ℕ
mode_number Off = 0
mode_number Stopped = 1
mode_number Running = 2

-- the bytes of a mode
abbrev pub mode_bytes : Mode → List ℕ
mode_bytes mode = number (mode_number mode)

-- what is kept of a machine's parts
pub record SavedParts : Type 0 where
  pub cpu : Cpu
  pub pending : Pending
  pub subchannels : List Subchannel
  pub mode : Mode
  pub output : List (List ℕ)

-- what a saved state has of a machine's parts
abbrev pub saved_of : Parts → SavedParts
saved_of p = record {
  cpu = p.cpu;
  pending = p.pending;
  subchannels = p.subchannels;
  mode = p.mode;
  output = p.output;
}

-- the machine that they are with this storage: that of the parts (machine_of)
abbrev pub restored_of : SavedParts → Memory → Machine
restored_of p m = record {
  core = core_of (state_of p.cpu m) p.pending p.subchannels;
  mode = p.mode;
  output = p.output;
}

-- the bytes of what a saved state has of a machine
abbrev pub saved_parts_bytes : SavedParts → List ℕ
saved_parts_bytes p =
    cpu_bytes p.cpu ++ (pending_bytes p.pending
    ++ (subchannels_bytes p.subchannels ++ (mode_bytes p.mode ++ printed_bytes p.output)))

-- the bytes of a machine without its storage
abbrev pub machine_bytes : Parts → List ℕ
machine_bytes p = saved_parts_bytes (saved_of p)
