-- Bytes are those of one machine, but for its storage.
use Rattle.std.specs.Prelude.{ℕ, ◌≡◌, ◌==◌, refl, if◌then◌else◌, List, Bool}
use Rattle.saved_bytes.specs.Codes.{both, each, flag, number, IsCode}
use Rattle.saved_bytes.proofs.Codes.{both_code, each_code, flag_code, number_code, of_parts}
use Rattle.cp_console.specs.Saved.{printed_bytes}
use Rattle.cp_console.proofs.PrintedCodes.{printed_code}
use Rattle.s370_psw.specs.Fields.{Fields}
use Rattle.s370_rows.specs.declared.cpu.Cpu.{Cpu}
use Rattle.s370_intr.specs.declared.pending.Pending.{Pending}
use Rattle.s370_store.specs.Memory.{Memory}
use Rattle.s370_subchannels.specs.Saved.{subchannels_bytes}
use Rattle.s370_subchannels.proofs.SubchannelCodes.{subchannels_code}
use Rattle.machine_panel.specs.declared.machine.Mode.{Mode}
use Rattle.machine_panel.specs.declared.machine.Mode.TheVariants.{Off, Stopped, Running}
use Rattle.machine_panel.specs.Machine.{Parts, machine_of}
use Rattle.machine_panel.specs.Saved.{psw_masks_bytes, psw_flags_bytes, psw_bytes, cpu_bytes, pending_bytes}
use Rattle.machine_panel.specs.Saved.{mode_number, mode_bytes, SavedParts, saved_of, restored_of, saved_parts_bytes}

-- ---- the processor

pub psw_code : IsCode psw_bytes
psw_code =
    let masks = both_code number (both number number) number_code (both_code number number number_code number_code) in
    let two = both_code flag flag flag_code flag_code in
    let flags = both_code flag (both flag (both flag flag)) flag_code (both_code flag (both flag flag) flag_code two) in
    let last = both_code number number number_code number_code in
    let behind = both_code (both flag (both flag (both flag flag))) (both number number) flags last in
    of_parts (both (both number (both number number))
    (both (both flag (both flag (both flag flag))) (both number number)))
    (both_code (both number (both number number)) (both (both flag (both flag (both flag flag))) (both number number))
    masks behind)
    (λ (f : Fields). (
      (f.system_mask, (f.key, f.program_mask)),
      ((f.extended, (f.machine_check, (f.wait, f.problem))), (f.condition, f.address)),
    ))
    (λ p. record {
      system_mask = p.0.0;
      key = p.0.1.0;
      extended = p.1.0.0;
      machine_check = p.1.0.1.0;
      wait = p.1.0.1.1.0;
      problem = p.1.0.1.1.1;
      condition = p.1.1.0;
      program_mask = p.0.1.1;
      address = p.1.1.1;
    })
    (λ f. refl)

pub cpu_code : IsCode cpu_bytes
unfolding cpu_bytes
cpu_code =
    let registers = each_code number number_code in
    let control = both_code (each number) psw_bytes registers psw_code in
    of_parts (both (each number) (both (each number) psw_bytes))
    (both_code (each number) (both (each number) psw_bytes) registers control)
    (λ (c : Cpu). (c.general, (c.control, c.psw))) (λ p. record { general = p.0; control = p.1.0; psw = p.1.1 })
    (λ c. refl)

-- ---- the machine

pub pending_code : IsCode pending_bytes
pending_code =
    of_parts (both flag flag) (both_code flag flag flag_code flag_code)
    (λ (p : Pending). (p.timer, p.key)) (λ p. record { timer = p.0; key = p.1 }) (λ p. refl)

abbrev mode_of_number : ℕ → Mode
mode_of_number n = if n == 0 then Off else if n == 1 then Stopped else Running

mode_again : (mode : Mode) → mode_of_number (mode_number mode) ≡ mode
mode_again Off = refl
mode_again Stopped = refl
mode_again Running = refl

pub mode_code : IsCode mode_bytes
mode_code = of_parts number number_code mode_number mode_of_number mode_again

-- The bytes of a machine's parts are a code: they are read back, whatever follows them.
pub saved_parts_code : IsCode saved_parts_bytes
saved_parts_code =
    let last = both_code mode_bytes printed_bytes mode_code printed_code in
    let devices = both_code subchannels_bytes (both mode_bytes printed_bytes) subchannels_code last in
    let pending = both_code pending_bytes (both subchannels_bytes (both mode_bytes printed_bytes)) pending_code devices
    in
    of_parts (both cpu_bytes (both pending_bytes (both subchannels_bytes (both mode_bytes printed_bytes))))
    (both_code cpu_bytes (both pending_bytes (both subchannels_bytes (both mode_bytes printed_bytes))) cpu_code pending)
    (λ (p : SavedParts). (p.cpu, (p.pending, (p.subchannels, (p.mode, p.output)))))
    (λ p. record { cpu = p.0; pending = p.1.0; subchannels = p.1.1.0; mode = p.1.1.1.0; output = p.1.1.1.1 })
    (λ p. refl)

-- what is kept is the machine, but for its storage
pub same_machine : (p : Parts) (m : Memory) → machine_of p m ≡ restored_of (saved_of p) m
same_machine p m = refl
