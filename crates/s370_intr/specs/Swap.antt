-- Interruptions: GA22-7000, "Interruptions" and "Assigned Storage Locations".
use Rattle.std.specs.Prelude.{◌≡◌, ℕ, Bool, List, length, Result, Ok, Err, ⊤}
use Rattle.std.specs.Int.{w64, to_be_bytes}
use Rattle.s370_psw.specs.Fields.{fields_of, word_of}
use Rattle.s370_store.specs.Access.{IsAbsent, put}
use Rattle.s370_store.specs.declared.Page.{Page}
use Rattle.s370_rows.specs.State.{State}
use Rattle.s370_rows.specs.Rows.{doubleword_at}
use Rattle.s370_intr.specs.declared.class.Class.{Class}
use Rattle.s370_intr.specs.declared.class.Class.TheVariants.{External, SupervisorCall, Program}
use Rattle.s370_intr.specs.declared.class.Class.TheVariants.{MachineCheck, InputOutput}

-- where an interruption of each class stores the old program status word
abbrev pub old_psw_of : Class → ℕ
old_psw_of External = 24
old_psw_of SupervisorCall = 32
old_psw_of Program = 40
old_psw_of MachineCheck = 48
old_psw_of InputOutput = 56

-- and from where it loads the new one
abbrev pub new_psw_of : Class → ℕ
new_psw_of External = 88
new_psw_of SupervisorCall = 96
new_psw_of Program = 104
new_psw_of MachineCheck = 112
new_psw_of InputOutput = 120

-- the old program status word is stored with the interruption code and the instruction length code
abbrev pub psw_stored : State → Class → ℕ → ℕ → List ℕ
psw_stored m kind code ilc =
    put m.bytes (old_psw_of kind) (to_be_bytes w64 (word_of m.cpu.psw code ilc))

-- and the new one is loaded
abbrev pub swapped : State → Class → ℕ → ℕ → State
swapped m kind code ilc =
    let bytes = psw_stored m kind code ilc in
    record m {
      cpu = record m.cpu { psw = fields_of (doubleword_at bytes (new_psw_of kind)) };
      bytes = bytes;
    }

-- what the code may answer, and leave of a state: the swap; or that page 0 is not present, with
-- nothing changed
abbrev pub MeetsSwap : State → (ℕ → Bool) → State → Result ⊤ Page → State → Type 0
MeetsSwap s present old (Ok _) new = new ≡ s
MeetsSwap s present old (Err page) new = (new ≡ old) × (page.0 ≡ 0)
    × IsAbsent (length old.bytes) present page.0
