-- Instructions over registers that their operands may refuse: GA22-7000, "Data Exception" and
-- "Fixed-Point-Divide Exception".
use Rattle.std.specs.Prelude.{◌≡◌, Result, Ok, Err}
use Rattle.s370_psw.specs.declared.program.ProgramCode.{ProgramCode}
use Rattle.s370_rows.specs.declared.cpu.Cpu.{Cpu}
use Rattle.s370_rows.specs.declared.ending.Completion.{Completion}
use Rattle.s370_rows.specs.Registers.{Ended}
use Rattle.s370_rows.specs.Rows.{Left, over}

-- what is left where only registers change, or what refuses it
abbrev pub over_result : Result Ended ProgramCode → Result Left ProgramCode
over_result (Ok e) = Ok (over e)
over_result (Err code) = Err code

-- what code over registers may answer that may be refused: what is left; or the code, with nothing
-- changed
abbrev pub MeetsEnded : Result Ended ProgramCode → Cpu → Result Completion ProgramCode → Cpu
    → Type 0
MeetsEnded e old (Ok ending) new = e ≡ Ok (record { ending = ending; cpu = new })
MeetsEnded e old (Err code) new = (e ≡ Err code) × (new ≡ old)
