-- The operation codes of the instructions: GA22-7000, "Instructions Arranged by Operation Code".
use Rattle.std.specs.Prelude.{ℕ, List, [], ◌∷◌, ◌==◌, if◌then◌else◌}
use Rattle.s370_rows.specs.declared.arithmetic.Arithmetic.TheVariants.{Load, LoadAndTest}
use Rattle.s370_rows.specs.declared.arithmetic.Arithmetic.TheVariants.{LoadPositive, LoadNegative}
use Rattle.s370_rows.specs.declared.arithmetic.Arithmetic.TheVariants.{LoadComplement, Compare}
use Rattle.s370_rows.specs.declared.arithmetic.Arithmetic.TheVariants.{CompareLogical, Add}
use Rattle.s370_rows.specs.declared.arithmetic.Arithmetic.TheVariants.{Subtract, AddLogical}
use Rattle.s370_rows.specs.declared.arithmetic.Arithmetic.TheVariants.{SubtractLogical, And, Or}
use Rattle.s370_rows.specs.declared.arithmetic.Arithmetic.TheVariants.{ExclusiveOr}
use Rattle.s370_rows.specs.declared.branches.IndexBranch.TheVariants.{High, LowOrEqual}
use Rattle.s370_rows.specs.declared.ending.IoOperation.TheVariants.{Start, Test, Halt, TestChannel}
use Rattle.s370_rows.specs.declared.immediate.ByteChange.TheVariants.{TestAndSet, Move as MoveByte}
use Rattle.s370_rows.specs.declared.immediate.ByteChange.TheVariants.{And as AndByte, Or as OrByte}
use Rattle.s370_rows.specs.declared.immediate.ByteChange.TheVariants.{ExclusiveOr as ExclusiveOrByte}
use Rattle.s370_rows.specs.declared.immediate.ByteTest.TheVariants.{UnderMask}
use Rattle.s370_rows.specs.declared.immediate.ByteTest.TheVariants.{CompareLogical as CompareByte}
use Rattle.s370_rows.specs.declared.shift.Shift.TheVariants.{Right, Left, RightLogical, LeftLogical}
use Rattle.s370_bytes.specs.declared.combine.Combine.TheVariants.{MoveNumerics, MoveZones}
use Rattle.s370_bytes.specs.declared.combine.Combine.TheVariants.{Move as MoveStrings}
use Rattle.s370_bytes.specs.declared.combine.Combine.TheVariants.{And as AndStrings}
use Rattle.s370_bytes.specs.declared.combine.Combine.TheVariants.{Or as OrStrings}
use Rattle.s370_bytes.specs.declared.combine.Combine.TheVariants.{ExclusiveOr as ExclusiveOrStrings}
use Rattle.s370_bytes.specs.declared.digits.Layout.TheVariants.{MoveWithOffset, Pack, Unpack}
use Rattle.s370_cpu.specs.declared.opcodes.Branching.TheVariants.{Count, Condition, Link}
use Rattle.s370_cpu.specs.declared.opcodes.Control.TheVariants.{SetStorageKey, InsertStorageKey}
use Rattle.s370_cpu.specs.declared.opcodes.Control.TheVariants.{SetSystemMask, LoadPsw}
use Rattle.s370_cpu.specs.declared.opcodes.Control.TheVariants.{StoreThenAnd, StoreThenOr}
use Rattle.s370_cpu.specs.declared.opcodes.Control.TheVariants.{StoreControl, LoadControl}
use Rattle.s370_cpu.specs.declared.opcodes.Control.TheVariants.{InputOutput}
use Rattle.s370_cpu.specs.declared.opcodes.RegisterRow.TheVariants.{SetProgramMask, Register}
use Rattle.s370_cpu.specs.declared.opcodes.RegisterRow.TheVariants.{Multiply, Divide, LoadAddress}
use Rattle.s370_cpu.specs.declared.opcodes.RegisterRow.TheVariants.{ShiftWord, ShiftPair}
use Rattle.s370_cpu.specs.declared.opcodes.RegisterRow.TheVariants.{BranchRegister, BranchTo}
use Rattle.s370_cpu.specs.declared.opcodes.RegisterRow.TheVariants.{BranchOnIndex}
use Rattle.s370_cpu.specs.declared.opcodes.FetchRow.TheVariants.{Word, Halfword, MultiplyWord}
use Rattle.s370_cpu.specs.declared.opcodes.FetchRow.TheVariants.{MultiplyHalfword, DivideWord}
use Rattle.s370_cpu.specs.declared.opcodes.FetchRow.TheVariants.{ConvertToBinary, InsertCharacter}
use Rattle.s370_cpu.specs.declared.opcodes.FetchRow.TheVariants.{InsertCharacters}
use Rattle.s370_cpu.specs.declared.opcodes.FetchRow.TheVariants.{CompareCharacters, LoadMultiple}
use Rattle.s370_cpu.specs.declared.opcodes.FetchRow.TheVariants.{TestByte, CompareStrings}
use Rattle.s370_cpu.specs.declared.opcodes.FetchRow.TheVariants.{ScanString, CompareLong}
use Rattle.s370_cpu.specs.declared.opcodes.StoreRow.TheVariants.{StoreWord, StoreHalfword}
use Rattle.s370_cpu.specs.declared.opcodes.StoreRow.TheVariants.{StoreCharacter, StoreCharacters}
use Rattle.s370_cpu.specs.declared.opcodes.StoreRow.TheVariants.{StoreMultiple, ConvertToDecimal}
use Rattle.s370_cpu.specs.declared.opcodes.StoreRow.TheVariants.{ChangeByte, SwapWord}
use Rattle.s370_cpu.specs.declared.opcodes.StoreRow.TheVariants.{SwapDoubleword, CombineStrings}
use Rattle.s370_cpu.specs.declared.opcodes.StoreRow.TheVariants.{Translate, LayOut, MoveLong}
use Rattle.s370_cpu.specs.declared.opcodes.Opcode.{Opcode}
use Rattle.s370_cpu.specs.declared.opcodes.Opcode.TheVariants.{Invalid, Supervised, SupervisorCall}
use Rattle.s370_cpu.specs.declared.opcodes.Opcode.TheVariants.{Execute, Computes, Fetches, Stores}

-- the first byte of an instruction, and the row of the table that it names
abbrev pub codes : List (ℕ × Opcode)
codes =
    (0x04, Computes SetProgramMask)  -- SPM
    ∷ (0x05, Computes (BranchRegister Link))  -- BALR
    ∷ (0x06, Computes (BranchRegister Count))  -- BCTR
    ∷ (0x07, Computes (BranchRegister Condition))  -- BCR
    ∷ (0x08, Supervised SetStorageKey)  -- SSK
    ∷ (0x09, Supervised InsertStorageKey)  -- ISK
    ∷ (0x0A, SupervisorCall)  -- SVC
    ∷ (0x0E, Stores MoveLong)  -- MVCL
    ∷ (0x0F, Fetches CompareLong)  -- CLCL
    ∷ (0x10, Computes (Register LoadPositive))  -- LPR
    ∷ (0x11, Computes (Register LoadNegative))  -- LNR
    ∷ (0x12, Computes (Register LoadAndTest))  -- LTR
    ∷ (0x13, Computes (Register LoadComplement))  -- LCR
    ∷ (0x14, Computes (Register And))  -- NR
    ∷ (0x15, Computes (Register CompareLogical))  -- CLR
    ∷ (0x16, Computes (Register Or))  -- OR
    ∷ (0x17, Computes (Register ExclusiveOr))  -- XR
    ∷ (0x18, Computes (Register Load))  -- LR
    ∷ (0x19, Computes (Register Compare))  -- CR
    ∷ (0x1A, Computes (Register Add))  -- AR
    ∷ (0x1B, Computes (Register Subtract))  -- SR
    ∷ (0x1C, Computes Multiply)  -- MR
    ∷ (0x1D, Computes Divide)  -- DR
    ∷ (0x1E, Computes (Register AddLogical))  -- ALR
    ∷ (0x1F, Computes (Register SubtractLogical))  -- SLR
    ∷ (0x40, Stores StoreHalfword)  -- STH
    ∷ (0x41, Computes LoadAddress)  -- LA
    ∷ (0x42, Stores StoreCharacter)  -- STC
    ∷ (0x43, Fetches InsertCharacter)  -- IC
    ∷ (0x44, Execute)  -- EX
    ∷ (0x45, Computes (BranchTo Link))  -- BAL
    ∷ (0x46, Computes (BranchTo Count))  -- BCT
    ∷ (0x47, Computes (BranchTo Condition))  -- BC
    ∷ (0x48, Fetches (Halfword Load))  -- LH
    ∷ (0x49, Fetches (Halfword Compare))  -- CH
    ∷ (0x4A, Fetches (Halfword Add))  -- AH
    ∷ (0x4B, Fetches (Halfword Subtract))  -- SH
    ∷ (0x4C, Fetches MultiplyHalfword)  -- MH
    ∷ (0x4E, Stores ConvertToDecimal)  -- CVD
    ∷ (0x4F, Fetches ConvertToBinary)  -- CVB
    ∷ (0x50, Stores StoreWord)  -- ST
    ∷ (0x54, Fetches (Word And))  -- N
    ∷ (0x55, Fetches (Word CompareLogical))  -- CL
    ∷ (0x56, Fetches (Word Or))  -- O
    ∷ (0x57, Fetches (Word ExclusiveOr))  -- X
    ∷ (0x58, Fetches (Word Load))  -- L
    ∷ (0x59, Fetches (Word Compare))  -- C
    ∷ (0x5A, Fetches (Word Add))  -- A
    ∷ (0x5B, Fetches (Word Subtract))  -- S
    ∷ (0x5C, Fetches MultiplyWord)  -- M
    ∷ (0x5D, Fetches DivideWord)  -- D
    ∷ (0x5E, Fetches (Word AddLogical))  -- AL
    ∷ (0x5F, Fetches (Word SubtractLogical))  -- SL
    ∷ (0x80, Supervised SetSystemMask)  -- SSM
    ∷ (0x82, Supervised LoadPsw)  -- LPSW
    ∷ (0x86, Computes (BranchOnIndex High))  -- BXH
    ∷ (0x87, Computes (BranchOnIndex LowOrEqual))  -- BXLE
    ∷ (0x88, Computes (ShiftWord RightLogical))  -- SRL
    ∷ (0x89, Computes (ShiftWord LeftLogical))  -- SLL
    ∷ (0x8A, Computes (ShiftWord Right))  -- SRA
    ∷ (0x8B, Computes (ShiftWord Left))  -- SLA
    ∷ (0x8C, Computes (ShiftPair RightLogical))  -- SRDL
    ∷ (0x8D, Computes (ShiftPair LeftLogical))  -- SLDL
    ∷ (0x8E, Computes (ShiftPair Right))  -- SRDA
    ∷ (0x8F, Computes (ShiftPair Left))  -- SLDA
    ∷ (0x90, Stores StoreMultiple)  -- STM
    ∷ (0x91, Fetches (TestByte UnderMask))  -- TM
    ∷ (0x92, Stores (ChangeByte MoveByte))  -- MVI
    ∷ (0x93, Stores (ChangeByte TestAndSet))  -- TS
    ∷ (0x94, Stores (ChangeByte AndByte))  -- NI
    ∷ (0x95, Fetches (TestByte CompareByte))  -- CLI
    ∷ (0x96, Stores (ChangeByte OrByte))  -- OI
    ∷ (0x97, Stores (ChangeByte ExclusiveOrByte))  -- XI
    ∷ (0x98, Fetches LoadMultiple)  -- LM
    ∷ (0x9C, Supervised (InputOutput Start))  -- SIO, SIOF
    ∷ (0x9D, Supervised (InputOutput Test))  -- TIO
    ∷ (0x9E, Supervised (InputOutput Halt))  -- HIO, HDV
    ∷ (0x9F, Supervised (InputOutput TestChannel))  -- TCH
    ∷ (0xAC, Supervised StoreThenAnd)  -- STNSM
    ∷ (0xAD, Supervised StoreThenOr)  -- STOSM
    ∷ (0xB6, Supervised StoreControl)  -- STCTL
    ∷ (0xB7, Supervised LoadControl)  -- LCTL
    ∷ (0xBA, Stores SwapWord)  -- CS
    ∷ (0xBB, Stores SwapDoubleword)  -- CDS
    ∷ (0xBD, Fetches CompareCharacters)  -- CLM
    ∷ (0xBE, Stores StoreCharacters)  -- STCM
    ∷ (0xBF, Fetches InsertCharacters)  -- ICM
    ∷ (0xD1, Stores (CombineStrings MoveNumerics))  -- MVN
    ∷ (0xD2, Stores (CombineStrings MoveStrings))  -- MVC
    ∷ (0xD3, Stores (CombineStrings MoveZones))  -- MVZ
    ∷ (0xD4, Stores (CombineStrings AndStrings))  -- NC
    ∷ (0xD5, Fetches CompareStrings)  -- CLC
    ∷ (0xD6, Stores (CombineStrings OrStrings))  -- OC
    ∷ (0xD7, Stores (CombineStrings ExclusiveOrStrings))  -- XC
    ∷ (0xDC, Stores Translate)  -- TR
    ∷ (0xDD, Fetches ScanString)  -- TRT
    ∷ (0xF1, Stores (LayOut MoveWithOffset))  -- MVO
    ∷ (0xF2, Stores (LayOut Pack))  -- PACK
    ∷ (0xF3, Stores (LayOut Unpack))  -- UNPK
    ∷ []

-- the row of a first byte in a list; a byte that is not in it is no instruction's
abbrev pub found_in : List (ℕ × Opcode) → ℕ → Opcode
found_in [] first = Invalid
found_in (c ∷ cs) first = if first == c.0 then c.1 else found_in cs first

-- the row of an operation code
unfoldable pub opcode_at : ℕ → Opcode
opcode_at first = found_in codes first
