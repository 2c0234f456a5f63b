-- Bytes of a command in slices: what as many steps of one byte come to.
use Rattle.std.specs.Prelude.{ℕ, ◌+◌, ◌-◌, ◌^◌, ◌++◌, nat_lt, if◌then◌else◌, List, length, take}
use Rattle.ckd_volume.specs.declared.parts.PendingCommand.{PendingCommand}
use Rattle.ckd_volume.specs.declared.parts.PendingCommand.TheVariants as jobs
use Rattle.ckd_volume.specs.Front.{Front}
use Rattle.ckd_volume.specs.Write.{longest, whole_length}

-- So many bytes further, where as many are left.
abbrev pub gave_slice : Front → ℕ → Front
gave_slice f n = record f { given = f.given + n }

-- Bytes more, as far as there is room.
abbrev pub took_slice : Front → List ℕ → Front
took_slice f bytes = record f { bytes = f.bytes ++ take (longest - length f.bytes) bytes }

-- How many bytes a Write CKD lacks: of its first eight, and then of those that they say.
abbrev pub lacks : List ℕ → ℕ
lacks bytes = if nat_lt (length bytes) 8 then 8 - length bytes
    else whole_length bytes - length bytes

-- How many bytes at least are given or taken before the command is done. No command but Write CKD
-- is done early.
abbrev pub ready : Front → PendingCommand → ℕ
ready f (jobs.WriteRecord i) = lacks f.bytes
ready f jobs.Nothing = 2 ^ 32 - 1
ready f (jobs.Give status) = 2 ^ 32 - 1
ready f jobs.SetMask = 2 ^ 32 - 1
ready f jobs.Seek = 2 ^ 32 - 1
ready f jobs.SearchHome = 2 ^ 32 - 1
ready f (jobs.SearchId comparison i) = 2 ^ 32 - 1
ready f (jobs.SearchKey i) = 2 ^ 32 - 1
ready f (jobs.WriteData i) = 2 ^ 32 - 1
ready f (jobs.WriteBoth i) = 2 ^ 32 - 1
