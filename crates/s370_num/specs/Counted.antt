-- What a counted file is made of.
use Rattle.std.specs.Prelude.{ℕ}
use Rattle.s370_num.specs.declared.host.counted.Counted.{Counted}

-- the file that is counted
abbrev pub file_of : {F : Type 0} → Counted F → F
file_of counted = counted.file

-- how many of its calls have failed
abbrev pub failures_of : {F : Type 0} → Counted F → ℕ
failures_of counted = counted.failures
