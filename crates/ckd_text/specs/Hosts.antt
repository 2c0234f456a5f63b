-- How the files and streams that a host gives are used.
use Rattle.std.specs.Prelude.{◌≡◌, ℕ, Bool, false, List, [], ◌∷◌, Option, Result, Ok, Err}
use Rattle.std.specs.Io.KnownBytes.{Appends, Consumes, IsAtEnd}
use Rattle.s370_num.specs.Host.{AppendsFront, IsCounted}
use Rattle.s370_num.specs.declared.host.HostFault.{HostFault}
use Rattle.s370_num.specs.declared.host.HostFault.TheVariants as hosts
use Rattle.program_host.specs.Deeds.{Adds, Creates, Deed, IsUncreated, Misses, Opens, Prints}
use Rattle.ckd_text.specs.Faults.{file_failure}
use Rattle.ckd_text.specs.declared.faults.ToolFailure.{ToolFailure}

-- what asking a host for a stream may return, by what was asked of it before and after
abbrev pub Giving : Type 0 → Type 1
Giving S = Option (List Deed) → Result S HostFault → Option (List Deed) → Type 0

-- the file at a path is opened, or cannot be
abbrev pub opening : {S : Type 0} → (List ℕ → S → Type 0) → List ℕ → Giving S
opening Gives path old (Ok file) new = Gives path file × Adds old new (Opens path ∷ [])
opening Gives path old (Err fault) new = (fault ≡ hosts.Device 1) × Adds old new (Misses path ∷ [])

-- it is created, or not
abbrev pub creating : {S : Type 0} → (List ℕ → S → Type 0) → List ℕ → Giving S
creating Makes path old (Ok file) new = Makes path file × Adds old new (Creates path ∷ [])
creating Makes path old (Err fault) new = IsUncreated path old new fault

-- standard output is had, or there is no memory for it
abbrev pub printing : {S : Type 0} → (Bool → S → Type 0) → Giving S
printing Printed old (Ok output) new = Printed false output × Adds old new (Prints false ∷ [])
printing Printed old (Err fault) new = (fault ≡ hosts.Memory) × Adds old new (Prints false ∷ [])

-- the host gave a stream, which was used so: what it was at first, and what it is at last
pub record IsUsed {S : Type 0} (Gives : Giving S) (Use : S → S → Type 0)
    (old new : Option (List Deed)) : Type 0 where
  pub first : S
  pub last : S
  pub given : Gives old (Ok first) new
  pub used : Use first last

-- the host was asked for a stream and gave none, and that is the failure
pub record IsWithheld {S : Type 0} (Gives : Giving S) (old new : Option (List Deed))
    (failure : ToolFailure) : Type 0 where
  pub fault : HostFault
  pub withheld : Gives old (Err fault) new
  pub reported : failure ≡ file_failure fault

-- a stream was read to its end, and these are all its bytes
abbrev pub IsReadAs : {S : Type 0} → (S → Option (List ℕ)) → List ℕ → S → S → Type 0
IsReadAs remaining bytes first last =
    Consumes (remaining first) (remaining last) bytes × IsAtEnd (remaining last)

-- these bytes were written to a stream, and none of them is held back
abbrev pub IsWrittenAs : {S : Type 0} → (S → Option (List ℕ)) → (S → List ℕ) → List ℕ → S → S
    → Type 0
IsWrittenAs contents held bytes first last =
    Appends (contents first) (contents last) bytes × (held last ≡ [])

-- a stream failed while it was used, and its count of failures is reported; or memory was refused
abbrev pub HasFailed : {S : Type 0} → (S → ℕ) → ToolFailure → S → S → Type 0
HasFailed count failure first last = (fault : HostFault)
    × IsCounted (count first) (count last) fault × (failure ≡ file_failure fault)

-- a beginning of these bytes was written to a stream, which failed then
abbrev pub IsCutAs : {S : Type 0} → (S → Option (List ℕ)) → (S → ℕ) → List ℕ → ToolFailure → S → S
    → Type 0
IsCutAs contents count bytes failure first last =
    AppendsFront (contents first) (contents last) bytes × HasFailed count failure first last
