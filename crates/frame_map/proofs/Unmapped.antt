-- Why no file was read, no state restored and no script done.
use Rattle.std.proofs.Common.{◌≡◌, ◌⊎◌, ℕ, Bool, true, false, List, Option, Err, inl, inr, refl, arith}
use Rattle.s370_num.specs.Host.{IsCounted}
use Rattle.s370_num.specs.declared.host.HostFault.{HostFault}
use Rattle.s370_num.specs.declared.host.HostFault.TheVariants as hosts
use Rattle.saved_bytes.specs.declared.RestoreError.{RestoreError}
use Rattle.saved_bytes.specs.declared.RestoreError.TheVariants as restores
use Rattle.sessions.specs.Session.{Accounts}
use Rattle.sessions.specs.declared.faults.PlayError.{PlayError}
use Rattle.sessions.specs.declared.faults.PlayError.TheVariants as plays
use Rattle.program_host.specs.Deeds.{Deed}
use Rattle.programs.specs.Faults.{file_failure, play_failure, restore_failure}
use Rattle.programs.specs.declared.faults.Failure.{Failure}
use Rattle.programs.specs.declared.faults.Failure.TheVariants as failures
use Rattle.vm370.specs.Runs.{IsBrokenAt}
use Rattle.frame_map.specs.Maps.{ComesToNothing, IsFileAt, IsNoState, Never}

-- A file that failed before its end, or memory that was refused, is why.
pub broken : {F : Type 0} (Gives : List ℕ → F → Type 0) (count : F → ℕ) (path : List ℕ) (Refused : Failure → Type 0)
    (file left : F) → Gives path file → (fault : HostFault) → IsCounted (count file) (count left) fault
    → (file_failure fault ≡ failures.Memory) ⊎ IsBrokenAt Gives count path (file_failure fault)
    ⊎ Refused (file_failure fault)
broken Gives count path Refused file left opened hosts.Memory counted = inl refl
broken Gives count path Refused file left opened (hosts.Device k) counted =
    inr (inl (record {
      file = file;
      left = left;
      opened = opened;
      number = k;
      counted = counted;
      reported = refl;
    }))

-- What kept a file from being read keeps it from all that is done with its bytes.
pub unread : {F : Type 0} (Gives : List ℕ → F → Type 0) (count : F → ℕ) (path : List ℕ) (Refused : Failure → Type 0)
    (old new : Option (List Deed)) (failure : Failure) → ComesToNothing Gives count path Never old new failure
    → ComesToNothing Gives count path Refused old new failure
unread Gives count path Refused old new failure h = elim h [
  | inl missed ↦ inl missed
  | inr opened ↦ inr (
    opened.0,
    elim opened.1 [
      | inl memory ↦ inl memory
      | inr other ↦ elim other [ inl failed ↦ inr (inl failed) | inr never ↦ absurd never ]
    ],
  )
]

-- A state is not restored for memory, or its bytes are refused.
pub unrestored : {F : Type 0} (Gives : List ℕ → F → Type 0) (remaining : F → Option (List ℕ)) (count : F → ℕ)
    (path bytes : List ℕ) → IsFileAt Gives remaining path bytes → (error : RestoreError)
    → (restore_failure error ≡ failures.Memory) ⊎ IsBrokenAt Gives count path (restore_failure error)
    ⊎ IsNoState Gives remaining path (restore_failure error)
unrestored Gives remaining count path bytes read restores.Malformed =
    inr (inr (record { bytes = bytes; read = read; reported = refl }))
unrestored Gives remaining count path bytes read restores.Memory = inl refl

-- A writer that keeps nothing never fails, so that only memory is refused, or a system was spent.
pub unplayed : (A : Type 0) (was : Bool) (error : PlayError) → Accounts {A = A} (Err error) was was 0 0
    → (play_failure error ≡ failures.Memory) ⊎ ((play_failure error ≡ failures.Spent) × (was ≡ true))
unplayed A was plays.Memory h = inl refl
unplayed A was (plays.Device k) h = absurd (omega (arith, h.0))
unplayed A was plays.Spent h = inr (refl, h.1)

-- And nothing but memory keeps it from being closed.
pub unclosed : (A : Type 0) (error : PlayError) → ((is : Bool) → Accounts {A = A} (Err error) is is 0 0)
    → play_failure error ≡ failures.Memory
unclosed A error h = elim (unplayed A false error (h false)) [
  | inl memory ↦ memory
  | inr spent ↦ let never : false ≡ true = spent.1 in cc
]
