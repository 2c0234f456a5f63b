-- Why no directory was read.
use Rattle.std.proofs.Common.{◌≡◌, ◌⊎◌, ℕ, List, Option, inl, inr, refl}
use Rattle.s370_num.specs.Host.{IsCounted}
use Rattle.s370_num.specs.declared.host.HostFault.{HostFault}
use Rattle.s370_num.specs.declared.host.HostFault.TheVariants as hosts
use Rattle.programs.specs.Faults.{file_failure}
use Rattle.programs.specs.declared.faults.Failure.TheVariants as failures
use Rattle.vm370.specs.Runs.{IsBrokenAt, IsRefusedAt}

-- A file that failed before its end, or memory that was refused, is why.
pub broken : {F : Type 0} (Gives : List ℕ → F → Type 0) (remaining : F → Option (List ℕ)) (count : F → ℕ)
    (path : List ℕ) (file left : F) → Gives path file → (fault : HostFault) → IsCounted (count file) (count left) fault
    → (file_failure fault ≡ failures.Memory) ⊎ IsBrokenAt Gives count path (file_failure fault)
    ⊎ IsRefusedAt Gives remaining path (file_failure fault)
broken Gives remaining count path file left opened hosts.Memory counted = inl refl
broken Gives remaining count path file left opened (hosts.Device k) counted =
    inr (inl (record {
      file = file;
      left = left;
      opened = opened;
      number = k;
      counted = counted;
      reported = refl;
    }))
