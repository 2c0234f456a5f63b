-- What is kept of programs that ran, or were refused.
use Rattle.std.proofs.Common.{◌≡◌, ◌∙◌, refl, sym, ℕ, ◌%◌, Bool, true, false, Option, None, Some, inl, inr}
use Rattle.std.specs.Prelude.{IsSome}
use Rattle.s370_channel.specs.declared.words.Caw.{Caw}
use Rattle.machine_channels.specs.declared.channels.UnitRecord.{UnitRecord}
use Rattle.cp_dat.specs.declared.dat.Dat.{Dat}
use Rattle.cp_dat.specs.Lent.{lent_memory}
use Rattle.cp_needs.specs.Needs.{IsClash}
use Rattle.cp_resident.specs.Reuse.{HasReused, HasReusedDisk, KeepsCopy, KeepsKnown, KnowsAgain, ReuseValue, RunsAgain}
use Rattle.cp_resident.specs.Reuse.{with_disk, with_unit}

-- Nothing is both false and true.
pub not_both : {b : Bool} → b ≡ false → b ≡ true → ⊥
not_both off on = cc

-- What is None is no value.
pub not_some : {X : Type 0} (o : Option X) → o ≡ None → IsSome o → ⊥
not_some o none some = cc

-- one that did not run as it was kept, of which a copy may be kept
pub copied : (old new : ReuseValue) (d held : Dat) (start : Caw) (unit : UnitRecord) (done : Bool)
    → (RunsAgain old unit d start → ⊥) → lent_memory held ≡ lent_memory d → KeepsCopy old held start unit done new
    → HasReused old d start unit done new
copied old new d held start unit done none same kept = record {
  again = λ again. absurd (none again);
  anew = λ _. inl (held, same, kept);
}

-- which an input can change
pub opened : (old new : ReuseValue) (d : Dat) (start : Caw) (unit : UnitRecord) (done : Bool)
    → (RunsAgain old unit d start → ⊥) → new ≡ with_unit old unit None
    → (start.address % 8 ≡ 0 → IsClash (lent_memory d) start.address) → HasReused old d start unit done new
opened old new d start unit done none put clashes = record {
  again = λ again. absurd (none again);
  anew = λ _. inr (put, clashes);
}

-- which was refused
pub refused : (old : ReuseValue) (d : Dat) (start : Caw) (unit : UnitRecord) → (RunsAgain old unit d start → ⊥)
    → HasReused old d start unit false old
refused old d start unit none = copied old old d d start unit false none refl (inr (refl, refl))

-- ---- a minidisk's

-- A disk's program that was not known is cached after its run.
pub known : (old new : ReuseValue) (d held : Dat) (start : Caw) (index : ℕ) (done : Bool)
    → (KnowsAgain old index d start → ⊥) → lent_memory held ≡ lent_memory d → KeepsKnown old held start index done new
    → HasReusedDisk old d start index done new
known old new d held start index done none same kept = record {
  again = λ again. absurd (none again);
  spare = λ again. absurd (none again);
  anew = λ _. inl (held, same, kept);
}

-- A disk's program that was refused is not cached.
pub refused_disk : (old : ReuseValue) (d : Dat) (start : Caw) (index : ℕ) → (KnowsAgain old index d start → ⊥)
    → HasReusedDisk old d start index false old
refused_disk old d start index none = known old old d d start index false none refl (inr (refl, refl))
