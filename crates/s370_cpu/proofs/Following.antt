-- Where an instruction is that follows another.
use Rattle.std.proofs.Common.{◌≡◌, ℕ, ◌+◌, ◌*◌, ◌%◌, ◌<◌, arith}
use Rattle.s370_cpu.specs.declared.stepped.Stepped.{Stepped}
use Rattle.s370_cpu.specs.declared.stepped.Stepped.TheVariants.{Follows, Elsewhere, LeftOut, Unassigned}
use Rattle.s370_cpu.specs.Held.{FollowsIn, IsAt}

-- What follows an instruction below the end of 16 MiB is at most six bytes further on.
pub follows_in : (start halfwords next : ℕ) (went : Stepped) → next ≡ (start + 2 * halfwords) % 16777216
    → halfwords < 4 → start + 6 < 16777216 → IsAt next went → FollowsIn start went
follows_in start halfwords next (Follows address) here few fits at = (
  omega (arith, at, here),
  omega (arith, at, here),
  λ even. omega (arith, at, here, even),
)
follows_in start halfwords next (Elsewhere address) here few fits at = tt
follows_in start halfwords next LeftOut here few fits at = tt
follows_in start halfwords next Unassigned here few fits at = tt
