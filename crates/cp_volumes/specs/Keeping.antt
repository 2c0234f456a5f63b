-- What is next to a user's minidisks stays if nothing happens, and through one step after another:
-- the laws that whoever lends them owes.
use Rattle.std.specs.Prelude.{ℕ, ◌<◌, List}
use Rattle.std.proofs.Common.{◌∙◌, refl, subst, sym}
use Rattle.ckd_volume.specs.Volume.{VolumeFormat}
use Rattle.cp_volumes.specs.Shared.{AreThere, DisksValue, IsConfined, KeepsOtherDisks, Placement}
use Rattle.cp_volumes.specs.Shared.{placements_of}

-- volumes are confined to themselves
pub confined_same : (placements : List Placement) (volumes : List VolumeFormat)
    → IsConfined placements volumes volumes
confined_same placements volumes =
    record { count = refl; sizes = λ index. refl; volsers = λ index. refl; others = λ t be. refl }

-- two steps that are confined are confined together
pub confined_on : (placements : List Placement) (a b c : List VolumeFormat)
    → IsConfined placements a b
    → IsConfined placements b c → IsConfined placements a c
confined_on placements a b c h g = record {
  count = g.count ∙ h.count;
  sizes = λ index. g.sizes index ∙ h.sizes index;
  volsers = λ index. g.volsers index ∙ h.volsers index;
  others = λ t be. g.others t be ∙ h.others t be;
}

-- no volume goes away
pub there_still : (placements : List Placement) (a b : List VolumeFormat)
    → IsConfined placements a b
    → AreThere a → AreThere b
there_still placements a b h there = λ index inside.
    subst (λ (n : ℕ). 0 < n) (sym (h.sizes index))
    (there index (subst (λ (n : ℕ). index < n) h.count inside))

-- other users' cylinders stay between a state and itself
pub neighbours_same : (d : DisksValue) → KeepsOtherDisks d d
neighbours_same d = record {
  placements = refl;
  confined = confined_same (placements_of d.minidisks) d.volumes;
}

-- two steps that keep other users' cylinders keep them together
pub neighbours_on : (a b c : DisksValue) → KeepsOtherDisks a b → KeepsOtherDisks b c
    → KeepsOtherDisks a c
neighbours_on a b c h g = record {
  placements = g.placements ∙ h.placements;
  confined = confined_on (placements_of a.minidisks) a.volumes b.volumes c.volumes h.confined
      (subst (λ (s : List Placement). IsConfined s b.volumes c.volumes) h.placements g.confined);
}
