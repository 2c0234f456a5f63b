use Rattle.std.proofs.Common.{ℕ, ◌+◌, min, ◌≡◌, ◌++◌, ◌∷◌, [], List, refl, sym, ap, ◌∙◌, append_assoc}
use Rattle.ckd_volume.specs.Volume.{VolumeFormat}
use Rattle.machine_channels.specs.Disks.{DiskAt}
use Rattle.bare370.specs.Goes.{disks_from, first_disk}
use Rattle.bare370.proofs.installation.disks_of.Goals as goal

-- a disk over the next volume has come to those before
one_more : (before after : List DiskAt) (a b : ℕ) (v : VolumeFormat) (left rest : List VolumeFormat) (disk : DiskAt)
    (all : List DiskAt)
    → after ≡ before ++ disk ∷ [] → disk ≡ record { address = a; unit = first_disk v } → b ≡ min (a + 1) 65535
    → left ≡ v ∷ rest
    → before ++ disks_from a left ≡ all → after ++ disks_from b rest ≡ all
one_more before after a b v left rest disk all joined is next more whole =
    let step : disks_from a left ≡ disk ∷ disks_from b rest = ap (disks_from a) more ∙ rw (is, next) refl in
    ap (λ (l : List DiskAt). l ++ disks_from b rest) joined
    ∙ append_assoc before (disk ∷ []) (disks_from b rest)
    ∙ ap (λ (l : List DiskAt). before ++ l) (sym step)
    ∙ whole

pub loop-volume-preserved : goal.loop-volume-preserved
loop-volume-preserved c =
    let disk = rw (c.new.ensures, c.in_ok-unit.ensures) at c.new-in-loop-volume.ensures in
    one_more c.loop-volume.disks.items c.push.new.self.items c.loop-volume.address c.saturating_add-address.result
    c.in-Some.volume
    c.loop-volume.volume-iterator.rest.items c.next.new.self.rest.items c.new-in-loop-volume.result _
    c.in_ok-push.ensures.items disk
    c.saturating_add-address.ensures c.in-Some.ensures.steps.0 c.loop-volume.invariant
