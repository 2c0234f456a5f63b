use Rattle.std.proofs.Common.{◌≡◌, Bool, true, false, refl, rules, Err}
use Rattle.s370_store.specs.Plain.{plain_memory}
use Rattle.machine_channels.specs.DedicatedChannels.{disks_of}
use Rattle.machine_devices.specs.Comes.{is_ipl}
use Rattle.machine_devices.specs.Equipped.{equipped}
use Rattle.machine_devices.specs.Lent.{devices_on}
use Rattle.machine_devices.specs.Lines.{requested}
use Rattle.machine_panel.specs.declared.line.LineError.TheVariants as errors
use Rattle.bare_installation.proofs.bare.Bare.answer.Goals as goal

either : (b : Bool) → (b ≡ true → ⊥) → (b ≡ false → ⊥) → ⊥
either true f g = f refl
either false f g = g refl

pub unreachable-requires : goal.unreachable-requires
unreachable-requires g c =
    let before = equipped c.self.inside.machine (devices_on c.self.inside.devices c.self.inside.queues)
    (disks_of c.self.inside.channels) (plain_memory c.self.inside.storage) in
    let reported : c.line-reported.result ≡ Err errors.FramesOut = search rules in
    either (is_ipl (requested c.args.typed.now before))
    (λ ipl. (let away = c.line-reported.ensures.brings.lacks ipl refl reported in
    let no : true ≡ false = away.1.away in cc))
    (λ plain. (c.line-reported.ensures.brings.frames plain reported).short)
