use Rattle.std.proofs.Common.{◌≡◌, ℕ, ◌==◌, ◌||◌, false, List, [], ◌∷◌, ◌++◌, map, refl, ap, sym, ◌∙◌, rules, tests}
use Rattle.std.specs.List.{list_any}
use Rattle.std.proofs.lemmas.List.Folds.{list_any-append}
use Rattle.std.proofs.lemmas.Iterator.{YieldsList-from_slice}
use Rattle.std.proofs.lemmas.Iterator.Search.{any_from_yields_List}
use Rattle.cp_directory.specs.Devices.{places_of}
use Rattle.cp_directory.specs.Users.{DirectoryUser}
use Rattle.cp_directory.specs.declared.devices.UserDevices.{UserDevices}
use Rattle.cp_directory.specs.declared.minidisk.MinidiskStatement.{MinidiskStatement}
use Rattle.cp_directory.proofs.directory.User.has_device.Goals as goal

of_disks : (address : ℕ) (disks : List MinidiskStatement) → list_any
    (λ (disk : MinidiskStatement). disk.address == address) disks ≡ list_any (λ other. other == address)
    (map (λ (disk : MinidiskStatement). disk.address) disks)
of_disks address [] = refl
of_disks address (disk ∷ disks) = ap (λ b. (disk.address == address) || b) (of_disks address disks)

after_devices : (address : ℕ) (places others : List ℕ) → false ≡ list_any (λ other. other == address) places
    → list_any (λ other. other == address) others ≡ list_any (λ other. other == address) (places ++ others)
after_devices address places others none = sym (list_any-append (λ other. other == address) places others
    ∙ ap (λ b. b || list_any (λ other. other == address) others) (sym none))

pub returns-else-has : goal.returns-else-has
returns-else-has c =
    let user = c.args.self.now in
    let any = any_from_yields_List (λ (disk : MinidiskStatement). disk.address == c.args.address) _ _ c.any.result
    c.any.ensures.ran (YieldsList-from_slice user.minidisks cc) (λ x b q k. search (rules, tests)) in
    let same : c.self.inside.devices ≡ user.devices = ap (λ (u : DirectoryUser). u.devices) c.self.view_is in
    let none : false ≡ list_any (λ other. other == c.args.address) (places_of user.devices) = sym c.if-has.false
    ∙ c.has.ensures ∙ ap (λ (d : UserDevices). list_any (λ other. other == c.args.address) (places_of d)) same in
    any ∙ of_disks c.args.address user.minidisks ∙ after_devices c.args.address (places_of user.devices)
    (map (λ (disk : MinidiskStatement). disk.address) user.minidisks) none
