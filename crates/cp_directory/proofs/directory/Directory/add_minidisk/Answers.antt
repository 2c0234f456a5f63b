use Rattle.std.proofs.Common.{◌≡◌, ◌-◌, ◌<◌, ◌≤◌, ℕ, List, length, get_or, None, ap, sym, ◌∙◌, subst, arith}
use Rattle.std.proofs.Math.ListN.{set}
use Rattle.cp_directory.specs.Users.{AreApart, DirectoryUser, first_conflict, minidisks_of}
use Rattle.cp_directory.proofs.Apart.{disk_more}
use Rattle.cp_directory.proofs.directory.Directory.add_minidisk.Goals as goal

pub invariant_of-self : goal.invariant_of-self
invariant_of-self c =
    let users = c.self.inside.users.items in
    let user = c.index_mut.result.now in
    let new = c.add_minidisk.new.self in
    let same : users ≡ c.args.self.now = c.self.view_is in
    let some : 0 < length users = subst (λ (us : List DirectoryUser). 0 < length us) (sym same) c.requires.some in
    let none : first_conflict c.args.disk.extent (minidisks_of users) ≡ None = ap
    (λ (us : List DirectoryUser). first_conflict c.args.disk.extent (minidisks_of us)) same ∙ c.requires.free in
    let count : c.len-last.result ≡ length users = omega (arith, c.len-last.ensures, c.self.inside.users.ok.0) in
    let here : user ≡ get_or users (length users - 1) user = c.index_mut.ensures.value
    ∙ ap (λ (n : ℕ). get_or users (n - 1) user) count in
    subst (λ (n : ℕ). (length (set users (n - 1) new) ≤ 64) × AreApart (set users (n - 1) new)) (sym count)
    (disk_more c.args.disk users user new c.add_minidisk.result c.self.invariant some none here
    c.add_minidisk.ensures.ok c.add_minidisk.ensures.err)
