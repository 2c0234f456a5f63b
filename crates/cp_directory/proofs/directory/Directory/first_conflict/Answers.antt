use Rattle.std.proofs.Common.{◌≡◌, ℕ, ◌+◌, ◌<◌, List, ◌∷◌, length, get_or, drop, Option, Some, None, refl, ap, sym, ◌∙◌}
use Rattle.std.proofs.Common.{subst}
use Rattle.std.specs.List.{find}
use Rattle.std.specs.Option.{option_map, option_or}
use Rattle.std.proofs.lemmas.List.{at_drop_more}
use Rattle.std.proofs.lemmas.List.Folds.{find-append}
use Rattle.cp_directory.specs.Extents.{Extent, conflicts}
use Rattle.cp_directory.specs.Users.{DirectoryUser, first_conflict, minidisks_of}
use Rattle.cp_directory.specs.declared.minidisk.MinidiskStatement.{MinidiskStatement}
use Rattle.cp_directory.proofs.directory.Directory.first_conflict.Goals as goal

mapped_or : (f : MinidiskStatement → ℕ) (o p : Option MinidiskStatement)
    → option_map f (option_or o p) ≡ option_or (option_map f o) (option_map f p)
mapped_or f None p = refl
mapped_or f (Some d) p = refl

-- the first of these users, and then the others
of_first : (extent : Extent) (user : DirectoryUser) (users : List DirectoryUser)
    → first_conflict extent (minidisks_of (user ∷ users)) ≡ option_or (first_conflict extent user.minidisks)
    (first_conflict extent (minidisks_of users))
of_first extent user users =
    ap (option_map (λ (d : MinidiskStatement). d.line)) (find-append
    (λ (d : MinidiskStatement). conflicts extent d.extent) user.minidisks (minidisks_of users))
    ∙ mapped_or (λ d. d.line) (find (λ (d : MinidiskStatement). conflicts extent d.extent) user.minidisks)
    (find (λ (d : MinidiskStatement). conflicts extent d.extent) (minidisks_of users))

-- the user at this place, and then those after
at_place : (extent : Extent) (users : List DirectoryUser) (i : ℕ) (user : DirectoryUser) (o : Option ℕ)
    → i < length users → user ≡ get_or users i user → o ≡ first_conflict extent user.minidisks
    → first_conflict extent (minidisks_of (drop i users)) ≡ option_or o
    (first_conflict extent (minidisks_of (drop (i + 1) users)))
at_place extent users i user o within here found =
    at_drop_more (λ (us : List DirectoryUser). first_conflict extent (minidisks_of us)) users i user within
    ∙ ap (λ (u : DirectoryUser). first_conflict extent (minidisks_of (u ∷ drop (i + 1) users))) (sym here)
    ∙ of_first extent user (drop (i + 1) users)
    ∙ ap (λ (p : Option ℕ). option_or p (first_conflict extent (minidisks_of (drop (i + 1) users)))) (sym found)

-- where none before this user conflicts, what is reported of the user is reported first
on_user : (extent : Extent) (users items : List DirectoryUser) (i : ℕ) (user : DirectoryUser) (o p : Option ℕ)
    → items ≡ users → first_conflict extent (minidisks_of users) ≡ first_conflict extent (minidisks_of (drop i users))
    → i < length items → user ≡ get_or items i user → o ≡ first_conflict extent user.minidisks → o ≡ p
    → first_conflict extent (minidisks_of users) ≡ option_or p
    (first_conflict extent (minidisks_of (drop (i + 1) users)))
on_user extent users items i user o p e so_far within here found is =
    so_far
    ∙ at_place extent users i user o (subst (λ (us : List DirectoryUser). i < length us) e within)
    (subst (λ (us : List DirectoryUser). user ≡ get_or us i user) e here) found
    ∙ ap (λ (q : Option ℕ). option_or q (first_conflict extent (minidisks_of (drop (i + 1) users)))) is

pub returns-in-Some : goal.returns-in-Some
returns-in-Some c =
    sym (on_user c.args.extent.now c.args.self.now c.deref-user-items.result.now c.loop-user.user-index
    c.user-item.result c.first_conflict.result (Some c.in-Some.line)
    (c.deref-user-items.ensures.value ∙ c.self.view_is) c.loop-user.invariant c.loop-user-test.true c.user-item.is
    c.first_conflict.ensures c.in-Some.is)

pub loop-user-preserved : goal.loop-user-preserved
loop-user-preserved c =
    on_user c.args.extent.now c.args.self.now c.deref-user-items.result.now c.loop-user.user-index c.user-item.result
    c.first_conflict.result None
    (c.deref-user-items.ensures.value ∙ c.self.view_is) c.loop-user.invariant c.loop-user-test.true c.user-item.is
    c.first_conflict.ensures c.in_default.is
