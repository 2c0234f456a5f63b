use Rattle.std.proofs.Common.{◌≡◌, ℕ, ap, subst, sym}
use Rattle.s370_channel.specs.declared.words.Caw.{Caw}
use Rattle.cp_dat.specs.Lent.{is_lent_page, lent_memory}
use Rattle.cp_needs.specs.Kept.{IsPaged, IsPagedOnly, IsText, IsTextOnly}
use Rattle.cp_needs.specs.Needs.{IsHeld}
use Rattle.cp_resident.proofs.resident.run_known.Goals as goal

pub know-requires-clause-held : goal.know-requires-clause-held
know-requires-clause-held c =
    let m = lent_memory c.args.storage.now in
    let at : c.args.start.address ≡ c.copy_of.result.address = sym (ap (λ (x : Caw). x.address) c.copy_of.ensures) in
    subst (λ (a : ℕ). IsHeld m a (is_lent_page c.args.storage.now)) at c.requires.fixed.held

pub know-requires-clause-text : goal.know-requires-clause-text
know-requires-clause-text c =
    let m = lent_memory c.args.storage.now in
    let at : c.args.start.address ≡ c.copy_of.result.address = sym (ap (λ (x : Caw). x.address) c.copy_of.ensures) in
    subst (λ (a : ℕ). IsText m a c.args.text.items) at c.requires.fixed.text

pub know-requires-clause-only : goal.know-requires-clause-only
know-requires-clause-only c =
    let m = lent_memory c.args.storage.now in
    let at : c.args.start.address ≡ c.copy_of.result.address = sym (ap (λ (x : Caw). x.address) c.copy_of.ensures) in
    subst (λ (a : ℕ). IsTextOnly m a c.args.text.items) at c.requires.fixed.only

pub know-requires-clause-pages : goal.know-requires-clause-pages
know-requires-clause-pages c =
    let m = lent_memory c.args.storage.now in
    let at : c.args.start.address ≡ c.copy_of.result.address = sym (ap (λ (x : Caw). x.address) c.copy_of.ensures) in
    subst (λ (a : ℕ). IsPaged m a c.args.pages.now) at c.requires.fixed.paged

pub know-requires-clause-pages_only : goal.know-requires-clause-pages_only
know-requires-clause-pages_only c =
    let m = lent_memory c.args.storage.now in
    let at : c.args.start.address ≡ c.copy_of.result.address = sym (ap (λ (x : Caw). x.address) c.copy_of.ensures) in
    subst (λ (a : ℕ). IsPagedOnly m a c.args.pages.now) at c.requires.fixed.paged_only
