use Rattle.std.proofs.Common.{◌≡◌, ℕ, ap, subst, sym}
use Rattle.s370_channel.specs.declared.words.Caw.{Caw}
use Rattle.cp_dat.specs.Lent.{is_lent_page, lent_memory}
use Rattle.cp_needs.specs.Kept.{IsText, IsTextOnly}
use Rattle.cp_needs.specs.Needs.{IsHeld}
use Rattle.cp_resident.proofs.resident.run_copied.Goals as goal

pub cache_program-requires-clause-held : goal.cache_program-requires-clause-held
cache_program-requires-clause-held g c =
    let m = lent_memory c.args.storage.now in
    let at : c.args.start.now.address ≡ c.copy_of.result.address =
    sym (ap (λ (x : Caw). x.address) c.copy_of.ensures) in
    subst (λ (a : ℕ). IsHeld m a (is_lent_page c.args.storage.now)) at c.requires.fixed.1.held

pub cache_program-requires-clause-text : goal.cache_program-requires-clause-text
cache_program-requires-clause-text g c =
    let m = lent_memory c.args.storage.now in
    let at : c.args.start.now.address ≡ c.copy_of.result.address =
    sym (ap (λ (x : Caw). x.address) c.copy_of.ensures) in
    subst (λ (a : ℕ). IsText m a c.args.text.items) at c.requires.fixed.1.text

pub cache_program-requires-clause-only : goal.cache_program-requires-clause-only
cache_program-requires-clause-only g c =
    let m = lent_memory c.args.storage.now in
    let at : c.args.start.now.address ≡ c.copy_of.result.address =
    sym (ap (λ (x : Caw). x.address) c.copy_of.ensures) in
    subst (λ (a : ℕ). IsTextOnly m a c.args.text.items) at c.requires.fixed.1.only
