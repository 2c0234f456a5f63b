use Rattle.std.proofs.Common.{◌≡◌, ℕ, ◌+◌, ◌-◌, ◌*◌, ◌%◌, ◌<◌, ◌≤◌, List, length, get_or, ap, ◌∙◌, inl, inr, arith}
use Rattle.std.proofs.Common.{rules}
use Rattle.std.proofs.lemmas.Bool.{cases_lt}
use Rattle.s370_store.specs.Access.{put}
use Rattle.s370_store.proofs.Puts.{length-put, put_before, put_after}
use Rattle.cp_dat.specs.Lent.{lent_bytes}
use Rattle.cp_dat.proofs.Copying.{chunk_at, put_within}
use Rattle.cp_dat.proofs.dat.Dat.copy_page.Goals as goal

pub loop-done-preserved : goal.loop-done-preserved
loop-done-preserved c =
    let bytes : List ℕ = lent_bytes c.args.self.now in
    let before = c.loop-done.invariant in
    let aligned = before.aligned in
    let first : ℕ = c.args.page.0 * 4096 in
    let start : ℕ = first + c.loop-done.done in
    let part : List ℕ = c.copy_chunk.new.into in
    let new : List ℕ = c.write.new.self in
    let whole : length bytes % 4096 ≡ 0 = search (rules, c.args.self.now.whole, c.args.self.now.sized) in
    let inside = c.requires.inside in
    let low = c.loop-done-test.true in
    let within : start + 256 ≤ length bytes = omega (arith, whole, inside, low, aligned) in
    let long : length part ≡ 256 = search rules in
    let size = before.long in
    let fits : start + length part ≤ length c.loop-done.into = omega (arith, within, long, size) in
    let is : new ≡ put c.loop-done.into start part = c.write.ensures in
    record {
      long = ap length is ∙ length-put c.loop-done.into part start fits ∙ size;
      chunk = long;
      aligned = omega (arith, aligned);
      few = omega (arith, low, aligned);
      copied = λ a above below. (elim (cases_lt a start) [
        | inl under ↦ ap (λ xs. get_or xs a 0) is ∙ put_before c.loop-done.into part start a fits under ∙
            before.copied a above under
        | inr over ↦ (let place : start + (a - start) ≡ a = omega (arith, over) in
            let few : a - start < 256 = omega (arith, below, over) in
            ap (λ xs. get_or xs a 0) is ∙
            put_within c.loop-done.into part start a fits over (omega (arith, below, long)) ∙
            ap (λ xs. get_or xs (a - start) 0) c.copy_chunk.ensures ∙
            chunk_at bytes start (a - start) within few ∙ ap (λ k. get_or bytes k 0) place)
      ]);
      before = λ a under. ap (λ xs. get_or xs a 0) is ∙
          put_before c.loop-done.into part start a fits (omega (arith, under)) ∙ before.before a under;
      after = λ a over. ap (λ xs. get_or xs a 0) is ∙
          put_after c.loop-done.into part start a fits (omega (arith, over, long)) ∙
          before.after a (omega (arith, over));
    }
