use Rattle.std.proofs.Common.{sym, ◌≡◌, true}
use Rattle.s370_store.proofs.Verdicts.{block_permits, key_zero_permits, permitted_is}
use Rattle.s370_store.proofs.protection.passes_in_block.Goals as goal

pub returns-then-get-eq0 : goal.returns-then-get-eq0
returns-then-get-eq0 g c =
    let e : c.args.key ≡ 0 = cc in
    sym (permitted_is _ _ _ _ _ true (rw e (key_zero_permits _ _ _ _)))

pub returns : goal.returns
returns g c =
    sym (permitted_is _ _ _ _ _ _ (block_permits _ _ _ _ _ _ c.requires.some c.requires.one_block
    (sym c.block_passes.ensures)))
