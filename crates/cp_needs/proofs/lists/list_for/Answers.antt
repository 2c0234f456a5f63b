use Rattle.std.proofs.Common.{◌≡◌, ◌∙◌, ap, arith, length}
use Rattle.s370_channel.specs.Guest.{area_block}
use Rattle.cp_needs.proofs.Tables.{part_on, here_on, first_on, failed_on, list_whole, none_is, some_is}
use Rattle.cp_needs.proofs.Closures.{begun_on}
use Rattle.cp_needs.proofs.lists.list_for.Goals as goal

pub returns-then-is_none-clause-list : goal.returns-then-is_none-clause-list
returns-then-is_none-clause-list g c = λ has.
    let f = area_block (g.S.Storage.memory c.args.storage.now) c.args.word.now in
    let at : c.len-in-blocks-2.result ≡ length c.blocks-2.list.items = omega (arith, c.blocks-2.list.ok.0) in
    failed_on _ c.args.word.now c.blocks-2.list.items _ c.in-Ok-entry.said c.in-Ok-push-2.ensures.items
    c.blocks-2.invariant.part (c.in-Ok-entry.ensures.block ∙ ap f at)
    (none_is c.in-Ok-entry.said c.is_none.result c.is_none.ensures c.if-is_none.true)

pub returns-then-is_none-clause-present : goal.returns-then-is_none-clause-present
returns-then-is_none-clause-present g c = here_on (length (g.S.Storage.memory c.args.storage.now).bytes)
    (g.S.Storage.present c.args.storage.now) c.blocks-2.list.items _ c.in-Ok-entry.said c.in-Ok-push-2.ensures.items
    c.blocks-2.invariant.here c.in-Ok-entry.ensures.present

pub blocks-2-preserved : goal.blocks-2-preserved
blocks-2-preserved g c =
    let f = area_block (g.S.Storage.memory c.args.storage.now) c.args.word.now in
    let at : c.len-in-blocks-2.result ≡ length c.blocks-2.list.items = omega (arith, c.blocks-2.list.ok.0) in
    record {
      part = part_on c.blocks-2.list.items _ f c.in-Ok-entry.said c.in-Ok-push-2.ensures.items c.blocks-2.invariant.part
          (c.in-Ok-entry.ensures.block ∙ ap f at);
      first = first_on c.blocks-2.list.items _ c.in-Ok-entry.said c.in-Some.start c.in-Ok-push-2.ensures.items
          c.blocks-2.invariant.some c.blocks-2.invariant.first;
      begun = begun_on c.blocks-2.list.items _ c.in-Ok-entry.said c.in-Ok-push-2.ensures.items
          c.blocks-2.invariant.begun (some_is c.in-Ok-entry.said c.is_none.result c.is_none.ensures c.if-is_none.false);
      some = omega (arith, c.in-Ok-push-2.ensures.len, c.push-in-blocks-2.new.self.ok.0);
      short = omega (
        arith,
        c.in-Ok-push-2.ensures.len,
        c.push-in-blocks-2.new.self.ok.0,
        c.blocks-2-test.true,
        c.blocks-2.list.ok.0,
      );
      here = here_on (length (g.S.Storage.memory c.args.storage.now).bytes)
          (g.S.Storage.present c.args.storage.now) c.blocks-2.list.items _ c.in-Ok-entry.said
          c.in-Ok-push-2.ensures.items c.blocks-2.invariant.here c.in-Ok-entry.ensures.present;
    }

pub returns-clause-list : goal.returns-clause-list
returns-clause-list g c = λ has. list_whole _ c.args.word.now c.blocks-2.list.items c.in-Some.start
    c.blocks-2.invariant.part c.blocks-2.invariant.first (omega (arith, c.blocks-2-test.false, c.blocks-2.list.ok.0))
