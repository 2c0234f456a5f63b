use Rattle.std.proofs.Common.{arith, ◌≡◌, ◌∙◌, ◌+◌, ◌<◌, length, List, ℕ, ap}
use Rattle.s370_store.specs.Memory.{Memory, memory_of}
use Rattle.s370_bytes.specs.Translate.{translated}
use Rattle.s370_bytes.proofs.Translated.{one_translated, translated_is}
use Rattle.s370_bytes.proofs.translate.translate_each.Goals as goal

pub byte_at-name-requires : goal.byte_at-name-requires
byte_at-name-requires g c =
    g.met.R.Reach.part _ _ _ _ _ _
    (g.met.R.Reach.covers_kept _ _ _ _ _ c.loop-k.invariant.rest c.requires.target) (omega arith) (omega arith)

pub byte_at-byte-requires : goal.byte_at-byte-requires
byte_at-byte-requires g c =
    g.met.R.Reach.part _ _ _ _ _ _
    (g.met.R.Reach.covers_kept _ _ _ _ _ c.loop-k.invariant.rest c.requires.table) (omega arith) (omega arith)

pub store-requires-clause-covers : goal.store-requires-clause-covers
store-requires-clause-covers g c =
    g.met.R.Reach.part _ _ _ _ _ _
    (g.met.R.Reach.covers_kept _ _ _ _ _ c.loop-k.invariant.rest c.requires.target) (omega arith) (omega arith)

pub loop-k-preserved : goal.loop-k-preserved
loop-k-preserved g c =
    let inside : c.args.to + c.loop-k.k < length (g.S.Storage.memory c.loop-k.storage).bytes = rw
    (g.met.S.Storage.keeps_size _ _ c.loop-k.invariant.rest) (omega (arith, c.requires.inside)) in
    record {
      bytes = ap (λ (m : Memory). m.bytes) c.store.ensures.stored
          ∙ one_translated _ _ _ _ _ _ _ inside c.loop-k.invariant.bytes c.byte_at-name.ensures
          c.byte_at-byte.ensures;
      rest = g.met.S.Storage.keeps_on _ _ _ c.loop-k.invariant.rest c.store.ensures.rest;
    }

pub returns-clause-stored : goal.returns-clause-stored
returns-clause-stored g c =
    let k : c.loop-k.k ≡ c.args.count = omega arith in
    let keys = g.met.S.Storage.keeps_keys _ _ c.loop-k.invariant.rest in
    let at : List ℕ → Memory = λ bytes. memory_of bytes (g.S.Storage.memory c.args.storage.now).keys in
    ap (memory_of (g.S.Storage.memory c.loop-k.storage).bytes) keys
    ∙ ap at (c.loop-k.invariant.bytes ∙ ap (λ (n : ℕ). translated
    (g.S.Storage.memory c.args.storage.now).bytes c.args.to c.args.from n) k
    ∙ translated_is (g.S.Storage.memory c.args.storage.now).bytes c.args.to c.args.from c.args.count
    c.requires.inside)
