use Rattle.std.proofs.Common.{arith, sym, ◌≡◌, ◌∙◌, ℕ, List, take, ap}
use Rattle.s370_store.specs.Memory.{memory_of, with_stored}
use Rattle.s370_store.proofs.Puts.{put-nothing}
use Rattle.s370_bytes.proofs.masks.store_front.Goals as goal

pub returns-in-0-clause-stored : goal.returns-in-0-clause-stored
returns-in-0-clause-stored g c =
    let m = g.S.Storage.memory c.args.storage.now in
    let none : 0 ≡ c.args.count = omega arith in
    sym (ap (λ (bytes : List ℕ). memory_of bytes m.keys) (put-nothing m.bytes c.args.start))
    ∙ ap (λ (n : ℕ). with_stored m c.args.start (take n c.args.bytes.now)) none
