use Rattle.std.proofs.Common.{◌≡◌, ◌/◌, ◌∙◌, List, ℕ, ap₂, ap, false, length, replicate, rules}
use Rattle.s370_store.specs.Memory.{memory_of}
use Rattle.cp_dat.specs.Copies.{written_over}
use Rattle.cp_dat.specs.Lent.{lent_bytes, lent_keys}
use Rattle.cp_dat.proofs.Written.{length-over, over_none}
use Rattle.cp_trial.proofs.storage.TrialStorage.new.Goals as goal

pub returns-clause-memory : goal.returns-clause-memory
returns-clause-memory c =
    let bytes : List ℕ = lent_bytes c.args.source.now in
    let flags : c.in_ok-touched.touched.items ≡ replicate (c.size-size.result / 4096) false = search rules in
    let size : length c.in_ok-bytes.bytes ≡ length bytes = search rules in
    let keys : c.in_ok-keys.keys.items ≡ lent_keys c.args.source.now = search rules in
    ap₂ memory_of (ap (λ fs. written_over fs bytes c.in_ok-bytes.bytes) flags ∙
    over_none (c.size-size.result / 4096) bytes c.in_ok-bytes.bytes size) keys

pub invariant_of-result-clause-shown : goal.invariant_of-result-clause-shown
invariant_of-result-clause-shown c =
    length-over c.in_ok-touched.touched.items (lent_bytes c.args.source.now) c.in_ok-bytes.bytes
