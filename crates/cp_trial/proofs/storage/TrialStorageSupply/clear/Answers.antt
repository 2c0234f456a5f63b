use Rattle.std.proofs.Common.{◌≡◌, ◌∙◌, ◌*◌, ◌≤◌, List, ℕ, length, ap, ap₂, arith, sym, true, replicate, rules}
use Rattle.std.proofs.lemmas.List.{length-replicate}
use Rattle.s370_store.specs.Memory.{memory_of}
use Rattle.cp_dat.specs.Copies.{written_over}
use Rattle.cp_dat.specs.Lent.{lent_bytes}
use Rattle.cp_dat.proofs.Written.{length-over, over_all}
use Rattle.cp_trial.specs.Trial.{trial_bytes, trial_flags, trial_keys}
use Rattle.cp_trial.proofs.storage.TrialStorageSupply.clear.Goals as goal

pub returns-clause-memory : goal.returns-clause-memory
returns-clause-memory c =
    let s = c.args.self.now in
    let old : List ℕ = lent_bytes s.source.now in
    let n : ℕ = length s.touched.items in
    let size : length (trial_bytes s) ≡ length s.bytes = s.shown in
    let long : length s.bytes ≡ length old = s.sized in
    let pages : length s.bytes ≡ 4096 * n = s.a_flag_a_page in
    let bytes : c.clear.new.self ≡ replicate (length s.bytes) 0 = c.clear.ensures in
    let keys : c.fill.new.self.items ≡ replicate (length (trial_keys s)) 0 = search rules in
    let flags : c.fill-2.new.self.items ≡ replicate n true = search rules in
    let zeros : length c.clear.new.self ≡ length old = ap length bytes ∙ length-replicate (length s.bytes) 0
    ∙ long in
    ap₂ memory_of (ap (λ fs. written_over fs old c.clear.new.self) flags ∙
    over_all n old c.clear.new.self zeros (omega (arith, pages, long)) ∙ bytes ∙
    ap (λ k. replicate k 0) (sym size)) keys

pub invariant_of-self-clause-shown : goal.invariant_of-self-clause-shown
invariant_of-self-clause-shown c =
    length-over c.fill-2.new.self.items (lent_bytes c.args.self.now.source.now) c.clear.new.self
