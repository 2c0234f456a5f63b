use Rattle.std.proofs.Common.{◌≡◌, ◌∙◌, ◌+◌, ◌*◌, ◌≤◌, List, ℕ, length, ap, arith}
use Rattle.s370_store.specs.Memory.{memory_of}
use Rattle.s370_store.proofs.Puts.{length-put}
use Rattle.cp_dat.specs.Copies.{written_over}
use Rattle.cp_dat.specs.Lent.{lent_bytes}
use Rattle.cp_dat.proofs.Written.{length-over, put_over}
use Rattle.cp_trial.specs.Trial.{trial_bytes, trial_flags, trial_keys}
use Rattle.cp_trial.proofs.storage.TrialStorage.put.Goals as goal

pub write-requires-clause-inside : goal.write-requires-clause-inside
write-requires-clause-inside c =
    let low = c.requires.inside in
    let size : length (trial_bytes c.args.self.now) ≡ length c.args.self.now.bytes = c.args.self.now.shown in
    omega (arith, low, size)

pub returns-clause-stored : goal.returns-clause-stored
returns-clause-stored c =
    let s = c.args.self.now in
    let flags = trial_flags s in
    let old : List ℕ = lent_bytes s.source.now in
    let bytes : List ℕ = s.bytes in
    let low = c.requires.inside in
    let size : length (trial_bytes s) ≡ length bytes = s.shown in
    let long : length bytes ≡ length old = s.sized in
    ap (λ xs. memory_of xs (trial_keys s))
    (ap (λ xs. written_over flags old xs) c.write.ensures ∙
    put_over flags old bytes c.args.from.now c.args.start long (omega (arith, low, size, long)) c.requires.touched)

pub invariant_of-self : goal.invariant_of-self
invariant_of-self c =
    let s = c.args.self.now in
    let old : List ℕ = lent_bytes s.source.now in
    let bytes : List ℕ = c.write.new.self in
    let low = c.requires.inside in
    let size : length (trial_bytes s) ≡ length s.bytes = s.shown in
    let same : length bytes ≡ length s.bytes =
    ap length c.write.ensures ∙ length-put s.bytes c.args.from.now c.args.start (omega (arith, low, size)) in
    let long : length s.bytes ≡ length old = s.sized in
    let few = s.addressable in
    let keys = s.keyed in
    let pages = s.a_flag_a_page in
    record {
      sized = same ∙ long;
      addressable = omega (arith, few, same);
      keyed = omega (arith, keys, same);
      a_flag_a_page = same ∙ pages;
      shown = length-over (trial_flags s) old bytes;
    }
