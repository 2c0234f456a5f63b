use Rattle.std.proofs.Common.{◌≡◌, ◌∙◌, ◌*◌, ◌<◌, List, ℕ, [], ◌∷◌, length, ap, arith, refl, rules, sym, true}
use Rattle.std.proofs.lemmas.List.{length-set}
use Rattle.std.specs.Prelude.{slice_set}
use Rattle.s370_store.specs.Memory.{Memory, memory_of}
use Rattle.cp_dat.specs.Lent.{lent_bytes}
use Rattle.cp_dat.proofs.Written.{length-over, over_copied}
use Rattle.cp_trial.specs.declared.storage.TrialStorage.{TrialStorage}
use Rattle.cp_trial.specs.Trial.{is_touched, trial_bytes, trial_flags, trial_keys}
use Rattle.cp_trial.proofs.Brought.{one_brought}
use Rattle.cp_trial.proofs.Marks.{marked_fewer}
use Rattle.cp_trial.proofs.storage.TrialStorageSupply.bring.Goals as goal

-- the page has a flag
flagged : (s : TrialStorage) (page : ℕ) → page * 4096 < length (trial_bytes s) → page < length (trial_flags s)
flagged s page low =
    let size : length (trial_bytes s) ≡ length s.bytes = s.shown in
    let pages : length s.bytes ≡ 4096 * length s.touched.items = s.a_flag_a_page in
    omega (arith, low, size, pages)

pub copy_page-requires-clause-inside : goal.copy_page-requires-clause-inside
copy_page-requires-clause-inside c =
    let s = c.args.self.now in
    let low = c.requires.inside in
    let size : length (trial_bytes s) ≡ length s.bytes = s.shown in
    let long : length s.bytes ≡ length (lent_bytes s.source.now) = s.sized in
    omega (arith, low, size, long)

pub index_mut-requires : goal.index_mut-requires
index_mut-requires c =
    let low = flagged c.args.self.now c.args.page.0 c.requires.inside in
    let all : length c.args.self.now.touched.items ≡ c.args.self.now.touched.len = search rules in
    omega (arith, low, all)

pub returns-clause-memory : goal.returns-clause-memory
returns-clause-memory c =
    let s = c.args.self.now in
    let old : List ℕ = lent_bytes s.source.now in
    ap (λ xs. memory_of xs (trial_keys s))
    (over_copied (trial_flags s) old s.bytes c.copy_page.new.into c.args.page.0 s.sized c.copy_page.ensures.long
    (flagged s c.args.page.0 c.requires.inside) c.requires.away c.copy_page.ensures.copied c.copy_page.ensures.others)

pub returns-clause-fewer : goal.returns-clause-fewer
returns-clause-fewer c =
    let s = c.args.self.now in
    marked_fewer s.touched.items c.args.page.0 (flagged s c.args.page.0 c.requires.inside) c.requires.away

pub returns-clause-brought : goal.returns-clause-brought
returns-clause-brought c =
    let s = c.args.self.now in
    one_brought s _ c.args.page.0 (flagged s c.args.page.0 c.requires.inside) refl
    (ap (λ (m : Memory). m.bytes) (returns-clause-memory c))

pub invariant_of-self : goal.invariant_of-self
invariant_of-self c =
    let s = c.args.self.now in
    let old : List ℕ = lent_bytes s.source.now in
    let bytes : List ℕ = c.copy_page.new.into in
    let long : length s.bytes ≡ length old = s.sized in
    let same : length bytes ≡ length s.bytes = c.copy_page.ensures.long ∙ sym long in
    let few = s.addressable in
    let keys = s.keyed in
    let pages = s.a_flag_a_page in
    let flags : length (slice_set (trial_flags s) c.args.page.0 true) ≡ length (trial_flags s) =
    length-set (trial_flags s) c.args.page.0 true in
    record {
      sized = same ∙ long;
      addressable = omega (arith, few, same);
      keyed = omega (arith, keys, same);
      a_flag_a_page = omega (arith, same, pages, flags);
      shown = length-over (slice_set (trial_flags s) c.args.page.0 true) old bytes;
    }
