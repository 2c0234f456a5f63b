use Rattle.std.proofs.Common.{◌≡◌, ℕ, false, length, ap, ap₂, sym, ◌∙◌, arith}
use Rattle.std.specs.Prelude.{slice_index_or}
use Rattle.s370_channel.specs.Loading.{loading, loading_limits}
use Rattle.s370_channel.specs.Progress.{setting}
use Rattle.s370_store.specs.Memory.{Memory, memory_of}
use Rattle.cp_trial.specs.Trial.{touched_flags, tried_bytes}
use Rattle.cp_dat.specs.Copies.{is_wanted}
use Rattle.cp_dat.specs.Lent.{lent_bytes, lent_memory}
use Rattle.cp_dat.proofs.Copying.{came_fewer, came_more}
use Rattle.cp_trial.proofs.Pages.{flags_fit, pages_long, put_is}
use Rattle.cp_trial.proofs.Trying.{flag_inside, walk_for}
use Rattle.cp_trial.proofs.load_tried.Goals as goal

pub returns-in-Err-clause-paged_in : goal.returns-in-Err-clause-paged_in
returns-in-Err-clause-paged_in g c =
    let old = c.args.storage.now in
    let Flagged : ℕ → Type 0 = is_wanted (touched_flags c.args.tried.now) in
    came_fewer old c.page_in_wanted.new.self (is_wanted c.touched.result.now) Flagged 1 2
    (λ page it. ap (λ flags. slice_index_or flags page false) (sym c.touched.ensures.flags) ∙ it) (omega arith)
    c.page_in_wanted.ensures.paged_in

pub returns-in_default-clause-paged_in : goal.returns-in_default-clause-paged_in
returns-in_default-clause-paged_in g c =
    let old = c.args.storage.now in
    let Flagged : ℕ → Type 0 = is_wanted (touched_flags c.args.tried.now) in
    came_fewer old c.page_in_wanted.new.self (is_wanted c.touched.result.now) Flagged 1 2
    (λ page it. ap (λ flags. slice_index_or flags page false) (sym c.touched.ensures.flags) ∙ it) (omega arith)
    c.page_in_wanted.ensures.paged_in

pub returns-clause-paged_in : goal.returns-clause-paged_in
returns-clause-paged_in g c =
    let old = c.args.storage.now in
    let Flagged : ℕ → Type 0 = is_wanted (touched_flags c.args.tried.now) in
    let placed = came_fewer old c.page_in_wanted.new.self (is_wanted c.touched.result.now) Flagged 1 1
    (λ page it. ap (λ flags. slice_index_or flags page false) (sym c.touched.ensures.flags) ∙ it) (omega arith)
    c.page_in_wanted.ensures.paged_in in
    came_more old c.page_in_wanted.new.self c.put_back.new.self (is_wanted c.touched-2.result.now) Flagged 1 1
    (λ page it. ap (λ flags. slice_index_or flags page false) (sym c.touched-2.ensures.flags) ∙ it) placed
    c.put_back.ensures.paged_in

pub returns-clause-walk : goal.returns-clause-walk
returns-clause-walk g c =
    walk_for (setting g.D.Device.machine loading_limits) (λ m. loading g.D.Device.machine m c.args.device.now)
    c.load_on_copy-ran.new.device (lent_memory c.args.storage.now) (lent_memory c.page_in_wanted.new.self)
    (lent_memory c.put_back.new.self) (tried_bytes c.args.storage.now c.args.tried.now) (touched_flags c.args.tried.now)
    c.in-Ok-ran.ending c.requires.tried c.page_in_wanted.ensures.memory c.in-Ok-ran.ensures.ends
    (ap₂ memory_of (c.put_back.ensures.bytes ∙
    put_is c.args.storage.now c.page_in_wanted.new.self c.args.tried.now c.touched-2.result.now c.bytes.result.now
    c.touched-2.ensures.flags c.bytes.ensures c.page_in_wanted.ensures.memory)
    (c.put_back.ensures.paged_in.keys ∙ ap (λ (m : Memory). m.keys) c.page_in_wanted.ensures.memory))

pub page_in_wanted-requires-clause-inside : goal.page_in_wanted-requires-clause-inside
page_in_wanted-requires-clause-inside g c =
    let all = flags_fit c.args.storage.now c.args.tried.now c.requires.tried.size c.touched.result.now
    c.touched.ensures.flags in
    omega (arith, all)

pub put_back-requires-clause-long : goal.put_back-requires-clause-long
put_back-requires-clause-long g c =
    ap length c.bytes.ensures ∙ pages_long c.args.storage.now c.args.tried.now c.requires.tried.size ∙
    sym (ap (λ (m : Memory). length m.bytes) c.page_in_wanted.ensures.memory)

pub put_back-requires-clause-flags : goal.put_back-requires-clause-flags
put_back-requires-clause-flags g c =
    flags_fit c.args.storage.now c.args.tried.now c.requires.tried.size c.touched-2.result.now
    c.touched-2.ensures.flags ∙
    sym (ap (λ (m : Memory). length m.bytes) c.page_in_wanted.ensures.memory)

pub returns-in-Err-clause-lacking : goal.returns-in-Err-clause-lacking
returns-in-Err-clause-lacking g c = λ out.
    (let found = c.in-Err.ensures.out in
    let all = flags_fit c.args.storage.now c.args.tried.now c.requires.tried.size c.touched.result.now
    c.touched.ensures.flags in
    let same : length (lent_bytes c.page_in_wanted.new.self) ≡ length (lent_bytes c.args.storage.now) =
    ap (λ (m : Memory). length m.bytes) c.page_in_wanted.ensures.memory in
    let low = flag_inside c.touched.result.now found.0 found.1 in
    record {
      page = found.0;
      inside = omega (arith, all, same, low);
      such = ap (λ flags. slice_index_or flags found.0 false) (sym c.touched.ensures.flags) ∙ found.1;
      out = found.2;
    })
