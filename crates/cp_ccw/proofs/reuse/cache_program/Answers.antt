use Rattle.std.proofs.Common.{◌≡◌, ◌%◌, arith, length, refl, sym, ◌∙◌}
use Rattle.cp_needs.specs.Table.{program_of}
use Rattle.cp_dat.specs.Lent.{is_lent_page, lent_bytes, lent_memory}
use Rattle.cp_ccw.proofs.Keeping.{translated_for}
use Rattle.cp_ccw.proofs.Served.{none_is_served}
use Rattle.cp_ccw.proofs.reuse.cache_program.Goals as goal

pub unreachable-requires : goal.unreachable-requires
unreachable-requires c =
    let reported = rw (c.in-Err-Absent.field-0-is, c.get.ensures.value) at c.in-Err-Absent.ensures.absent in
    none_is_served (lent_memory c.args.dat.now) c.args.caw.address c.in-Err-Absent.field-0-0.0
    (is_lent_page c.args.dat.now) c.requires.held reported.0 reported.1

pub invariant_of-result : goal.invariant_of-result
invariant_of-result c =
    let d = c.args.dat.now in
    let sized = d.sized in
    let pages = d.whole in
    let whole : length (lent_bytes d) % 4096 ≡ 0 = omega (arith, sized, pages) in
    record {
      memory = lent_memory d;
      fixed = c.requires.fixed;
      sized = sym c.size.ensures.bytes;
      text_is = c.requires.text;
      text_only = c.requires.only;
      place = c.in-Ok.ensures.place;
      at = c.in-Ok.ensures.start ∙ c.get.ensures.value;
      guests = program_of c.in-Ok.copied.nodes.items;
      copy = c.in-Ok.ensures.copy;
      held_only = rw c.deref.ensures.value at c.in_ok-held.ensures.only;
      translated = λ e size stay.
          translated_for d e c.in-Ok.copied.places.items c.in-Ok.copied.nodes.items c.nodes_to_real.new.nodes.items
          c.in_ok-held.held.items (lent_memory d) c.in-Ok.ensures.copy c.nodes_to_real.ensures
          (rw c.deref.ensures.value at c.in_ok-held.ensures.noted) c.in-Ok.ensures.held whole
          (size ∙ c.size.ensures.bytes) stay;
    }

pub returns : goal.returns
returns c = record {
  same_caw = refl;
  same_size = c.size.ensures.bytes;
  words = c.requires.stands;
  frames = c.in_ok-held.ensures.stand;
}
