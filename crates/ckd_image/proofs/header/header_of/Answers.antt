use Rattle.std.proofs.Common.{◌≡◌, refl, ap, sym, ◌∙◌, arith}
use Rattle.std.proofs.lemmas.Bool.{false≢true}
use Rattle.ckd_image.specs.Reading.{is_volser, magic, most_cylinders}
use Rattle.ckd_image.proofs.Headers.{volser_bytes, put_together, taken_apart, same_most}
use Rattle.ckd_image.proofs.header.header_of.Goals as goal
use Rattle.ckd_image.proofs.header.header_of.Goals.{then-not-is_volser-via-then-not-is_volser}
use Rattle.ckd_image.proofs.header.header_of.Goals.{then-not-is_volser-via-else-not-is_volser+then-cylinders-eq0}
use Rattle.ckd_image.proofs.header.header_of.Goals.{then-not-is_volser-via-else-not-is_volser+else-cylinders-eq0+then-cylinders-most_cylinders}

pub returns-then-not-is_volser-clause-none : goal.returns-then-not-is_volser-clause-none
returns-then-not-is_volser-clause-none c =
    record {
      there = c.requires;
      none = λ version volser count h.
          let parts = taken_apart c.args.bytes.now version volser count h in
          let most : most_cylinders c.in_ok-version.version ≡ most_cylinders version = same_most c.in_ok-version.version
          version (sym c.in_ok-version.ensures.some ∙ parts.begins) in
          elim c.then-not-is_volser.branch [
            | then-not-is_volser-via-then-not-is_volser w ↦
                false≢true (sym w.if-not-is_volser.true ∙ (c.is_volser.ensures ∙ (ap is_volser parts.named ∙ h.serial)))
            | then-not-is_volser-via-else-not-is_volser+then-cylinders-eq0 w ↦
                absurd (omega (arith, w.if-cylinders-eq0.true, c.read_u16-cylinders.ensures, parts.counted, h.some))
            | then-not-is_volser-via-else-not-is_volser+else-cylinders-eq0+then-cylinders-most_cylinders w ↦
                absurd (omega (
                  arith,
                  w.if-cylinders-most_cylinders.true,
                  w.most_cylinders.ensures.value,
                  c.read_u16-cylinders.ensures,
                  parts.counted,
                  most,
                  h.few,
                ))
          ];
    }

pub returns-clause-some : goal.returns-clause-some
returns-clause-some c =
    let l = c.args.bytes.now in
    record {
      spelled = put_together l (magic c.in_ok-version.version) c.read_u16-cylinders.result
          (λ i. omega (arith, c.type_inv.bytes i)) c.requires c.in_ok-version.ensures.some c.read_u16-cylinders.ensures;
      long = refl;
      serial = ap is_volser (sym (volser_bytes l c.requires)) ∙ (sym c.is_volser.ensures ∙ c.if-not-is_volser.false);
      some = omega (arith, c.if-cylinders-eq0.false);
      few = omega (arith, c.if-cylinders-most_cylinders.false, c.most_cylinders.ensures.value);
    }
