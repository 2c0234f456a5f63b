use Rattle.std.proofs.Common.{◌≡◌, ℕ, List, [], ◌∷◌, None, refl, ap, ◌∙◌}
use Rattle.cp_directory.specs.Statements.{disk_of, disk_stated, the_one}
use Rattle.cp_directory.proofs.device_spelling.read_minidisk.Goals as goal

-- five operands, and then none or more than one, state no minidisk
not_six : (a b c d e : List ℕ) (words : List (List ℕ)) → the_one words ≡ None
    → None ≡ disk_stated (a ∷ b ∷ c ∷ d ∷ e ∷ words)
not_six a b c d e [] h = refl
not_six a b c d e (f ∷ []) h = cc
not_six a b c d e (f ∷ g ∷ words) h = refl

pub returns-in_err-mode : goal.returns-in_err-mode
returns-in_err-mode c =
    rw (
      c.from_residual-in_err-mode.ensures,
      c.in_ok-address.ensures.words,
      c.in_ok-model.ensures.words,
      c.in_ok-start.ensures.words,
      c.in_ok-count.ensures.words,
      c.in_ok-volser.ensures.words,
    )
    (not_six c.in_ok-address.address.now c.in_ok-model.model.now c.in_ok-start.start.now c.in_ok-count.count.now
    c.in_ok-volser.volser.now _ c.in_err-mode.ensures)

pub returns : goal.returns
returns c =
    rw (
      c.in_ok-address.ensures.words,
      c.in_ok-model.ensures.words,
      c.in_ok-start.ensures.words,
      c.in_ok-count.ensures.words,
      c.in_ok-volser.ensures.words,
      c.in_ok-mode.ensures,
    )
    (c.disk_of.ensures ∙ ap (disk_of c.in_ok-address.address.now c.in_ok-model.model.now) c.extent_spelled.ensures)
