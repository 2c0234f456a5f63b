-- What is held of a fixed program.
use Rattle.std.specs.Prelude.{◌≡◌, ℕ, ◌%◌, All, List, [], ◌∷◌, ◌++◌}
use Rattle.std.proofs.Common.{subst}
use Rattle.s370_channel.specs.Supplied.{AllSuch}
use Rattle.s370_store.specs.declared.Page.{Page}
use Rattle.s370_store.specs.Memory.{Memory}
use Rattle.cp_dat.specs.declared.dat.Dat.{Dat}
use Rattle.cp_dat.specs.Lent.{is_lent_page, lent_bytes, lent_memory}
use Rattle.cp_needs.specs.Kept.{IsAsItStood, IsPaged, IsPagedOnly, IsText, IsTextOnly}
use Rattle.cp_needs.specs.Needs.{IsFixed, IsHeld}
use Rattle.cp_needs.specs.declared.kept.WordAt.{WordAt}
use Rattle.cp_trial.specs.Holding.{IsFixedProgram}

-- If pages of both lists are such, those of the lists together are.
pub such_on : (P : ℕ → Type 0) (first second : List ℕ) → AllSuch P first → AllSuch P second
    → AllSuch P (first ++ second)
such_on P [] second a b = b
such_on P (page ∷ first) second a b = (a.0, such_on P first second a.1 b)

-- What follows of each page follows of all.
pub such_for : (P Q : ℕ → Type 0) → ((page : ℕ) → P page → Q page) → (pages : List ℕ) → AllSuch P pages
    → AllSuch Q pages
such_for P Q more [] all = tt
such_for P Q more (page ∷ pages) all = (more page all.0, such_for P Q more pages all.1)

-- A fixed program that was locked has all its pages and words where they stood.
pub fixed_at : (old new : Dat) (start : ℕ) (words : List WordAt) (pages : List Page) → lent_memory new ≡ lent_memory old
    → start % 8 ≡ 0
    → IsFixed (lent_memory new) start → IsHeld (lent_memory new) start (is_lent_page new)
    → IsText (lent_memory new) start words → IsTextOnly (lent_memory new) start words
    → All (IsAsItStood (lent_bytes new) (is_lent_page new)) words → IsPaged (lent_memory new) start pages
    → IsPagedOnly (lent_memory new) start pages
    → IsFixedProgram (lent_memory old) start (is_lent_page new) words pages
fixed_at old new start words pages same even fixed held text only stands paged paged_only =
    subst (λ (m : Memory). IsFixedProgram m start (is_lent_page new) words pages) same
    (record {
      even = even;
      fixed = fixed;
      held = held;
      text = text;
      only = only;
      stands = stands;
      paged = paged;
      paged_only = paged_only;
    })
