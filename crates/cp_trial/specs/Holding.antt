-- The pages of a program that no input can change.
use Rattle.std.specs.Prelude.{◌≡◌, ℕ, ◌%◌, All, Bool, List}
use Rattle.s370_store.specs.declared.Page.{Page}
use Rattle.s370_store.specs.Memory.{Memory}
use Rattle.cp_dat.specs.declared.dat.Dat.{Dat}
use Rattle.cp_dat.specs.Lent.{is_lent_page}
use Rattle.cp_needs.specs.Kept.{IsAsItStood, IsPaged, IsPagedOnly, IsText, IsTextOnly}
use Rattle.cp_needs.specs.Needs.{IsFixed, IsHeld, IsProgramPage}
use Rattle.cp_needs.specs.declared.kept.WordAt.{WordAt}
use Rattle.cp_trial.specs.declared.held.LockedProgram.{LockedProgram}
use Rattle.cp_trial.specs.declared.held.LockedProgram.TheVariants as programs

-- the pages that are held together for the program that starts at an address: those of its words,
-- their lists and areas, where no input can change it
pub record HoldNeeds (m : Memory) (start page : ℕ) : Type 0 where
  pub even : start % 8 ≡ 0
  pub fixed : IsFixed m start
  pub needed : IsProgramPage m start page

-- no input can change the program, and its pages are in frames
pub record ArePagesHeld (m : Memory) (start : ℕ) (storage : Dat) : Type 0 where
  pub fixed : IsFixed m start
  pub held : IsHeld m start (is_lent_page storage)

-- no input can change the program, its pages are present, its words and lists lie in these
-- fullwords, as which they are, and its areas on these pages
pub record IsFixedProgram (m : Memory) (start : ℕ) (present : ℕ → Bool) (words : List WordAt)
    (pages : List Page) : Type 0 where
  pub even : start % 8 ≡ 0
  pub fixed : IsFixed m start
  pub held : IsHeld m start present
  pub text : IsText m start words
  pub only : IsTextOnly m start words
  pub stands : All (IsAsItStood m.bytes present) words
  pub paged : IsPaged m start pages
  pub paged_only : IsPagedOnly m start pages

-- what holds of the words and pages that are reported
abbrev pub IfFixed : LockedProgram → (List WordAt → List Page → Type 0) → Type 0
IfFixed (programs.Fixed text pages) P = P text.items pages.items
IfFixed programs.SelfModifying P = Unit {0}

-- what holds where an input is reported to be able to change the program
abbrev pub IfSelfModifying : LockedProgram → Type 0 → Type 0
IfSelfModifying (programs.Fixed text pages) P = Unit {0}
IfSelfModifying programs.SelfModifying P = P
