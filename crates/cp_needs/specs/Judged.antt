-- What is noted of a program whose pages are present.
use Rattle.std.specs.Prelude.{ℕ, List, [], IsPermutation, length}
use Rattle.s370_store.specs.Memory.{Memory}
use Rattle.cp_needs.specs.declared.demand.Judged.{Judged}
use Rattle.cp_needs.specs.declared.demand.Judged.TheVariants as judged
use Rattle.cp_needs.specs.declared.notes.Notes.{Notes}
use Rattle.cp_needs.specs.Noted.{AreMarked, ArePaged, IsDataOf, IsTextOf}
use Rattle.cp_needs.specs.Words.{AreWords}

-- its fullwords, in some order, and the pages of its areas
pub record AreNotes (m : Memory) (start : ℕ) (notes : Notes) : Type 0 where
  pub words : List ℕ
  pub of_program : AreWords m start words
  pub found : List ℕ
  pub moved : IsPermutation found notes.text.items
  pub marked : AreMarked (IsTextOf m words (length words)) [] found
  pub paged : ArePaged (IsDataOf m words (length words)) [] notes.pages.items

-- what holds of the page that is reported
abbrev pub IfAbsent : Judged → (ℕ → Type 0) → Type 0
IfAbsent (judged.Page page) P = P page.0
IfAbsent (judged.Fixed notes) P = Unit {0}
IfAbsent judged.SelfModifying P = Unit {0}

-- what holds of the notes that are reported
abbrev pub IfNotes : Judged → (Notes → Type 0) → Type 0
IfNotes (judged.Page page) P = Unit {0}
IfNotes (judged.Fixed notes) P = P notes
IfNotes judged.SelfModifying P = Unit {0}

-- what holds where an input is reported to be able to change the program
abbrev pub IfOpen : Judged → Type 0 → Type 0
IfOpen (judged.Page page) P = Unit {0}
IfOpen (judged.Fixed notes) P = Unit {0}
IfOpen judged.SelfModifying P = P
