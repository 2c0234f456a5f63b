-- The frozen walk: each word, each word of a list and each seek argument as it was when the program
-- began.
use Rattle.std.specs.Prelude.{ℕ, ◌≡◌, Bool, true, ◌==◌, if◌then◌else◌, Some}
use Rattle.s370_walk.specs.declared.parts.NextCcw.{NextCcw}
use Rattle.s370_walk.specs.declared.parts.Position.{Position}
use Rattle.s370_store.specs.Memory.{Memory}
use Rattle.s370_walk.specs.Hardware.{byte_at}
use Rattle.s370_walk.specs.Walk.{Form, Setting, State, Fetching, Moving, walk}
use Rattle.s370_walk.specs.Stuck.{moves}

-- the bytes that go out are those of a seek argument
abbrev pub is_seek : Position → Bool
is_seek p = p.transfer.command.code == 0x07

-- the form whose words and seek arguments are read as they were in another memory
abbrev pub frozen : Form → Memory → Form
frozen form m0 =
    record {
      text = λ _ a. form.text m0 a;
      place = λ _ p. form.place m0 p;
      load = λ m p a. if is_seek p then byte_at m0 a else form.load m p a;
    }

-- From s on, each word that is fetched, each place that is looked up, and each byte of a seek
-- argument is as in m0.
pub record IsSteady {D : Type 0} (form : Form) (h : Setting D) (m0 : Memory)
    (s : State D) : Type 0 where
  pub words : (n : ℕ) (spot : NextCcw) (m : Memory) (d : D) → walk form h n s ≡ Fetching spot m d
      → form.text m spot.at ≡ form.text m0 spot.at
  pub places : (n : ℕ) (p : Position) (m : Memory) (d : D) → walk form h n s ≡ Moving p m d
      → moves h.machine p d ≡ true → form.place m p ≡ form.place m0 p
  pub seeks : (n : ℕ) (p : Position) (m : Memory) (d : D) (a : ℕ) → walk form h n s ≡ Moving p m d
      → moves h.machine p d ≡ true → is_seek p ≡ true → form.place m p ≡ Some a
      → form.load m p a ≡ byte_at m0 a
