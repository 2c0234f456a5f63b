-- A steady program's walk is its walk with words and lists as they were when it began.
use Rattle.std.specs.Prelude.{ℕ, zero, suc, ◌≡◌, refl}
use Rattle.std.proofs.Common.{ap, ◌∙◌}
use Rattle.s370_walk.specs.Frozen.{IsSteady}
use Rattle.s370_store.specs.Memory.{Memory}
use Rattle.s370_walk.specs.Walk.{Form, Setting, State, Fetching, Moving, Over, next, walk, fetched, rest}
use Rattle.s370_walk.proofs.Freezing.{moved_same}
use Rattle.s370_walk.specs.WordsFrozen.{words_frozen}

module _ {D : Type 0} (form : Form) (h : Setting D) (m0 : Memory) where
  steady_next : (s : State D) → IsSteady form h m0 s → IsSteady form h m0 (next form h s)
  steady_next s steady = record {
    words = λ n. steady.words (suc n);
    places = λ n. steady.places (suc n);
    seeks = λ n. steady.seeks (suc n);
  }

  words_step : (s : State D) → IsSteady form h m0 s → next form h s ≡ next (words_frozen form m0) h s
  words_step (Fetching spot m d) steady = ap (λ t. fetched h spot t m d) (steady.words 0 spot m d refl)
  words_step (Moving p m d) steady =
      moved_same h p (form.place m p) (form.place m0 p) (form.load m p) (form.load m p) m d p.count (rest h.machine p d)
      (λ moves_on. steady.places 0 p m d refl moves_on) (λ moves_on a at. refl)
  words_step (Over e m d) steady = refl

  pub words_walk : (s : State D) (n : ℕ) → IsSteady form h m0 s → walk form h n s ≡ walk (words_frozen form m0) h n s
  words_walk s zero steady = refl
  words_walk s (suc n) steady =
      words_walk (next form h s) n (steady_next s steady) ∙ ap (walk (words_frozen form m0) h n) (words_step s steady)
