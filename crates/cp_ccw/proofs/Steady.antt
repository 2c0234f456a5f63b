-- A program that is fixed: its walk is the one with the words and lists as they were when it began.
use Rattle.std.specs.Prelude.{ℕ, zero, suc, ◌≡◌, refl}
use Rattle.std.proofs.Common.{ap, ◌∙◌}
use Rattle.s370_store.specs.Memory.{Memory}
use Rattle.s370_walk.specs.Walk.{Setting, State, Fetching, Moving, Over, live, next, walk, fetched, rest}
use Rattle.s370_walk.proofs.Freezing.{moved_same}
use Rattle.s370_channel.specs.Guest.{guest_written}
use Rattle.s370_walk.specs.WordsFrozen.{words_frozen}
use Rattle.cp_needs.specs.Laws.{IsSteadyInWords}

module _ {D : Type 0} (h : Setting D) (m0 : Memory) where
  steady_next : (s : State D) → IsSteadyInWords h m0 s → IsSteadyInWords h m0 (next (live guest_written) h s)
  steady_next s steady = record { words = λ n. steady.words (suc n); places = λ n. steady.places (suc n) }

  step_same : (s : State D) → IsSteadyInWords h m0 s
      → next (live guest_written) h s ≡ next (words_frozen (live guest_written) m0) h s
  step_same (Fetching spot m d) steady = ap (λ t. fetched h spot t m d) (steady.words 0 spot m d refl)
  step_same (Moving p m d) steady =
      moved_same h p ((live guest_written).place m p) ((live guest_written).place m0 p) ((live guest_written).load m p)
      ((live guest_written).load m p) m d p.count (rest h.machine p d)
      (λ moves_on. steady.places 0 p m d refl moves_on) (λ moves_on a at. refl)
  step_same (Over e m d) steady = refl

  pub walk_same : (s : State D) (n : ℕ) → IsSteadyInWords h m0 s
      → walk (live guest_written) h n s ≡ walk (words_frozen (live guest_written) m0) h n s
  walk_same s zero steady = refl
  walk_same s (suc n) steady =
      walk_same (next (live guest_written) h s) n (steady_next s steady) ∙ ap
      (walk (words_frozen (live guest_written) m0) h n) (step_same s steady)
