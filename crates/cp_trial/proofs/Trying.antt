-- What a run leaves whose program was tried.
use Rattle.std.specs.Prelude.{ℕ, zero, suc, ◌≡◌, ◌<◌, Bool, true, false, List, [], ◌∷◌, length, slice_index_or, refl}
use Rattle.std.proofs.Common.{arith, ◌∙◌, subst, sym, ap}
use Rattle.s370_channel.specs.Guest.{guest_written}
use Rattle.s370_walk.specs.declared.parts.Ending.{Ending}
use Rattle.s370_store.specs.Memory.{Memory, memory_of}
use Rattle.s370_walk.specs.Walk.{Fetching, Moving, Over, Reaches, Setting, State, live}
use Rattle.s370_walk.proofs.Reaching.{one_end}
use Rattle.channel_trial.specs.DryRun.{IsTried}
use Rattle.cp_trial.specs.DryRun.{EndsSomehow}

differ : {b : Bool} → b ≡ false → b ≡ true → ⊥
differ away there = cc

-- the run ends with the bytes with which the trial ended
abbrev memory_in : {D : Type 0} → State D → Memory → Memory
memory_in (Fetching spot m d) other = m
memory_in (Moving p m d) other = m
memory_in (Over e m d) other = m

-- What a dry run ends with the real run ends with.
pub walk_for : {D : Type 0} (h : Setting D) (from : Memory → State D) (d' : D) (old run new : Memory)
    (tried_bytes : List ℕ) (touched : List Bool) (ending : Ending)
    → IsTried h (from old) old tried_bytes touched → run ≡ old → EndsSomehow h (from run) ending d'
    → new ≡ memory_of tried_bytes old.keys → Reaches (live guest_written) h (from old) (Over ending new d')
walk_for {D} h from d' old run new tried_bytes touched ending tried run_is ran new_is =
    let form = live guest_written in
    let comes : Reaches form h (from old) (Over ending ran.memory d') =
    subst (λ (m : Memory). Reaches form h (from m) (Over ending ran.memory d')) run_is ran.comes in
    let same : ◌≡◌ {A = State D} (Over tried.ending (memory_of tried_bytes old.keys) tried.device)
    (Over ending ran.memory d') =
    one_end form h (from old) tried.ending ending (memory_of tried_bytes old.keys) ran.memory tried.device d'
    tried.comes comes in
    let memory : ran.memory ≡ memory_of tried_bytes old.keys =
    sym (ap (λ (s : State D). memory_in s (memory_of [] [])) same) in
    subst (λ (m : Memory). Reaches form h (from old) (Over ending m d')) (memory ∙ sym new_is) comes

-- a page that has a flag is one of those that have flags
pub flag_inside : (flags : List Bool) (page : ℕ) → slice_index_or flags page false ≡ true → page < length flags
flag_inside [] page it = absurd (differ refl it)
flag_inside (flag ∷ flags) zero it = omega (arith)
flag_inside (flag ∷ flags) (suc page) it = let low = flag_inside flags page it in omega (arith, low)
