-- A change of no bytes.
use Rattle.std.proofs.Common.{◌≡◌, ℕ, ◌+◌, ◌≤◌, List, [], ◌∷◌, length, refl, arith}
use Rattle.std.proofs.lemmas.Bool.{le-leb}
use Rattle.std.proofs.lemmas.List.{take-append-drop}
use Rattle.s370_store.specs.Access.{put}
use Rattle.s370_rows.specs.State.{State}
use Rattle.cp_console.specs.declared.commands.Change.TheVariants.{Storage}
use Rattle.cp_console.specs.declared.responses.Response.TheVariants.{Stored}
use Rattle.machine_panel.specs.DisplayStore.{stored, changed}

put_nothing : (bytes : List ℕ) (a : ℕ) → put bytes a [] ≡ bytes
unfolding put
put_nothing bytes a = take-append-drop a bytes

-- where no byte is stored, nothing changes
pub nothing_changes : (s : State) (a : ℕ) (bytes : List ℕ) → length bytes ≡ 0 → a + length bytes ≤ length s.bytes
    → (Stored ≡ stored (Storage a bytes) s) × (s ≡ changed (Storage a bytes) s)
nothing_changes s a [] e h =
    let t = le-leb (a + 0) (length s.bytes) h in
    (rw t refl, rw (t, put_nothing s.bytes a) refl)
nothing_changes s a (x ∷ xs) e h = absurd (omega arith)
