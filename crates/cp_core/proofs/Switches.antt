-- A line that switches the machine on or off needs no page.
use Rattle.std.proofs.Common.{◌≡◌, ℕ, List, [], ◌∷◌, true, inl, inr}
use Rattle.s370_store.specs.Access.{Touches}
use Rattle.s370_intr.specs.Run.{AllNeeded}
use Rattle.machine_devices.specs.declared.request.Request.{Request}
use Rattle.machine_devices.specs.declared.request.Request.TheVariants.{LogsOn, LogsOff, Resets, Types, Loads, Asks}
use Rattle.machine_devices.specs.declared.request.Request.TheVariants.{Alone}
use Rattle.machine_devices.specs.Comes.{LoadWants, is_ipl}
use Rattle.machine_devices.specs.Equipped.{Equipped}
use Rattle.machine_devices.specs.Lines.{requested}
use Rattle.machine_devices.specs.Requests.{needs_of, switches}
use Rattle.cp_core.specs.Wants.{LineWants}

-- it is no IPL
no_ipl : (q : Request) → is_ipl q ≡ true → switches q ≡ true → ⊥
no_ipl LogsOn ipl on = cc
no_ipl LogsOff ipl on = cc
no_ipl Resets ipl on = cc
no_ipl Types ipl on = cc
no_ipl (Loads device) ipl on = cc
no_ipl (Asks command) ipl on = cc
no_ipl (Alone asked) ipl on = cc

-- A line that switches users on or off is no IPL.
pub switch_no_ipl : (typed : List ℕ) (e : Equipped) → is_ipl (requested typed e) ≡ true
    → switches (requested typed e) ≡ true → ⊥
switch_no_ipl typed e ipl on = no_ipl (requested typed e) ipl on

wants_none : (q : Request) (e : Equipped) (page : ℕ) → switches q ≡ true → Touches (needs_of q) page → ⊥
wants_none LogsOn e page on need = need
wants_none LogsOff e page on need = need
wants_none Resets e page on need = cc
wants_none Types e page on need = cc
wants_none (Loads device) e page on need = cc
wants_none (Asks command) e page on need = cc
wants_none (Alone asked) e page on need = cc

loads_none : (q : Request) (e : Equipped) (page : ℕ) → switches q ≡ true → LoadWants q e page → ⊥
loads_none LogsOn e page on want = want
loads_none LogsOff e page on want = want
loads_none Resets e page on want = cc
loads_none Types e page on want = cc
loads_none (Loads device) e page on want = cc
loads_none (Asks command) e page on want = cc
loads_none (Alone asked) e page on want = cc

-- A line that switches users on or off needs no page.
pub switch_wants_none : (typed : List ℕ) (e : Equipped) (page : ℕ) → switches (requested typed e) ≡ true
    → LineWants typed e page → ⊥
switch_wants_none typed e page on want = elim want [
  | inl need ↦ wants_none (requested typed e) e page on need
  | inr loads ↦ loads_none (requested typed e) e page on loads
]

-- ---- what a line needs is wanted

-- A page that a line's command needs is one that the line wants.
pub wanted : (typed : List ℕ) (e : Equipped) (page : ℕ) → Touches (needs_of (requested typed e)) page
    → LineWants typed e page
wanted typed e page need = inl need

-- A page that a line's loading needs is one that the line wants.
pub load_wanted : (typed : List ℕ) (e : Equipped) (page : ℕ) → LoadWants (requested typed e) e page
    → LineWants typed e page
load_wanted typed e page need = inr need

-- ---- lists of pages

-- Pages that a line's command needs are all wanted by the line.
pub all_wanted : (typed : List ℕ) (e : Equipped) (pages : List ℕ)
    → AllNeeded (Touches (needs_of (requested typed e))) pages → AllNeeded (LineWants typed e) pages
all_wanted typed e [] all = tt
all_wanted typed e (page ∷ pages) all = (inl all.0, all_wanted typed e pages all.1)
