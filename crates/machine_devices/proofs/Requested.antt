-- What a line was judged as.
use Rattle.std.proofs.Common.{◌≡◌, ℕ, Bool, List, sym, subst, Result, Ok, Err, refl}
use Rattle.std.specs.Prelude.{IfOk, is_some}
use Rattle.cp_console.specs.Lines.{cleaned}
use Rattle.cp_console.specs.declared.device_commands.DeviceCommand.TheVariants.{Message}
use Rattle.user_names.specs.Users.{user_of}
use Rattle.machine_panel.specs.declared.line.LineError.{LineError}
use Rattle.machine_panel.specs.declared.machine.Mode.{Mode}
use Rattle.machine_devices.specs.declared.line.LineOutcome.{LineOutcome}
use Rattle.machine_devices.specs.declared.request.Request.{Request}
use Rattle.machine_devices.specs.Equipped.{Equipped}
use Rattle.machine_devices.specs.Lines.{IsObeyed, SendsTo, outcome, requested, typed_at}
use Rattle.machine_devices.specs.Requests.{request_in}
use Rattle.machine_devices.specs.UserDirectory.{UserDirectory}

-- the code's judgement is the definition's
pub requested_is : (q : Request) (e : Equipped) (typed text : List ℕ) (mode : Mode) (has : Bool)
    → q ≡ request_in mode has text → mode ≡ e.machine.mode → has ≡ is_some e.devices.places.console
    → text ≡ cleaned typed → requested typed e ≡ q
requested_is q e typed text mode has judged m h t = rw (← m, ← h, ← t) (sym judged)

-- a message changes nothing of its sender's machine
pub sent_from : (r : Result LineOutcome LineError) (w : UserDirectory) (name text : List ℕ) (e : Equipped)
    → IfOk r (λ reported. SendsTo (user_of w.names name) w text reported)
    → IfOk r (λ reported. IsObeyed w (Message name text) e reported e)
sent_from (Ok reported) w name text e h = (refl, h)
sent_from (Err x) w name text e h = tt

-- the text that is typed is the line, cut and cleaned
pub typed_is : (r : Result LineOutcome LineError) (text typed : List ℕ) (before after : Equipped) → text ≡ cleaned typed
    → IfOk r (λ reported. outcome after reported ≡ typed_at before.devices.places.console text before)
    → IfOk r (λ reported. outcome after reported ≡ typed_at before.devices.places.console (cleaned typed) before)
typed_is r text typed before after e h =
    subst (λ (t : List ℕ). IfOk r
    (λ reported. outcome after reported ≡ typed_at before.devices.places.console t before)) e h
