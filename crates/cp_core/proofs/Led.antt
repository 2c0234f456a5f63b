-- Many users side by side: an event happens to one, and what it brings about for another happens to that other.
use Rattle.std.proofs.Common.{◌≡◌, ◌≢◌, ℕ, Bool, true, false, List, [], ◌∷◌, ◌++◌, get_or, set, Option, Some, None}
use Rattle.std.proofs.Common.{refl, sym, ◌∙◌, ap, subst, get_or-set_other, arith, ◌==◌}
use Rattle.std.specs.Prelude.{if◌then◌else◌}
use Rattle.std.proofs.lemmas.Grind.{common_steps}
use Rattle.s370_channel.specs.Reading.{Reading, as_reached}
use Rattle.unit_record.specs.Output.{FileValue}
use Rattle.machine_devices.specs.Equipped.{Equipped, nobody}
use Rattle.machine_devices.specs.Life.{Event as Local, Leaves, Lives}
use Rattle.cp_core.specs.Come.{HasReceived}
use Rattle.machine_devices.specs.Coming.{comes_by_line}
use Rattle.cp_core.specs.Local.{Step, comes_to, coming}
use Rattle.cp_core.specs.System.{SystemView, user_at}
use Rattle.machine_devices.specs.declared.reply.Delivered.{Delivered}
use Rattle.machine_devices.specs.declared.reply.Delivery.{Delivery}
use Rattle.machine_devices.specs.declared.reply.Delivery.TheVariants as deliveries

-- events and then more events
pub lives_on : (reads : Reading) (es fs : List Local) (a b c : Equipped) → Lives reads es a b → Lives reads fs b c
    → Lives reads (es ++ fs) a c
lives_on reads [] fs a b c h g = subst (λ (e : Equipped). Lives reads fs e c) h g
lives_on reads (e ∷ es) fs a b c h g = (h.0, h.1, lives_on reads es fs h.0 b c h.2 g)

pub lives_once : (reads : Reading) (e : Local) (a b : Equipped) → Leaves reads e a b → Lives reads (e ∷ []) a b
lives_once reads e a b h = (b, h, refl)

-- ---- one user's machine changes, and no other

led_where : (one : ℕ) (events : List Local) (old new : List Equipped) → new ≡ set old one (get_or new one nobody)
    → Lives as_reached events (get_or old one nobody) (get_or new one nobody) → (user : ℕ) (b : Bool)
    → (one == user) ≡ b → Lives as_reached (if b then events else []) (get_or old user nobody) (get_or new user nobody)
led_where one events old new e h user true t =
    let same : one ≡ user = grind (arith, common_steps) in
    subst (λ (u : ℕ). Lives as_reached events (get_or old u nobody) (get_or new u nobody)) same h
led_where one events old new e h user false t =
    let other : user ≢ one = grind (arith, common_steps) in
    ap (λ (states : List Equipped). get_or states user nobody) e ∙ (rw get_or-set_other refl)

-- where to him these events happen, each is led by his own
pub led_alone : (one : ℕ) (events : List Local) (old new : List Equipped) → new ≡ set old one (get_or new one nobody)
    → Lives as_reached events (get_or old one nobody) (get_or new one nobody) → (user : ℕ)
    → Lives as_reached (if one == user then events else []) (get_or old user nobody) (get_or new user nobody)
led_alone one events old new e h user = led_where one events old new e h user (one == user) refl

-- what stays of him stays of each
stays_where : {A : Type 0} (f : Equipped → A) (one : ℕ) (old new : List Equipped)
    → new ≡ set old one (get_or new one nobody) → f (get_or new one nobody) ≡ f (get_or old one nobody)
    → (user : ℕ) (b : Bool) → (one == user) ≡ b → f (get_or new user nobody) ≡ f (get_or old user nobody)
stays_where f one old new e h user true t =
    let same : one ≡ user = grind (arith, common_steps) in
    subst (λ (u : ℕ). f (get_or new u nobody) ≡ f (get_or old u nobody)) same h
stays_where f one old new e h user false t =
    let other : user ≢ one = grind (arith, common_steps) in
    ap f (ap (λ (states : List Equipped). get_or states user nobody) e ∙ (rw get_or-set_other refl))

-- What one user's step leaves of him stays of all users.
pub stays_each : {A : Type 0} (f : Equipped → A) (one : ℕ) (old new : List Equipped)
    → new ≡ set old one (get_or new one nobody) → f (get_or new one nobody) ≡ f (get_or old one nobody) → (user : ℕ)
    → f (get_or new user nobody) ≡ f (get_or old user nobody)
stays_each f one old new e h user = stays_where f one old new e h user (one == user) refl

-- each other user's machine stays
pub others_stay : (one : ℕ) (old new : List Equipped) → new ≡ set old one (get_or new one nobody) → (user : ℕ)
    → (one == user) ≡ false → get_or new user nobody ≡ get_or old user nobody
others_stay one old new e user t =
    let other : user ≢ one = grind (arith, common_steps) in
    ap (λ (states : List Equipped). get_or states user nobody) e ∙ (rw get_or-set_other refl)

-- ---- what is delivered comes to its receiver

-- What a delivery brings a user is an event of his own machine.
pub come_led : (old : SystemView) (step : Step) (come : Delivery → Local) (delivered : Option Delivered)
    (middle new : SystemView) → HasReceived come delivered middle new
    → ((what : Delivery) → come what ≡ coming old step what) → (user : ℕ)
    → Lives as_reached (comes_to user old step delivered) (user_at middle user) (user_at new user)
come_led old step come None middle new h same user = ap (λ (us : List Equipped). get_or us user nobody) h
come_led old step come (Some delivered) middle new h same user =
    let comes : Leaves as_reached (coming old step delivered.what) (user_at middle delivered.to)
    (user_at new delivered.to) =
    subst (λ (l : Local). Leaves as_reached l (user_at middle delivered.to) (user_at new delivered.to))
    (same delivered.what) h.comes in
    led_alone delivered.to (coming old step delivered.what ∷ []) middle.users new.users h.others
    (lives_once as_reached (coming old step delivered.what) (user_at middle delivered.to) (user_at new delivered.to)
    comes) user

-- the same reported in two ways has come
pub come_as : (f g : Delivery → Local) (delivered : Option Delivered) (middle new : SystemView)
    → ((d : Delivered) → delivered ≡ Some d → f d.what ≡ g d.what) → HasReceived f delivered middle new
    → HasReceived g delivered middle new
come_as f g None middle new same h = h
come_as f g (Some d) middle new same h = record {
  inside = h.inside;
  comes = subst (λ (l : Local). Leaves as_reached l (user_at middle d.to) (user_at new d.to)) (same d refl) h.comes;
  others = h.others;
}

-- punch and printer are as they were
punch_kept : (user index : ℕ) (e : Equipped) (what : Delivery) (old new : Equipped)
    → Leaves as_reached (comes_by_line user index e what) old new → new.devices.punched ≡ old.devices.punched
punch_kept user index e (deliveries.Deck number) old new h = ap (λ (x : Equipped). x.devices.punched) h
punch_kept user index e (deliveries.Message line) old new h = ap (λ (x : Equipped). x.devices.punched) h

printer_kept : (user index : ℕ) (e : Equipped) (what : Delivery) (old new : Equipped)
    → Leaves as_reached (comes_by_line user index e what) old new → new.devices.printed ≡ old.devices.printed
printer_kept user index e (deliveries.Deck number) old new h = ap (λ (x : Equipped). x.devices.printed) h
printer_kept user index e (deliveries.Message line) old new h = ap (λ (x : Equipped). x.devices.printed) h

-- A delivery leaves the punch files of all users as they are.
pub punch_stays : (user index : ℕ) (e : Equipped) (delivered : Option Delivered) (middle new : SystemView)
    → HasReceived (comes_by_line user index e) delivered middle new → (u : ℕ)
    → (user_at new u).devices.punched ≡ (user_at middle u).devices.punched
punch_stays user index e None middle new h u = ap (λ (us : List Equipped). (get_or us u nobody).devices.punched) h
punch_stays user index e (Some d) middle new h u =
    stays_each (λ (x : Equipped). x.devices.punched) d.to middle.users new.users h.others
    (punch_kept user index e d.what (user_at middle d.to) (user_at new d.to) h.comes) u

-- A delivery leaves the printer files of all users as they are.
pub printer_stays : (user index : ℕ) (e : Equipped) (delivered : Option Delivered) (middle new : SystemView)
    → HasReceived (comes_by_line user index e) delivered middle new → (u : ℕ)
    → (user_at new u).devices.printed ≡ (user_at middle u).devices.printed
printer_stays user index e None middle new h u = ap (λ (us : List Equipped). (get_or us u nobody).devices.printed) h
printer_stays user index e (Some d) middle new h u =
    stays_each (λ (x : Equipped). x.devices.printed) d.to middle.users new.users h.others
    (printer_kept user index e d.what (user_at middle d.to) (user_at new d.to) h.comes) u
