-- What is changed of a subchannel leaves the addresses as they are.
use Rattle.std.proofs.Common.{◌≡◌, ℕ, Bool, true, false, List, [], ◌∷◌, refl, ap}
use Rattle.std.specs.Prelude.{if◌then◌else◌}
use Rattle.s370_subchannels.specs.declared.subchannel.DeviceState.{DeviceState}
use Rattle.s370_subchannels.specs.declared.subchannel.Subchannel.{Subchannel}
use Rattle.s370_subchannels.specs.Subchannels.{changed, in_state, is_at, last_started, that_gives, with_attention}
use Rattle.s370_subchannels.specs.Subchannels.{with_last_start, with_state}
use Rattle.s370_subchannels.specs.Saved.{addresses}

one_kept : (b : Bool) (f : Subchannel → Subchannel) (s : Subchannel) (ss others : List Subchannel)
    → (f s).address ≡ s.address → addresses others ≡ addresses ss
    → addresses (if b then f s ∷ ss else s ∷ others) ≡ addresses (s ∷ ss)
one_kept true f s ss others e rest = ap (λ n. n ∷ addresses ss) e
one_kept false f s ss others e rest = ap (λ l. s.address ∷ l) rest

kept : (device : ℕ) (f : Subchannel → Subchannel) (list : List Subchannel)
    → ((s : Subchannel) → (f s).address ≡ s.address) → addresses (changed device f list) ≡ addresses list
kept device f [] e = refl
kept device f (s ∷ ss) e = one_kept (is_at device s) f s ss (changed device f ss) (e s) (kept device f ss e)

-- A new state of a subchannel leaves the addresses as they are.
pub state_kept : (device : ℕ) (state : DeviceState) (list : List Subchannel)
    → addresses (with_state device state list) ≡ addresses list
state_kept device state list = kept device (in_state state) list (λ s. refl)

-- An attention leaves the addresses as they are.
pub attention_kept : (device : ℕ) (gives : Bool) (list : List Subchannel)
    → addresses (with_attention device gives list) ≡ addresses list
attention_kept device gives list = kept device (that_gives gives) list (λ s. refl)

-- A start leaves the addresses as they are.
pub last_start_kept : (device number : ℕ) (list : List Subchannel)
    → addresses (with_last_start device number list) ≡ addresses list
last_start_kept device number list = kept device (last_started number) list (λ s. refl)
