-- Bytes are those of one list of subchannels.
use Rattle.std.specs.Prelude.{ℕ, ◌≡◌, ◌==◌, refl, if◌then◌else◌}
use Rattle.saved_bytes.specs.Codes.{flag, number, both, IsCode}
use Rattle.saved_bytes.proofs.Codes.{each_code, flag_code, number_code, both_code, of_parts}
use Rattle.s370_subchannels.specs.declared.subchannel.DeviceState.{DeviceState}
use Rattle.s370_subchannels.specs.declared.subchannel.DeviceState.TheVariants.{Idle, Working, Pending}
use Rattle.s370_subchannels.specs.declared.subchannel.Subchannel.{Subchannel}
use Rattle.s370_subchannels.specs.Saved.{state_kind, state_word, state_bytes, subchannel_bytes, subchannels_bytes}

state_made : ℕ × ℕ → DeviceState
state_made p = if p.0 == 0 then Idle else if p.0 == 1 then Working p.1 else Pending p.1

state_again : (s : DeviceState) → state_made (state_kind s, state_word s) ≡ s
unfolding state_made
state_again Idle = refl
state_again (Working caw) = refl
state_again (Pending csw) = refl

pub state_code : IsCode state_bytes
state_code =
    of_parts (both number number) (both_code number number number_code number_code)
    (λ (s : DeviceState). (state_kind s, state_word s)) state_made state_again

pub subchannel_code : IsCode subchannel_bytes
subchannel_code =
    let last = both_code flag number flag_code number_code in
    let state = both_code state_bytes (both flag number) state_code last in
    of_parts (both number (both state_bytes (both flag number)))
    (both_code number (both state_bytes (both flag number)) number_code state)
    (λ (s : Subchannel). (s.address, (s.state, (s.attention, s.last_start))))
    (λ p. record { address = p.0; state = p.1.0; attention = p.1.1.0; last_start = p.1.1.1 })
    (λ s. refl)

-- The bytes of subchannels are a code: they are read back, whatever follows them.
pub subchannels_code : IsCode subchannels_bytes
subchannels_code = each_code subchannel_bytes subchannel_code
