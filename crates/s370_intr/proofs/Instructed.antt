-- An instruction with what its stop is followed by: what it does, and what is undone where a page is missing.
use Rattle.std.proofs.Common.{◌≡◌, ℕ, ◌+◌, ◌%◌, ◌^◌, Bool, true, false, length, List, Ok, Err, refl, ap, subst, sym}
use Rattle.std.proofs.Common.{◌∙◌, inl, inr}
use Rattle.s370_store.specs.Access.{IsAbsent}
use Rattle.s370_store.specs.declared.Page.{Page}
use Rattle.s370_psw.specs.Fields.{Fields}
use Rattle.s370_rows.specs.declared.cpu.Cpu.{Cpu}
use Rattle.s370_rows.specs.declared.instruction.Instruction.{Instruction}
use Rattle.s370_rows.specs.State.{State}
use Rattle.s370_subchannels.specs.declared.subchannel.Subchannel.{Subchannel}
use Rattle.s370_cpu.specs.declared.conclude.Stop.{Stop}
use Rattle.s370_cpu.specs.declared.conclude.Stop.TheVariants.{Done, Program, Svc, InputOutput, Privileged, Absent}
use Rattle.s370_cpu.specs.Fetch.{fetched}
use Rattle.s370_cpu.specs.Opcodes.{opcode_at}
use Rattle.s370_cpu.specs.Unit.{MeetsUnit, Ran, place_at}
use Rattle.s370_cpu.specs.Table.{MeetsStep, is_supervised, supervised, unit}
use Rattle.s370_cpu.proofs.Refusing.{MovesOn, supervised_moves_on}
use Rattle.s370_cpu.proofs.Still.{StaysStill, unit_still}
use Rattle.s370_intr.specs.InputOutput.{Configuration, configuration_of}
use Rattle.s370_intr.specs.Units.{FollowNeeds, IsSaved, MeetsInstruction, MeetsFollowed, instructed, followed}

-- an instruction that is not missing a page, and what its stop is followed by, make the whole
pub whole : (m m1 : State) (devices : List Subchannel) (c2 : Configuration) (present : ℕ → Bool) (stop : Stop)
    → MeetsUnit (unit m) present m stop m1 → ((page : Page) → stop ≡ Absent page → ⊥)
    → c2 ≡ followed stop (configuration_of m1 devices) → c2 ≡ instructed (configuration_of m devices)
whole m m1 devices c2 present Done u n e = e ∙ sym (ap (λ (r : Ran). followed r.stop (configuration_of r.state devices))
    u)
whole m m1 devices c2 present (Program code ilc) u n e = e ∙ sym
    (ap (λ (r : Ran). followed r.stop (configuration_of r.state devices)) u)
whole m m1 devices c2 present (Svc k ilc) u n e = e ∙ sym (ap
    (λ (r : Ran). followed r.stop (configuration_of r.state devices)) u)
whole m m1 devices c2 present (InputOutput operation device) u n e = e
    ∙ sym (ap (λ (r : Ran). followed r.stop (configuration_of r.state devices)) u)
whole m m1 devices c2 present (Privileged i ilc) u n e = e ∙ sym
    (ap (λ (r : Ran). followed r.stop (configuration_of r.state devices)) u)
whole m m1 devices c2 present (Absent page) u n e = absurd (n page refl)

-- what interrupts or asks a device has changed registers alone
put_back : (m m1 : State) (devices : List Subchannel) (c2 : Configuration) → m1.bytes ≡ m.bytes → m1.keys ≡ m.keys
    → c2 ≡ configuration_of m1 devices → record c2 { processor = record c2.processor { cpu = m.cpu } } ≡
    configuration_of m devices
put_back m m1 devices c2 b k e = rw e (rw (b, k) refl)

missed : (m m1 : State) (devices : List Subchannel) (c2 : Configuration) (present present1 : ℕ → Bool) (stop : Stop)
    (page : Page) → (unit m).ran ≡ record { stop = stop; state = m1 } → m1.bytes ≡ m.bytes → m1.keys ≡ m.keys
    → present1 ≡ present → (c2 ≡ configuration_of m1 devices) × IsAbsent (length m1.bytes) present1 page.0
    × FollowNeeds stop (configuration_of m1 devices) page.0 → MeetsInstruction present (configuration_of m devices)
    (Err page) (record c2 { processor = record c2.processor { cpu = m.cpu } })
missed m m1 devices c2 present present1 stop page e b k same h =
    let away : IsAbsent (length m.bytes) present page.0 = subst
    (λ (p : ℕ → Bool). IsAbsent (length m.bytes) p page.0) same
    (subst (λ (n : ℕ). IsAbsent n present1 page.0) (ap length b) h.1) in
    let needed : FollowNeeds (unit m).ran.stop (configuration_of (unit m).ran.state devices) page.0 = subst
    (λ (r : Ran). FollowNeeds r.stop (configuration_of r.state devices) page.0) (sym e) h.2 in
    (put_back m m1 devices c2 b k h.0, away, inr needed)

-- what follows an instruction misses a page, after which the registers are put back
pub following_misses : (m m1 : State) (devices : List Subchannel) (c2 : Configuration) (present present1 : ℕ → Bool)
    (stop : Stop) (page : Page) → MeetsUnit (unit m) present m stop m1 → present1 ≡ present
    → MeetsFollowed stop present1 (configuration_of m1 devices) (Err page) c2
    → MeetsInstruction present (configuration_of m devices) (Err page)
    (record c2 { processor = record c2.processor { cpu = m.cpu } })
following_misses m m1 devices c2 present present1 Done page e same h = absurd h.2
following_misses m m1 devices c2 present present1 (Program code ilc) page e same h =
    let s = subst (λ (r : Ran). StaysStill m r) e (unit_still m) in
    missed m m1 devices c2 present present1 (Program code ilc) page e s.0 s.1 same h
following_misses m m1 devices c2 present present1 (Svc n ilc) page e same h =
    let s = subst (λ (r : Ran). StaysStill m r) e (unit_still m) in
    missed m m1 devices c2 present present1 (Svc n ilc) page e s.0 s.1 same h
following_misses m m1 devices c2 present present1 (InputOutput operation device) page e same h =
    let s = subst (λ (r : Ran). StaysStill m r) e (unit_still m) in
    missed m m1 devices c2 present present1 (InputOutput operation device) page e s.0 s.1 same h
following_misses m m1 devices c2 present present1 (Privileged i ilc) page e same h = absurd h.2
following_misses m m1 devices c2 present present1 (Absent other) page e same h = absurd h.2

-- Page 0 is not absent if it is present.
pub away_0 : (present : ℕ → Bool) (n : ℕ) → present 0 ≡ true → present n ≡ false → n ≡ 0 → ⊥
away_0 present n here away is = let there : present n ≡ true = rw is here in cc

-- where page 0 is present, only an answer misses a page, and the registers were copied
pub saved : (c1 c2 : Configuration) (present : ℕ → Bool) (stop : Stop) (page : Page) (old spare : Cpu)
    → present 0 ≡ true → IsSaved stop old spare → MeetsFollowed stop present c1 (Err page) c2 → spare ≡ old
saved c1 c2 present Done page old spare here is h = absurd h.2
saved c1 c2 present (Program code ilc) page old spare here is h = absurd (away_0 present page.0 here h.1.away h.2)
saved c1 c2 present (Svc n ilc) page old spare here is h = absurd (away_0 present page.0 here h.1.away h.2)
saved c1 c2 present (InputOutput operation device) page old spare here is h = is
saved c1 c2 present (Privileged i ilc) page old spare here is h = absurd h.2
saved c1 c2 present (Absent other) page old spare here is h = absurd h.2

-- what is not handed back asks no device
pub not_asked : (present : ℕ → Bool) (m m1 : State) (stop : Stop) (old spare : Cpu)
    → ((i : Rattle.s370_rows.specs.declared.instruction.Instruction.Instruction) (ilc : ℕ) → stop ≡ Privileged i ilc
    → ⊥) → MeetsStep present m stop m1 → IsSaved stop old spare
not_asked present m m1 Done old spare n h = tt
not_asked present m m1 (Program code ilc) old spare n h = tt
not_asked present m m1 (Svc k ilc) old spare n h = tt
not_asked present m m1 (InputOutput operation device) old spare n h = absurd h
not_asked present m m1 (Privileged i ilc) old spare n h = absurd (n i ilc refl)
not_asked present m m1 (Absent page) old spare n h = tt

-- what is not handed back is the unit
pub stepped : (present : ℕ → Bool) (m m1 : State) (stop : Stop)
    → ((i : Rattle.s370_rows.specs.declared.instruction.Instruction.Instruction) (ilc : ℕ) → stop ≡ Privileged i ilc
    → ⊥) → MeetsStep present m stop m1 → MeetsUnit (unit m) present m stop m1
stepped present m m1 Done n h = h
stepped present m m1 (Program code ilc) n h = h
stepped present m m1 (Svc k ilc) n h = h
stepped present m m1 (InputOutput operation device) n h = absurd h
stepped present m m1 (Privileged i ilc) n h = absurd (n i ilc refl)
stepped present m m1 (Absent page) n h = h

-- ---- what is put back

-- an instruction for the supervisor state after which a page is missing has changed the instruction address alone
pub moved_back : (m m1 : State) (i : Instruction) (ilc : ℕ) (devices : List Subchannel) (c2 : Configuration)
    (present present1 : ℕ → Bool) (stop : Stop) (page : Page) → is_supervised (opcode_at i.opcode) ≡ true
    → MeetsUnit (supervised m i ilc) present m stop m1
    → MeetsFollowed stop present1 (configuration_of m1 devices) (Err page) c2
    → record c2.processor.cpu { psw = m.cpu.psw } ≡ m.cpu
moved_back m m1 i ilc devices c2 present present1 Done page e u h = absurd h.2
moved_back m m1 i ilc devices c2 present present1 (Program code length_code) page e u h =
    let moved = subst (λ (r : Ran). MovesOn m (place_at m ilc) r) u (supervised_moves_on m (place_at m ilc) i e) in
    rw h.0 (rw moved refl)
moved_back m m1 i ilc devices c2 present present1 (Svc n length_code) page e u h =
    let moved = subst (λ (r : Ran). MovesOn m (place_at m ilc) r) u (supervised_moves_on m (place_at m ilc) i e) in
    rw h.0 (rw moved refl)
moved_back m m1 i ilc devices c2 present present1 (InputOutput operation device) page e u h =
    let moved = subst (λ (r : Ran). MovesOn m (place_at m ilc) r) u (supervised_moves_on m (place_at m ilc) i e) in
    rw h.0 (rw moved refl)
moved_back m m1 i ilc devices c2 present present1 (Privileged other length_code) page e u h = absurd h.2
moved_back m m1 i ilc devices c2 present present1 (Absent other) page e u h = absurd h.2

-- ---- SVC

shape : (i : Instruction) → i.opcode ≡ 0x0A → (let call : Instruction = record {
  opcode = 0x0A;
  second_byte = i.second_byte;
  second_half = i.second_half;
  third_half = i.third_half;
} in i ≡ call)
shape i e = rw (sym e) refl

-- the unit of an SVC calls the supervisor, and goes on to the next address
pub called : (m : State) (i : Instruction) (psw : Fields) → (fetched m m.cpu.psw.address).result ≡ Ok i
    → i.opcode ≡ 0x0A → psw ≡ record m.cpu.psw { address = (m.cpu.psw.address + 2) % 2 ^ 24 }
    → (unit m).ran ≡ record { stop = Svc i.second_byte 1; state = record m { cpu = record m.cpu { psw = psw } } }
unfolding opcode_at
called m i psw e o p = rw (e, p) (rw (shape i o) refl)

-- where page 0 is not there, the address is put back
pub call_misses : (m m2 : State) (devices : List Subchannel) (i : Instruction) (psw psw2 : Fields) (present : ℕ → Bool)
    (page : Page) → (fetched m m.cpu.psw.address).result ≡ Ok i → i.opcode ≡ 0x0A
    → psw ≡ record m.cpu.psw { address = (m.cpu.psw.address + 2) % 2 ^ 24 }
    → m2 ≡ record m { cpu = record m.cpu { psw = psw } } → psw2 ≡ record m2.cpu.psw { address = m.cpu.psw.address }
    → page.0 ≡ 0 → IsAbsent (length m.bytes) present page.0
    → MeetsInstruction present (configuration_of m devices) (Err page)
    (configuration_of (record m2 { cpu = record m2.cpu { psw = psw2 } }) devices)
call_misses m m2 devices i psw psw2 present page e o p same back zero away =
    let needed : FollowNeeds (unit m).ran.stop (configuration_of (unit m).ran.state devices) page.0 = subst
    (λ (r : Ran). FollowNeeds r.stop (configuration_of r.state devices) page.0) (sym (called m i psw e o p)) zero in
    (rw back (rw same (rw p refl)), away, inr needed)
