-- Lines that are printed one after another.
use Rattle.std.proofs.Common.{◌≡◌, ◌<◌, ◌≤◌, ◌+◌, ℕ, List, [], ◌∷◌, ◌++◌, length, take, get_or, sym, ap, ◌∙◌, suc}
use Rattle.std.proofs.Common.{arith}
use Rattle.std.proofs.Math.Seq.{take-suc}
use Rattle.std.proofs.lemmas.List.{append_assoc, take_all}
use Rattle.std.specs.Prelude.{Bool}
use Rattle.s370_store.specs.Memory.{Memory, memory_of}
use Rattle.s370_walk.specs.declared.parts.Ending.{Ending}
use Rattle.s370_subchannels.specs.declared.subchannel.Subchannel.{Subchannel}
use Rattle.s370_subchannels.specs.Programs.{program_ended}
use Rattle.s370_subchannels.specs.Subchannels.{with_attention}
use Rattle.unit_record.specs.Console.{ConsoleState, wants_attention}
use Rattle.machine_devices.specs.Serve.{console_over, program_over}
use Rattle.machine_panel.specs.Machine.{Parts, machine_of}

-- one line more of these was printed, which has at most 132 characters
pub one_printed : (output lines : List (List ℕ)) (k : ℕ) (text said : List ℕ) → k < length lines
    → text ≡ get_or lines k text → length text ≤ 132 → said ≡ take 144 text
    → (output ++ take k lines) ++ said ∷ [] ≡ output ++ take (k + 1) lines
one_printed output lines k text said inside is short cut =
    let whole : said ≡ text = cut ∙ take_all 144 text (omega (arith, short)) in
    let there : said ≡ get_or lines k text = whole ∙ is in
    let more : suc k ≡ k + 1 = omega arith in
    let next : take k lines ++ said ∷ [] ≡ take (k + 1) lines =
    ap (λ (x : List ℕ). take k lines ++ x ∷ []) there ∙ sym (take-suc lines k text inside) ∙ ap
    (λ (n : ℕ). take n lines) more in
    append_assoc output (take k lines) (said ∷ []) ∙ ap (λ (xs : List (List ℕ)). output ++ xs) next

-- all were printed
pub all_printed : (output lines : List (List ℕ)) (k : ℕ) → length lines ≤ k → output ++ take k lines ≡ output ++ lines
all_printed output lines k past = ap (λ (xs : List (List ℕ)). output ++ xs) (take_all k lines past)

abbrev with_output : Parts → List (List ℕ) → ℕ → Parts
with_output p output room = record p { output = output; room = room }

-- a machine of which some lines were printed, whose console got room, and that has printed one line more
pub printed_on : (old m room_made new : Parts) (before after : List (List ℕ)) (text : List ℕ) (r s t : ℕ)
    → m ≡ record old { output = before; room = r } → room_made ≡ record m { room = s }
    → new ≡ record room_made { output = room_made.output ++ text ∷ []; room = t } → before ++ text ∷ [] ≡ after
    → new ≡ record old { output = after; room = t }
printed_on old m room_made new before after text r s t was made prints e =
    prints
    ∙ ap (λ (p : Parts). with_output p (p.output ++ text ∷ []) t) made
    ∙ ap (λ (p : Parts). with_output (record p { room = s }) (p.output ++ text ∷ []) t) was
    ∙ ap (λ (xs : List (List ℕ)). with_output old xs t) e

abbrev with_list : Parts → List Subchannel → Parts
with_list p list = record p { subchannels = list }

-- a machine whose console has attention to give or not, whose program has ended, and that has printed the lines that
-- were written
pub console_on : (p q r s : Parts) (device key : ℕ) (ending : Ending) (gives : Bool) (console : ConsoleState) (room : ℕ)
    (before after : Memory) → gives ≡ wants_attention console
    → q ≡ record p { subchannels = with_attention device gives p.subchannels }
    → r ≡ record q { subchannels = program_ended device key ending q.subchannels }
    → s ≡ record r { output = r.output ++ console.lines; room = room } → after.keys ≡ before.keys
    → machine_of s after ≡ console_over device key ending console (machine_of p before) after.bytes
console_on p q r s device key ending gives console room before after is one two three same =
    ap (λ (x : Parts). machine_of x after)
    (three
    ∙ ap (λ (x : Parts). with_output x (x.output ++ console.lines) room)
    (two
    ∙ ap (λ (x : Parts). with_list x (program_ended device key ending x.subchannels))
    (one ∙ ap (λ (g : Bool). with_list p (with_attention device g p.subchannels)) is)))
    ∙ ap (λ (keys : List ℕ).
    console_over device key ending console (machine_of p (memory_of before.bytes keys)) after.bytes) same

-- a machine whose program has ended, which set no key
pub program_left : (p q : Parts) (device key : ℕ) (ending : Ending) (before after : Memory)
    → q ≡ record p { subchannels = program_ended device key ending p.subchannels } → after.keys ≡ before.keys
    → machine_of q after ≡ program_over device key ending (machine_of p before) after.bytes
program_left p q device key ending before after ended same =
    ap (λ (x : Parts). machine_of x after) ended
    ∙ ap (λ (keys : List ℕ). program_over device key ending (machine_of p (memory_of before.bytes keys)) after.bytes)
    same
