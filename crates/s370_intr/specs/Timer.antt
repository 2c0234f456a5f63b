-- The interval timer: GA22-7000, "Interval Timer" and "External Interruption".
use Rattle.std.specs.Prelude.{◌≡◌, ℕ, ◌+◌, ◌-◌, ◌%◌, ◌^◌, Bool, not, ◌&&◌, ◌||◌, nat_le, List}
use Rattle.std.specs.Prelude.{length, Result, Ok, Err, ⊤}
use Rattle.std.specs.Int.{w32, to_be_bytes}
use Rattle.s370_store.specs.Access.{IsAbsent, put}
use Rattle.s370_store.specs.declared.Page.{Page}
use Rattle.s370_rows.specs.Rows.{word_at}
use Rattle.s370_intr.specs.declared.pending.Pending.{Pending}
use Rattle.s370_intr.specs.Units.{Core}

-- what a tick works on: the bytes of storage, and the external conditions that are pending
pub record Timed : Type 0 where
  pub bytes : List ℕ
  pub pending : Pending

-- what a tick leaves of storage and pending conditions
abbrev pub timed : List ℕ → Pending → Timed
timed bytes pending = record { bytes = bytes; pending = pending }

-- a step takes 256 from the word, modulo 2^32
abbrev pub stepped : ℕ → ℕ
stepped word = (word + (2 ^ 32 - 256)) % 2 ^ 32

-- a word is negative where its sign bit is one
abbrev pub is_negative : ℕ → Bool
is_negative word = nat_le (2 ^ 31) word

-- whether a step takes the word from zero or positive to negative
abbrev pub goes_below : ℕ → Bool
goes_below word = not (is_negative word) && is_negative (stepped word)

-- a tick: the word at location 80 is stepped, and where it goes from zero or positive to negative
-- the timer condition is pending from then on
abbrev pub tick : Timed → Timed
tick t =
    let word = word_at t.bytes 80 in
    record {
      bytes = put t.bytes 80 (to_be_bytes w32 (stepped word));
      pending = record t.pending { timer = t.pending.timer || goes_below word };
    }

-- the same of a processor with its storage, of which all else stays
abbrev pub ticked : Core → Core
ticked c =
    let t = tick (timed c.processor.bytes c.pending) in
    record c { processor = record c.processor { bytes = t.bytes }; pending = t.pending }

-- what the code may answer, and leave: the tick; or that page 0 is not present, with nothing
-- changed
abbrev pub MeetsTick : (ℕ → Bool) → Timed → Result ⊤ Page → Timed → Type 0
MeetsTick present old (Ok _) new = new ≡ tick old
MeetsTick present old (Err page) new = (new ≡ old) × (page.0 ≡ 0)
    × IsAbsent (length old.bytes) present page.0
