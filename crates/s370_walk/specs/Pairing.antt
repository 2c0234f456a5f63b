-- Two walks in step: storage and device stand for each other, and each step keeps it so.
use Rattle.std.specs.Prelude.{ℕ, suc, ◌+◌, ◌≡◌, ◌⊎◌, true, Option, None, Some}
use Rattle.s370_walk.specs.declared.parts.Transfer.{Transfer}
use Rattle.s370_walk.specs.declared.parts.NextCcw.{NextCcw}
use Rattle.s370_walk.specs.declared.parts.Position.{Position}
use Rattle.s370_walk.specs.declared.parts.Ending.{Ending}
use Rattle.s370_walk.specs.declared.parts.Ccw.{Ccw}
use Rattle.s370_walk.specs.declared.parts.Order.{Order}
use Rattle.s370_walk.specs.declared.parts.Answer.{Answer}
use Rattle.s370_walk.specs.declared.parts.Answer.TheVariants as answers
use Rattle.s370_walk.specs.declared.parts.Direction.TheVariants.{Gives, Takes, TakesUpTo}
use Rattle.s370_store.specs.Memory.{Memory}
use Rattle.s370_walk.specs.Hardware.{Machine}
use Rattle.s370_walk.specs.Walk.{Form, Setting, State, Fetching, Moving, Over, Good, moving}
use Rattle.s370_walk.specs.Walk.{byte_moved, order_of, transfer_of, judged, rest, chains_data}

-- How the storage and the devices of two walks go together: between commands, between the words of
-- one transfer, and at a byte of it.
pub record Pairing (D E : Type 0) : Type 1 where
  pub storage : Memory → Memory → Type 0
  pub idle : D → E → Type 0
  pub waiting : Transfer → D → E → Type 0
  pub busy : Position → Option ℕ → D → E → Type 0

-- two devices are paired in the role in which a word is fetched
abbrev pub InRole : {D E : Type 0} → Pairing D E → Option Transfer → D → E → Type 0
InRole r None d e = r.idle d e
InRole r (Some t) d e = r.waiting t d e

-- the same position, whose last byte lay at another place in the other storage
abbrev pub moved_to : Position → Option ℕ → Position
moved_to p b =
    record {
      at = p.at;
      started = p.started;
      word = p.word;
      count = p.count;
      before = b;
      transfer = p.transfer;
    }

-- Two states that go together.
pub data Related {D E : Type 0} (r : Pairing D E) : State D → State E → Type 0 where
  fetching : (spot : NextCcw) (m n : Memory) (d : D) (e : E) → r.storage m n
      → InRole r spot.role d e
      → Related r (Fetching spot m d) (Fetching spot n e)
  moving_on : (p : Position) (b : Option ℕ) (m n : Memory) (d : D) (e : E) → r.storage m n
      → r.busy p b d e
      → Related r (Moving p m d) (Moving (moved_to p b) n e)
  over : (end : Ending) (m n : Memory) (d : D) (e : E) → r.storage m n → r.idle d e
      → Related r (Over end m d) (Over end n e)

-- the transfer that an answer begins
abbrev pub begins_transfer : Ccw → Answer → Option Transfer
begins_transfer w (answers.Refused status) = None
begins_transfer w answers.Immediate = None
begins_transfer w (answers.Input n) = Some (transfer_of w Gives n)
begins_transfer w (answers.Output n) = Some (transfer_of w Takes n)
begins_transfer w (answers.OutputUpTo n) = Some (transfer_of w TakesUpTo n)

-- the word, or the command of the transfer, has no byte left
abbrev pub IsOver : {D : Type 0} → Machine D → Position → D → Type 0
IsOver machine p d = (p.count ≡ 0) ⊎ (rest machine p d ≡ 0)

-- What makes two walks go together.
pub record Simulates {D E : Type 0} (r : Pairing D E) (form : Form) (h : Setting D) (form' : Form)
    (h' : Setting E)
    : Type 0 where
  pub limit : h.limit ≡ h'.limit
  pub prefix : h.prefix ≡ h'.prefix
  pub text : (m n : Memory) (a : ℕ) → r.storage m n → form.text m a ≡ form'.text n a
  pub answer : (d : D) (e : E) (o : Order) → r.idle d e
      → h.machine.answer d o ≡ h'.machine.answer e o
  pub started : (d : D) (e : E) (o : Order) → r.idle d e
      → r.idle (h.machine.started d o) (h'.machine.started e o)
  -- a command that the walk comes to, and whose transfer its device begins
  pub began : (n : Memory) (d : D) (e : E) (prefix : ℕ) (spot : NextCcw) (w : Ccw) (t : Transfer)
      → form'.text n spot.at ≡ Some w → spot.role ≡ None → judged h'.limit spot w ≡ Good
      → begins_transfer w (h.machine.answer d (order_of prefix spot w)) ≡ Some t → r.idle d e
      → r.busy (moving spot (spot.started + 1) w t) None
      (h.machine.started d (order_of prefix spot w))
      (h'.machine.started e (order_of prefix spot w))
  pub done : (d : D) (e : E) (p : Position) (b : Option ℕ) → r.busy p b d e
      → h.machine.done d ≡ h'.machine.done e
  -- only a word with CD has a continuation
  pub waits : (d : D) (e : E) (p : Position) (b : Option ℕ) → chains_data p.word ≡ true
      → r.busy p b d e
      → r.waiting p.transfer d e
  pub goes_on : (d : D) (e : E) (spot : NextCcw) (w : Ccw) (t : Transfer) → r.waiting t d e
      → r.busy (moving spot spot.started w t) None d e
  pub status : (d : D) (e : E) (t : Transfer) → r.waiting t d e
      → h.machine.status d ≡ h'.machine.status e
  pub finished : (d : D) (e : E) (t : Transfer) → r.waiting t d e
      → r.idle (h.machine.finished d) (h'.machine.finished e)
  -- a transfer is over when its count is zero, or when the device has no bytes left or wants none
  pub ends : (d : D) (e : E) (p : Position) (b : Option ℕ) → IsOver h.machine p d → r.busy p b d e
      → h.machine.status d ≡ h'.machine.status e
  pub ended : (d : D) (e : E) (p : Position) (b : Option ℕ) → IsOver h.machine p d → r.busy p b d e
      → r.idle (h.machine.finished d) (h'.machine.finished e)
  -- one byte
  pub byte : {count left : ℕ} (m n : Memory) (d : D) (e : E) (p : Position) (b : Option ℕ)
      → r.storage m n
      → p.count ≡ suc count → rest h.machine p d ≡ suc left → r.busy p b d e
      → Related r (byte_moved h p (form.place m p) (form.load m p) p.transfer.kind m d)
      (byte_moved h' (moved_to p b) (form'.place n (moved_to p b)) (form'.load n (moved_to p b))
      p.transfer.kind n e)
