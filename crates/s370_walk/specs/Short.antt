-- Where a walk comes to a command that needs memory.
use Rattle.std.specs.Prelude.{◌≡◌, Bool, true, false, Some, None}
use Rattle.s370_walk.specs.declared.parts.Order.{Order}
use Rattle.s370_walk.specs.declared.parts.NextCcw.{NextCcw}
use Rattle.s370_walk.specs.declared.parts.Ccw.{Ccw}
use Rattle.s370_store.specs.Memory.{Memory}
use Rattle.s370_walk.specs.Walk.{Form, Setting, State, Fetching, Reaches, Good, judged, order_of}

-- The walk comes to a good word, which is a command that needs memory of the device as it then is.
pub record IsShort {D : Type 0} (form : Form) (h : Setting D) (needs : D → Order → Bool)
    (from : State D) : Type 0 where
  pub spot : NextCcw
  pub memory : Memory
  pub device : D
  pub word : Ccw
  pub comes : Reaches form h from (Fetching spot memory device)
  pub text : form.text memory spot.at ≡ Some word
  pub good : judged h.limit spot word ≡ Good
  pub command : spot.role ≡ None
  pub needed : needs device (order_of h.prefix spot word) ≡ true

-- No command of the device ever needs memory.
abbrev pub nothing_needed : {D : Type 0} → D → Order → Bool
nothing_needed device order = false
