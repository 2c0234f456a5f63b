-- How a guest's channel program is read: each word when it is reached, or as it was when the
-- program began.
use Rattle.s370_walk.specs.Frozen.{IsSteady}
use Rattle.s370_store.specs.Memory.{Memory}
use Rattle.s370_walk.specs.Walk.{Form, Setting, State, live}
use Rattle.s370_channel.specs.Guest.{guest_written}

-- a program that begins with some storage is read so
abbrev pub Reading : Type 0
Reading = Memory → Form

-- each word, list word and byte as it is when it is reached: so a machine of its own reads
abbrev pub as_reached : Reading
as_reached began = live guest_written

-- a program that never changes what it has still to read
abbrev pub IsSteadyFrom : {D : Type 0} → Setting D → Memory → State D → Type 0
IsSteadyFrom h began s = IsSteady (live guest_written) h began s
