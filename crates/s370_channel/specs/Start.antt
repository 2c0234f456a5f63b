-- Whether a start is accepted: the address word and the first command word are good (GA22-7000,
-- "Start I/O").
use Rattle.std.specs.Prelude.{ℕ, Option, None, Some}
use Rattle.s370_walk.specs.declared.parts.Ccw.{Ccw}
use Rattle.s370_walk.specs.Walk.{Verdict, Bad, Jump, Good, judged, start_spot}
use Rattle.s370_channel.specs.declared.words.Caw.{Caw}

-- commands numbered from 1 to this one may be started
abbrev pub most_commands : ℕ
most_commands = 65535

-- the first word is judged as the walk judges it
abbrev pub if_good : Verdict → Caw → Option Caw
if_good Good caw = Some caw
if_good Bad caw = None
if_good Jump caw = None

-- the start, if the first word can be fetched and is good
abbrev pub started_by : Option Ccw → Caw → Option Caw
started_by None caw = None
started_by (Some w) caw = if_good (judged most_commands (start_spot caw.address) w) caw

-- the start that an address word asks for, if it is good
abbrev pub start_of : (ℕ → Option Ccw) → Option Caw → Option Caw
start_of text None = None
start_of text (Some caw) = started_by (text caw.address) caw
