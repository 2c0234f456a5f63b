-- Which part of the program a word names.
use Rattle.std.specs.Prelude.{ℕ, if◌then◌else◌, List, codes, Option, Some, None}
use Rattle.std.specs.Str.{bytes_eq}
use Rattle.gathjumli_cli.specs.declared.parts.Part.{Part}
use Rattle.gathjumli_cli.specs.declared.parts.Part.TheVariants.{Vm370, Bare370, FrameMap, Mkvol}
use Rattle.gathjumli_cli.specs.declared.parts.Part.TheVariants.{Trackmap, LogonDesk}

-- the part of this name
abbrev pub part_of : List ℕ → Option Part
part_of name =
    if bytes_eq name (codes "vm370") then Some Vm370
    else if bytes_eq name (codes "bare370") then Some Bare370
    else if bytes_eq name (codes "framemap") then Some FrameMap
    else if bytes_eq name (codes "mkvol") then Some Mkvol
    else if bytes_eq name (codes "trackmap") then Some Trackmap
    else if bytes_eq name (codes "logondesk") then Some LogonDesk
    else None
