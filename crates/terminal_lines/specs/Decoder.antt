-- The bytes of a terminal as lines: telnet's NVT (RFC 854) or plain text.
use Rattle.std.specs.Prelude.{◌==◌, ◌||◌, ◌&&◌, not, if◌then◌else◌, nat_lt, nat_le, ◌-◌, ℕ, Bool}
use Rattle.std.specs.Prelude.{true, false}
use Rattle.std.specs.Prelude.{List, [], ◌∷◌, ◌++◌, length, take, codes}
use Rattle.terminal_lines.specs.Typed.{Typed}
use Rattle.terminal_lines.specs.declared.decoder.Expects.{Expects}
use Rattle.terminal_lines.specs.declared.decoder.Expects.TheVariants.{Text, Command, Option}
use Rattle.terminal_lines.specs.declared.decoder.Expects.TheVariants.{Parameter}
use Rattle.terminal_lines.specs.declared.decoder.Expects.TheVariants.{ParameterEnd}
use Rattle.terminal_lines.specs.declared.decoder.Decoded.{Decoded}
use Rattle.terminal_lines.specs.declared.decoder.Decoded.TheVariants.{Nothing, Line, Declines}
use Rattle.terminal_lines.specs.declared.decoder.Decoded.TheVariants.{AreYouThere}

-- what a byte makes of what was typed, and what comes of it
pub record AfterByte : Type 0 where
  pub typed : Typed
  pub decoded : Decoded

-- nothing has been typed yet
abbrev pub nothing_typed : Typed
nothing_typed = record { line = []; expects = Text; is_after_return = false }

-- what is no printable ASCII character is a blank
abbrev pub printable : ℕ → ℕ
printable byte = if nat_le 32 byte && nat_lt byte 127 then byte else 32

-- a line keeps its first 130 characters
abbrev pub with_character : List ℕ → ℕ → List ℕ
with_character line character = if nat_lt (length line) 130 then line ++ character ∷ [] else line

-- the last character is rubbed out
abbrev pub rubbed_out : List ℕ → List ℕ
rubbed_out line = take (length line - 1) line

-- what was typed after a byte, and what comes of it
abbrev pub gives : List ℕ → Expects → Bool → Decoded → AfterByte
gives line expects is_after_return decoded =
    record {
      typed = record { line = line; expects = expects; is_after_return = is_after_return };
      decoded = decoded;
    }

-- CR and LF end a line, and CR LF and CR NUL end one line; backspace and rubout rub out
abbrev pub after_character : Typed → ℕ → AfterByte
after_character t byte =
    if t.is_after_return && ((byte == 10) || (byte == 0)) then gives t.line Text false Nothing
    else (if byte == 13 then gives [] Text true (Line t.line)
    else (if byte == 10 then gives [] Text false (Line t.line)
    else (if (byte == 8) || (byte == 127) then gives (rubbed_out t.line) Text false Nothing
    else gives (with_character t.line (printable byte)) Text false Nothing)))

-- IAC begins a command
abbrev pub after_text : Typed → ℕ → AfterByte
after_text t byte = if byte == 255 then gives t.line Command t.is_after_return Nothing
    else after_character t byte

-- SB, WILL to DONT, IAC for the byte 255, EC, EL, break and interrupt for the line #CP, AYT; other
-- commands are passed over
abbrev pub after_command : Typed → ℕ → AfterByte
after_command t byte =
    if byte == 250 then gives t.line Parameter t.is_after_return Nothing
    else (if nat_le 251 byte && nat_le byte 254
    then gives t.line (Option byte) t.is_after_return Nothing
    else (if byte == 255 then gives (with_character t.line 32) Text false Nothing
    else (if byte == 247 then gives (rubbed_out t.line) Text t.is_after_return Nothing
    else (if byte == 248 then gives [] Text t.is_after_return Nothing
    else (if (byte == 243) || (byte == 244) then gives [] Text t.is_after_return (Line (codes "#CP"))
    else (if byte == 246 then gives t.line Text t.is_after_return AreYouThere
    else gives t.line Text t.is_after_return Nothing))))))

-- all that is offered or asked for is declined, but for the echo, which the desk asks for itself
abbrev pub after_option : Typed → ℕ → ℕ → AfterByte
after_option t command option =
    if command == 251 then gives t.line Text t.is_after_return (Declines 254 option)
    else (if (command == 253) && not (option == 1)
    then gives t.line Text t.is_after_return (Declines 252 option)
    else gives t.line Text t.is_after_return Nothing)

-- a byte, by what was expected
abbrev pub after_expected : Typed → Expects → ℕ → AfterByte
after_expected t Text byte = after_text t byte
after_expected t Command byte = after_command t byte
after_expected t (Option command) byte = after_option t command byte
after_expected t Parameter byte =
    gives t.line (if byte == 255 then ParameterEnd else Parameter) t.is_after_return Nothing
after_expected t ParameterEnd byte =
    gives t.line (if byte == 240 then Text else Parameter) t.is_after_return Nothing

-- a byte that arrives
abbrev pub after_byte : Typed → ℕ → AfterByte
after_byte t byte = after_expected t t.expects byte
