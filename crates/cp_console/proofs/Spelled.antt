-- Words that spell a command are read as it, so words that are refused spell nothing.
use Rattle.std.proofs.Common.{◌≡◌, ℕ, List, [], ◌++◌, Some, None, Ok, Err, refl}
use Rattle.cp_console.specs.Commands.{command_by}
use Rattle.cp_console.specs.Grammar.{Begins, Spells}
use Rattle.cp_console.specs.declared.commands.Change.TheVariants as changes
use Rattle.cp_console.specs.declared.commands.Command.{Command}
use Rattle.cp_console.specs.declared.commands.Command.TheVariants.{Nothing, Logon, Logoff, Begin, SystemReset, External}
use Rattle.cp_console.specs.declared.commands.Command.TheVariants.{Display, Store, Ipl, Device}
use Rattle.cp_console.specs.declared.device_commands.DeviceCommand.TheVariants.{QueryFiles, QueryUsers, Spool, Close}
use Rattle.cp_console.specs.declared.device_commands.DeviceCommand.TheVariants.{Purge, Message}
use Rattle.cp_console.specs.declared.commands.CommandError.{CommandError}

-- Words that spell a command are read as it.
pub again : (words : List (List ℕ)) (following : List ℕ) (command : Command) → Spells words following command
    → command_by words following ≡ Ok command
again words following Nothing h = rw h refl
again words following Logon h = rw h refl
again words following Logoff h = rw h refl
again words following (Begin None) h = rw h refl
again words following (Begin (Some address)) h = rw (h.spelled, h.read) refl
again words following SystemReset h = rw h refl
again words following External h = rw h refl
again words following (Display place) h = rw (h.spelled, h.read) refl
again words following (Store (changes.Psw psw)) h = rw (h.spelled, h.read, h.left_read, h.right_read, h.joined) refl
again words following (Store (changes.General register contents)) h = rw (h.spelled, h.read, h.digits_read) refl
again words following (Store (changes.Storage address bytes)) h = rw (h.spelled, h.read, h.digits_read) refl
again words following (Ipl device) h = rw (h.spelled, h.read) refl
again words following (Device QueryFiles) h = rw h refl
again words following (Device QueryUsers) h = rw h refl
again words following (Device (Spool device name)) h = rw (h.spelled, h.read) refl
again words following (Device (Close device)) h = rw (h.spelled, h.read) refl
again words following (Device (Purge file)) h = rw (h.spelled, h.read) refl
again words following (Device (Message name text)) h = rw (h.spelled, h.said) refl

-- words that are refused spell nothing
pub missing : (words : List (List ℕ)) (fault : CommandError)
    → ((following : List ℕ) → command_by words following ≡ Err fault)
    → (following : List ℕ) (command : Command) → Spells words following command → ⊥
missing words fault refused following command h =
    let no : command_by words following ≡ Err fault = refused following in
    let yes : command_by words following ≡ Ok command = again words following command h in
    cc

-- words that are refused whatever follows begin nothing
pub never : (words : List (List ℕ)) (fault : CommandError)
    → ((rest : List (List ℕ)) (following : List ℕ) → command_by (words ++ rest) following ≡ Err fault) → Begins words
    → ⊥
never words fault refused h = missing (words ++ h.rest) fault (refused h.rest) h.following h.command h.whole

-- words that spell a command begin one
pub whole_begins : (words : List (List ℕ)) (following : List ℕ) (command : Command)
    → Spells (words ++ []) following command → Begins words
whole_begins words following command h = record { rest = []; following = following; command = command; whole = h }
