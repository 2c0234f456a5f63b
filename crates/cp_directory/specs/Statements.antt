-- What one line states by its own words, and what is then wrong with it by the lines before it.
use Rattle.std.specs.Prelude.{◌≡◌, ℕ, ◌/◌, ◌==◌, ◌&&◌, ◌||◌, Bool, false, not, if◌then◌else◌}
use Rattle.std.specs.Prelude.{is_some, nat_le}
use Rattle.std.specs.Prelude.{List, [], ◌∷◌, ◌++◌, length, codes, Option, Some, None, Result, Ok}
use Rattle.std.specs.Prelude.{Err}
use Rattle.std.specs.Option.{option_and_then, option_map}
use Rattle.std.specs.List.{list_any}
use Rattle.std.specs.Str.{bytes_eq}
use Rattle.text_words.specs.Lines.{and_then, is_comment}
use Rattle.text_words.specs.Numbers.{decimal_of, hexadecimal_of}
use Rattle.text_words.specs.Words.{words_of}
use Rattle.cp_directory.specs.Names.{is_name, is_short_word}
use Rattle.cp_directory.specs.Sizes.{is_size, kilobytes_of}
use Rattle.cp_directory.specs.Devices.{place_of}
use Rattle.cp_directory.specs.Extents.{Extent, is_extent, is_volser, mode_of}
use Rattle.cp_directory.specs.Users.{DirectoryUser, first_conflict, has_device, is_full, last_user}
use Rattle.cp_directory.specs.Users.{minidisks_of, new_user, with_device, with_last, with_minidisk}
use Rattle.cp_directory.specs.declared.devices.DeviceKind.{DeviceKind}
use Rattle.cp_directory.specs.declared.devices.DeviceKind.TheVariants.{Console, Reader, Punch}
use Rattle.cp_directory.specs.declared.devices.DeviceKind.TheVariants.{Printer}
use Rattle.cp_directory.specs.declared.faults.LineFault.{LineFault}
use Rattle.cp_directory.specs.declared.faults.LineFault.TheVariants.{UnknownStatement, Syntax}
use Rattle.cp_directory.specs.declared.faults.LineFault.TheVariants.{DuplicateUser, DuplicateDevice}
use Rattle.cp_directory.specs.declared.faults.LineFault.TheVariants.{BadStorage, BadExtent, Overlap}
use Rattle.cp_directory.specs.declared.faults.LineFault.TheVariants.{TooMany}

-- what a line states: a user of this name, with so many kilobytes; a device of this kind at this
-- address; a minidisk at this address, with this extent
pub data Stated : Type 0 where
  User : List ℕ → ℕ → Stated
  Device : DeviceKind → ℕ → Stated
  Disk : ℕ → Extent → Stated

-- ---- by the words of the line

-- the word of which there is one
abbrev pub the_one : List (List ℕ) → Option (List ℕ)
the_one (word ∷ []) = Some word
the_one _ = None

-- a user, where the name, the password and the size are spelled right
abbrev pub user_of : List ℕ → List ℕ → List ℕ → Option Stated
user_of name password size = if is_name name && is_short_word password
    then option_map (User name) (kilobytes_of size) else None

-- the operands of `USER` are a name, a password and a size
abbrev pub user_stated : List (List ℕ) → Option Stated
user_stated (name ∷ password ∷ size ∷ []) = user_of name password size
user_stated _ = None

-- a device has an address of at most 5FF
abbrev pub low_address : ℕ → Option ℕ
low_address address = if nat_le address 0x5FF then Some address else None

-- the address is three hexadecimal digits
abbrev pub address_of : List ℕ → Option ℕ
address_of word = option_and_then low_address (hexadecimal_of 3 3 word)

-- a console is a 3215
abbrev pub console_of : List ℕ → List ℕ → Option Stated
console_of address model = if bytes_eq model (codes "3215") then option_map (Device Console) (address_of address) else None

-- the operands of `CONSOLE` are an address and the model
abbrev pub console_stated : List (List ℕ) → Option Stated
console_stated (address ∷ model ∷ []) = console_of address model
console_stated _ = None

-- what is spooled
abbrev pub spool_kind_of : List ℕ → Option DeviceKind
spool_kind_of word =
    if bytes_eq word (codes "READER") then Some Reader
    else if bytes_eq word (codes "PUNCH") then Some Punch
    else if bytes_eq word (codes "PRINTER") then Some Printer
    else None

-- the statement SPOOL with these operands
abbrev pub spool_of : List ℕ → List ℕ → Option Stated
spool_of address kind = option_and_then
    (λ place. option_map (λ spooled. Device spooled place) (spool_kind_of kind))
    (address_of address)

-- the operands of `SPOOL` are an address and a kind
abbrev pub spool_stated : List (List ℕ) → Option Stated
spool_stated (address ∷ kind ∷ []) = spool_of address kind
spool_stated _ = None

-- the extent of these cylinders, where all is spelled right: start and count are one to four
-- decimal digits
abbrev pub extent_spelled : List ℕ → List ℕ → List ℕ → List ℕ → Option Extent
extent_spelled start count volser mode =
    if is_volser volser
    then option_and_then (λ first.
    option_and_then (λ many.
    option_map (λ access. record {
      volser = volser;
      start = first;
      count = many;
      mode = access;
    }) (mode_of mode)) (decimal_of 4 count)) (decimal_of 4 start)
    else None

-- a minidisk is of a 3330
abbrev pub disk_of : List ℕ → List ℕ → Option Extent → Option Stated
disk_of address model extent = if bytes_eq model (codes "3330") then option_and_then (λ place. option_map (Disk place) extent) (address_of address) else None

-- the operands of `MDISK` are an address, the model, start, count, serial number and mode
abbrev pub disk_stated : List (List ℕ) → Option Stated
disk_stated (address ∷ model ∷ start ∷ count ∷ volser ∷ mode ∷ []) =
    disk_of address model (extent_spelled start count volser mode)
disk_stated _ = None

-- operands that do not have the form of their statement are a fault of syntax
abbrev pub well_formed : Option Stated → Result Stated LineFault
well_formed None = Err Syntax
well_formed (Some statement) = Ok statement

-- the first word says what statement it is
abbrev pub stated_by : List ℕ → List (List ℕ) → Result Stated LineFault
stated_by verb operands =
    if bytes_eq verb (codes "USER") then well_formed (user_stated operands)
    else if bytes_eq verb (codes "CONSOLE") then well_formed (console_stated operands)
    else if bytes_eq verb (codes "SPOOL") then well_formed (spool_stated operands)
    else if bytes_eq verb (codes "MDISK") then well_formed (disk_stated operands)
    else Err UnknownStatement

-- ---- by the lines before it

-- a fault where this is so
abbrev pub fault_if : Bool → LineFault → Option LineFault
fault_if b fault = if b then Some fault else None

-- the first fault that is there
abbrev pub first_fault : List (Option LineFault) → Option LineFault
first_fault [] = None
first_fault (Some fault ∷ others) = Some fault
first_fault (None ∷ others) = first_fault others

-- whether a user has this name
abbrev pub has_name : List ℕ → DirectoryUser → Bool
has_name name user = bytes_eq user.name name

-- whether there is no user, so that a device belongs to nobody
abbrev pub is_nobodys : List DirectoryUser → Bool
is_nobodys users = length users == 0

-- whether a user has no room for a device of this kind: it has 32, or one of this kind
abbrev pub has_no_room : DeviceKind → DirectoryUser → Bool
has_no_room kind user = is_full user || is_some (place_of user.devices kind)

-- the faults of a statement by the users stated before it, in the order in which they are reported
abbrev pub faults_of : List DirectoryUser → Stated → List (Option LineFault)
faults_of users (User name kilobytes) =
    fault_if (list_any (has_name name) users) DuplicateUser
    ∷ fault_if (not (is_size kilobytes)) BadStorage
    ∷ fault_if (nat_le 64 (length users)) TooMany
    ∷ []
faults_of users (Device kind address) =
    fault_if (is_nobodys users) Syntax
    ∷ fault_if (has_device address (last_user users)) DuplicateDevice
    ∷ fault_if (has_no_room kind (last_user users)) TooMany
    ∷ []
faults_of users (Disk address extent) =
    fault_if (is_nobodys users) Syntax
    ∷ fault_if (has_device address (last_user users)) DuplicateDevice
    ∷ fault_if (not (is_extent extent)) BadExtent
    ∷ option_map Overlap (first_conflict extent (minidisks_of users))
    ∷ fault_if (is_full (last_user users)) TooMany
    ∷ []

-- the users after a statement without fault, on the line of this number
abbrev pub added : ℕ → List DirectoryUser → Stated → List DirectoryUser
added line users (User name kilobytes) = users ++ new_user name (kilobytes / 4) ∷ []
added line users (Device kind address) = with_last (with_device kind address) users
added line users (Disk address extent) =
    with_last (with_minidisk (record { line = line; address = address; extent = extent })) users

-- these users, or the fault that is there
abbrev pub unless_fault : Option LineFault → List DirectoryUser
    → Result (List DirectoryUser) LineFault
unless_fault None users = Ok users
unless_fault (Some fault) users = Err fault

-- the users after a statement, or its first fault
abbrev pub placed : ℕ → List DirectoryUser → Stated → Result (List DirectoryUser) LineFault
placed line users statement =
    unless_fault (first_fault (faults_of users statement)) (added line users statement)

-- the users after a line of these words
abbrev pub words_placed : ℕ → List DirectoryUser → List (List ℕ)
    → Result (List DirectoryUser) LineFault
words_placed line users [] = Ok users
words_placed line users (verb ∷ operands) = and_then (stated_by verb operands) (placed line users)

-- the users after a line of this number, or the first fault of that line
abbrev pub line_placed : ℕ → List DirectoryUser → List ℕ → Result (List DirectoryUser) LineFault
line_placed number users line = if is_comment line then Ok users
    else words_placed number users (words_of line)

-- ---- what takes memory

-- a statement takes memory for a user or a minidisk, if it has no fault after these users
abbrev pub TakesMemory : List DirectoryUser → Stated → Type 0
TakesMemory users (User name kilobytes) = first_fault (faults_of users (User name kilobytes)) ≡ None
TakesMemory users (Device kind address) = ⊥
TakesMemory users (Disk address extent) = first_fault (faults_of users (Disk address extent)) ≡ None

-- the words of a line take memory if they state what does
abbrev pub WordsTakeMemory : List DirectoryUser → List (List ℕ) → Type 0
WordsTakeMemory users [] = ⊥
WordsTakeMemory users (verb ∷ operands) =
    (statement : Stated) × (stated_by verb operands ≡ Ok statement) × TakesMemory users statement

-- a line takes memory by its words, if it is no comment
abbrev pub LineTakesMemory : List DirectoryUser → List ℕ → Type 0
LineTakesMemory users line = (is_comment line ≡ false) × WordsTakeMemory users (words_of line)
