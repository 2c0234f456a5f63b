-- The grammar of directories, as a relation between lines and users.
use Rattle.std.specs.Prelude.{◌≡◌, ℕ, ◌+◌, ◌*◌, ◌==◌, ◌<◌, ◌≤◌, ◌⊎◌, true, false, List, [], ◌∷◌}
use Rattle.std.specs.Prelude.{◌++◌, length, codes, All, IsSome, Some, Ok, Err}
use Rattle.std.specs.List.{AllPairs, list_any}
use Rattle.std.specs.Str.{bytes_eq}
use Rattle.text_words.specs.Lines.{LineAt, is_comment, lines_of}
use Rattle.text_words.specs.Numbers.{decimal_of, hexadecimal_of}
use Rattle.text_words.specs.Words.{words_of}
use Rattle.cp_directory.specs.Names.{is_name, is_short_word}
use Rattle.cp_directory.specs.Sizes.{is_number, is_size, number, unit_of}
use Rattle.cp_directory.specs.Devices.{place_of}
use Rattle.cp_directory.specs.Extents.{Extent, is_volser}
use Rattle.cp_directory.specs.Users.{DirectoryUser, addresses_of, has_device, last_user}
use Rattle.cp_directory.specs.Users.{minidisks_of}
use Rattle.cp_directory.specs.Statements.{Stated, User, Device, Disk, added, has_name}
use Rattle.cp_directory.specs.Directories.{directory_of}
use Rattle.cp_directory.specs.declared.devices.DeviceKind.TheVariants.{Console, Reader, Punch}
use Rattle.cp_directory.specs.declared.devices.DeviceKind.TheVariants.{Printer}
use Rattle.cp_directory.specs.declared.extent.DiskMode.{DiskMode}
use Rattle.cp_directory.specs.declared.extent.DiskMode.TheVariants.{ReadOnly, Writable}
use Rattle.cp_directory.specs.declared.faults.LineFault.{LineFault}
use Rattle.cp_directory.specs.declared.faults.LineFault.TheVariants.{UnknownStatement, Syntax}
use Rattle.cp_directory.specs.declared.faults.LineFault.TheVariants.{DuplicateUser, DuplicateDevice}
use Rattle.cp_directory.specs.declared.faults.LineFault.TheVariants.{BadStorage, BadExtent, Overlap}
use Rattle.cp_directory.specs.declared.faults.LineFault.TheVariants.{TooMany}
use Rattle.cp_directory.specs.declared.minidisk.MinidiskStatement.{MinidiskStatement}

-- ---- what the words of a line say

-- the words are `USER`, a name, a password and a number with its unit
pub record SaysUser (words : List (List ℕ)) (name : List ℕ) (kilobytes : ℕ) : Type 0 where
  pub password : List ℕ
  pub digits : List ℕ
  pub letter : ℕ
  pub unit : ℕ
  pub spelled : words ≡ codes "USER" ∷ name ∷ password ∷ (digits ++ letter ∷ []) ∷ []
  pub named : is_name name ≡ true
  pub guarded : is_short_word password ≡ true
  pub counted : is_number digits ≡ true
  pub measured : unit_of letter ≡ Some unit
  pub size : kilobytes ≡ number 0 digits * unit

-- the word is the address of a device: three hexadecimal digits, and at most 5FF
pub record IsAddress (word : List ℕ) (address : ℕ) : Type 0 where
  pub spelled : hexadecimal_of 3 3 word ≡ Some address
  pub low : address ≤ 0x5FF

-- the words are `CONSOLE`, an address and `3215`
pub record SaysConsole (words : List (List ℕ)) (address : ℕ) : Type 0 where
  pub place : List ℕ
  pub spelled : words ≡ codes "CONSOLE" ∷ place ∷ codes "3215" ∷ []
  pub placed : IsAddress place address

-- the words are `SPOOL`, an address and the name of the kind
pub record SaysSpool (words : List (List ℕ)) (kind : List ℕ) (address : ℕ) : Type 0 where
  pub place : List ℕ
  pub spelled : words ≡ codes "SPOOL" ∷ place ∷ kind ∷ []
  pub placed : IsAddress place address

-- the letter of a mode
abbrev pub letter_of : DiskMode → List ℕ
letter_of ReadOnly = codes "R"
letter_of Writable = codes "W"

-- the words are `MDISK`, an address, `3330`, the first cylinder and the number of cylinders, each
-- of one to four digits, the serial number of the volume and the letter of the mode
pub record SaysDisk (words : List (List ℕ)) (address : ℕ) (extent : Extent) : Type 0 where
  pub place : List ℕ
  pub start : List ℕ
  pub count : List ℕ
  pub spelled : words ≡ codes "MDISK" ∷ place ∷ codes "3330" ∷ start ∷ count ∷ extent.volser ∷ letter_of extent.mode ∷ []
  pub placed : IsAddress place address
  pub begins : decimal_of 4 start ≡ Some extent.start
  pub counted : decimal_of 4 count ≡ Some extent.count
  pub named : is_volser extent.volser ≡ true

-- the words say a statement
abbrev pub Says : List (List ℕ) → Stated → Type 0
Says words (User name kilobytes) = SaysUser words name kilobytes
Says words (Device Console address) = SaysConsole words address
Says words (Device Reader address) = SaysSpool words (codes "READER") address
Says words (Device Punch address) = SaysSpool words (codes "PUNCH") address
Says words (Device Printer address) = SaysSpool words (codes "PRINTER") address
Says words (Disk address extent) = SaysDisk words address extent

-- ---- which extents may not both be given out

-- the cylinder is one of the extent
abbrev pub HasCylinder : Extent → ℕ → Type 0
HasCylinder extent cylinder = (extent.start ≤ cylinder) × (cylinder < extent.start + extent.count)

-- they are of one volume and share a cylinder, and one of them may be written to
pub record Conflicts (one other : Extent) : Type 0 where
  pub same : one.volser ≡ other.volser
  pub cylinder : ℕ
  pub in_one : HasCylinder one cylinder
  pub in_other : HasCylinder other cylinder
  pub written : (one.mode ≡ Writable) ⊎ (other.mode ≡ Writable)

-- the first of these minidisks with which the extent conflicts is on this line
pub record IsFirstConflict (extent : Extent) (disks : List MinidiskStatement)
    (line : ℕ) : Type 0 where
  pub before : List MinidiskStatement
  pub disk : MinidiskStatement
  pub after : List MinidiskStatement
  pub split : disks ≡ before ++ disk ∷ after
  pub free : All (λ other. Conflicts extent other.extent → ⊥) before
  pub conflicts : Conflicts extent disk.extent
  pub reported : line ≡ disk.line

-- ---- what is wrong with a line

-- what is wrong with a statement after these users; a device is one of the last of them
abbrev pub Breaks : List DirectoryUser → Stated → LineFault → Type 0
Breaks users (User name kilobytes) DuplicateUser = list_any (has_name name) users ≡ true
Breaks users (User name kilobytes) BadStorage = is_size kilobytes ≡ false
Breaks users (User name kilobytes) TooMany = 64 ≤ length users
Breaks users (User name kilobytes) _ = ⊥
Breaks users (Device kind address) Syntax = users ≡ []
Breaks users (Device kind address) DuplicateDevice = has_device address (last_user users) ≡ true
Breaks users (Device kind address) TooMany = (32 ≤ length (addresses_of (last_user users)))
    ⊎ IsSome (place_of (last_user users).devices kind)
Breaks users (Device kind address) _ = ⊥
Breaks users (Disk address extent) Syntax = users ≡ []
Breaks users (Disk address extent) DuplicateDevice = has_device address (last_user users) ≡ true
Breaks users (Disk address extent) BadExtent = (extent.count ≡ 0)
    ⊎ (808 < extent.start + extent.count)
Breaks users (Disk address extent) (Overlap first) =
    IsFirstConflict extent (minidisks_of users) first
Breaks users (Disk address extent) TooMany = 32 ≤ length (addresses_of (last_user users))
Breaks users (Disk address extent) _ = ⊥

-- the first words that name statements
abbrev pub verbs : List (List ℕ)
verbs = codes "USER" ∷ codes "CONSOLE" ∷ codes "SPOOL" ∷ codes "MDISK" ∷ []

-- the first word names no statement
pub record IsUnknown (words : List (List ℕ)) : Type 0 where
  pub verb : List ℕ
  pub operands : List (List ℕ)
  pub begins : words ≡ verb ∷ operands
  pub other : list_any (bytes_eq verb) verbs ≡ false

-- the first word names a statement, and the words say none
pub record IsMisspelled (words : List (List ℕ)) : Type 0 where
  pub verb : List ℕ
  pub operands : List (List ℕ)
  pub begins : words ≡ verb ∷ operands
  pub named : list_any (bytes_eq verb) verbs ≡ true
  pub silent : (statement : Stated) → Says words statement → ⊥

-- the words say a statement with which this is wrong
pub record SaysWrong (users : List DirectoryUser) (words : List (List ℕ))
    (fault : LineFault) : Type 0 where
  pub statement : Stated
  pub says : Says words statement
  pub breaks : Breaks users statement fault

-- a line of these words has this fault after these users
abbrev pub HasFault : List DirectoryUser → List (List ℕ) → LineFault → Type 0
HasFault users words UnknownStatement = IsUnknown words
HasFault users words Syntax = IsMisspelled words ⊎ SaysWrong users words Syntax
HasFault users words DuplicateUser = SaysWrong users words DuplicateUser
HasFault users words DuplicateDevice = SaysWrong users words DuplicateDevice
HasFault users words BadStorage = SaysWrong users words BadStorage
HasFault users words BadExtent = SaysWrong users words BadExtent
HasFault users words (Overlap first) = SaysWrong users words (Overlap first)
HasFault users words TooMany = SaysWrong users words TooMany

-- the order in which the faults of one line are reported
abbrev pub order : LineFault → ℕ
order UnknownStatement = 0
order Syntax = 1
order DuplicateUser = 2
order DuplicateDevice = 3
order BadStorage = 4
order BadExtent = 5
order (Overlap first) = 6
order TooMany = 7

-- ---- whole directories

-- a line that states nothing
abbrev pub IsIgnored : List ℕ → Type 0
IsIgnored line = (is_comment line ≡ true) ⊎ (words_of line ≡ [])

-- a line states this after these users, and nothing is wrong with it
pub record States (users : List DirectoryUser) (line : List ℕ) (statement : Stated) : Type 0 where
  pub counted : is_comment line ≡ false
  pub says : Says (words_of line) statement
  pub right : (fault : LineFault) → Breaks users statement fault → ⊥

-- after these users the lines, of which the first has this number, state what makes them those
abbrev pub Continues : ℕ → List DirectoryUser → List (List ℕ) → List DirectoryUser → Type 0
Continues number before [] users = users ≡ before
Continues number before (line ∷ lines) users =
    (IsIgnored line × Continues (number + 1) before lines users)
    ⊎ ((statement : Stated) × States before line statement
    × Continues (number + 1) (added number before statement) lines users)

-- the lines are a directory of these users
abbrev pub IsDirectory : List (List ℕ) → List DirectoryUser → Type 0
IsDirectory lines users = Continues 1 [] lines users

-- the lines before this one are a directory, and this line has this fault after them, and none that
-- is reported before it
pub record IsFirstFault (lines : List (List ℕ)) (number : ℕ) (fault : LineFault) : Type 0 where
  pub at : LineAt lines number
  pub users : List DirectoryUser
  pub accepted : IsDirectory at.before users
  pub counted : is_comment at.line ≡ false
  pub has : HasFault users (words_of at.line) fault
  pub first : (other : LineFault) → HasFault users (words_of at.line) other
      → order fault ≤ order other

-- a text of the grammar is read as the users that it states, and no other; another is refused for
-- the first fault of its first faulty line, and for no other
abbrev pub ReadsGrammar : Type 0
ReadsGrammar = (text : List ℕ) →
    ((users : List DirectoryUser) → directory_of text ≡ Ok users
    → IsDirectory (lines_of text) users)
    × ((users : List DirectoryUser) → IsDirectory (lines_of text) users
    → directory_of text ≡ Ok users)
    × ((number : ℕ) (fault : LineFault) → directory_of text ≡ Err (number, fault)
    → IsFirstFault (lines_of text) number fault)
    × ((number : ℕ) (fault : LineFault) → IsFirstFault (lines_of text) number fault
    → directory_of text ≡ Err (number, fault))

-- ---- what every directory keeps

-- no number is twice
abbrev pub AreDifferent : List ℕ → Type 0
AreDifferent [] = Unit {0}
AreDifferent (one ∷ others) = (list_any (λ other. other == one) others ≡ false)
    × AreDifferent others

-- a user's devices are at most 32, of different addresses, none above 5FF
pub record HasLawfulDevices (user : DirectoryUser) : Type 0 where
  pub few : length (addresses_of user) ≤ 32
  pub different : AreDifferent (addresses_of user)
  pub low : All (λ address. address ≤ 0x5FF) (addresses_of user)

-- a minidisk has a cylinder, and none that no volume has, of a volume with a serial number
pub record HasLawfulExtent (disk : MinidiskStatement) : Type 0 where
  pub some : 1 ≤ disk.extent.count
  pub within : disk.extent.start + disk.extent.count ≤ 808
  pub named : is_volser disk.extent.volser ≡ true

-- what the users of every directory keep: they are at most 64, of different names, each name and
-- size is one that a user may have, and no two minidisks of all of them conflict; minidisks are in
-- the order of their lines
pub record IsLawful (users : List DirectoryUser) : Type 0 where
  pub few : length users ≤ 64
  pub different : AllPairs (λ one other. bytes_eq one.name other.name ≡ false) users
  pub named : All (λ user. is_name user.name ≡ true) users
  pub sized : All (λ user. (2 ≤ user.pages) × (user.pages ≤ 1024)) users
  pub attached : All HasLawfulDevices users
  pub extents : All HasLawfulExtent (minidisks_of users)
  pub apart : AllPairs (λ one other. Conflicts one.extent other.extent → ⊥) (minidisks_of users)
  pub ordered : AllPairs (λ one other. one.line < other.line) (minidisks_of users)
