-- The words that say a statement are read as it, and what is read of words they say.
use Rattle.std.proofs.Common.{◌≡◌, ℕ, ◌+◌, ◌*◌, ◌-◌, ◌<◌, ◌≤◌, inl, inr, ◌&&◌, ◌||◌, Bool, true, false, cond, leb, List}
use Rattle.std.proofs.Common.{[], ◌∷◌, ◌++◌, length, get_or, take, codes, Option, Some, None, Result, Ok, Err, refl, ap}
use Rattle.std.proofs.Common.{sym, ◌∙◌, subst, length-append, arith}
use Rattle.std.specs.List.{list_any}
use Rattle.std.specs.Option.{option_and_then, option_map}
use Rattle.std.specs.Str.{bytes_eq}
use Rattle.std.proofs.Math.Seq.{take-append_seam, take-length, get_or-append_seam}
use Rattle.std.proofs.lemmas.Bool.Decides.{nat_tests}
use Rattle.std.proofs.lemmas.List.{take_more}
use Rattle.std.proofs.lemmas.Option.{option_and_then_some}
use Rattle.std.proofs.lemmas.Slice.Eq.{bytes_eq-Decides}
use Rattle.text_words.proofs.Spellings.{chosen}
use Rattle.text_words.specs.Numbers.{decimal_of, hexadecimal_of}
use Rattle.cp_directory.specs.Names.{is_name, is_short_word}
use Rattle.cp_directory.specs.Sizes.{is_number, kilobytes_by, kilobytes_of, number, unit_of}
use Rattle.cp_directory.specs.Extents.{Extent, is_volser, mode_of}
use Rattle.cp_directory.specs.Statements.{Stated, User, Device, Disk, address_of, console_of, console_stated, disk_of}
use Rattle.cp_directory.specs.Statements.{disk_stated, extent_spelled, low_address, spool_kind_of, spool_of}
use Rattle.cp_directory.specs.Statements.{spool_stated, stated_by, user_of, user_stated, well_formed}
use Rattle.cp_directory.specs.Grammar.{IsAddress, Says, SaysDisk, SaysSpool, letter_of, verbs}
use Rattle.cp_directory.specs.declared.devices.DeviceKind.{DeviceKind}
use Rattle.cp_directory.specs.declared.devices.DeviceKind.TheVariants.{Console, Reader, Punch, Printer}
use Rattle.cp_directory.specs.declared.extent.DiskMode.{DiskMode}
use Rattle.cp_directory.specs.declared.extent.DiskMode.TheVariants.{ReadOnly, Writable}
use Rattle.cp_directory.specs.declared.faults.LineFault.{LineFault}
use Rattle.cp_directory.specs.declared.faults.LineFault.TheVariants.{UnknownStatement, Syntax}

both : (a b : Bool) → (a && b) ≡ true → (a ≡ true) × (b ≡ true)
both true true h = (refl, refl)
both true false h = cc
both false b h = cc

-- what was mapped
mapped : {A B : Type 0} (f : A → B) (o : Option A) (b : B) → option_map f o ≡ Some b → (a : A) × (o ≡ Some a)
    × (b ≡ f a)
mapped f None b h = cc
mapped f (Some a) b h = (a, refl, cc)

pub is_word : (xs ys : List ℕ) → bytes_eq xs ys ≡ true → xs ≡ ys
is_word xs ys h = (bytes_eq-Decides xs ys).0 h

-- a word is what is before its last character, and that
ends : (word : List ℕ) → 0 < length word → word ≡ take (length word - 1) word ++ get_or word (length word - 1) 0 ∷ []
ends word some =
    let count : length word ≡ length word - 1 + 1 = omega arith in
    sym (take-length word) ∙ ap (λ n. take n word) count ∙ take_more word (length word - 1) 0 (omega arith)

filled : (word : List ℕ) → is_number (take (length word - 1) word) ≡ true → 0 < length word
filled [] h = cc
filled (c ∷ cs) h = omega arith

-- a word that spells a size
record Sized (word : List ℕ) (kilobytes : ℕ) : Type 0 where
  digits : List ℕ
  letter : ℕ
  unit : ℕ
  spelled : word ≡ digits ++ letter ∷ []
  counted : is_number digits ≡ true
  measured : unit_of letter ≡ Some unit
  size : kilobytes ≡ number 0 digits * unit

sized_by : (word digits : List ℕ) (letter k : ℕ) → (is_number digits ≡ true → word ≡ digits ++ letter ∷ [])
    → kilobytes_by digits letter ≡ Some k → Sized word k
sized_by word digits letter k spelled h = elim (chosen (is_number digits)
    (option_map (λ unit. number 0 digits * unit) (unit_of letter)) None (Some k) h) [
      | inl p ↦
          let m = mapped (λ unit. number 0 digits * unit) (unit_of letter) k p.1 in
          record {
            digits = digits;
            letter = letter;
            unit = m.0;
            spelled = spelled p.0;
            counted = p.0;
            measured = m.1;
            size = m.2;
          }
      | inr p ↦ cc
    ]

sized : (word : List ℕ) (k : ℕ) → kilobytes_of word ≡ Some k → Sized word k
sized word k h = sized_by word (take (length word - 1) word) (get_or word (length word - 1) 0) k
    (λ counted. ends word (filled word counted)) h

front : (digits : List ℕ) (letter : ℕ) → length (digits ++ letter ∷ []) - 1 ≡ length digits
front digits letter = omega (arith, length-append digits (letter ∷ []))

sized_parts : (digits before : List ℕ) (letter last unit : ℕ) → before ≡ digits → last ≡ letter
    → is_number digits ≡ true → unit_of letter ≡ Some unit → kilobytes_by before last ≡ Some (number 0 digits * unit)
sized_parts digits before letter last unit e l counted measured = rw (e, l, counted, measured) refl

sized_again : (digits : List ℕ) (letter unit : ℕ) → is_number digits ≡ true → unit_of letter ≡ Some unit
    → kilobytes_of (digits ++ letter ∷ []) ≡ Some (number 0 digits * unit)
sized_again digits letter unit counted measured =
    sized_parts digits _ letter _ unit
    (ap (λ n. take n (digits ++ letter ∷ [])) (front digits letter) ∙ take-append_seam digits (letter ∷ []))
    (ap (λ n. get_or (digits ++ letter ∷ []) n 0) (front digits letter) ∙ get_or-append_seam digits letter [] 0)
    counted
    measured

user_found : (name password size : List ℕ) (s : Stated) → user_of name password size ≡ Some s
    → Says (codes "USER" ∷ name ∷ password ∷ size ∷ []) s
user_found name password size s h = elim (chosen (is_name name && is_short_word password)
    (option_map (User name) (kilobytes_of size)) None (Some s) h) [
      | inl p ↦
          let m = mapped (User name) (kilobytes_of size) s p.1 in
          let w = sized size m.0 m.1 in
          let right = both (is_name name) (is_short_word password) p.0 in
          subst (Says (codes "USER" ∷ name ∷ password ∷ size ∷ [])) (sym m.2) (record {
            password = password;
            digits = w.digits;
            letter = w.letter;
            unit = w.unit;
            spelled = ap (λ (l : List ℕ). codes "USER" ∷ name ∷ password ∷ l ∷ []) w.spelled;
            named = right.0;
            guarded = right.1;
            counted = w.counted;
            measured = w.measured;
            size = w.size;
          })
      | inr p ↦ cc
    ]

-- the words of a user's statement
user_words : (operands : List (List ℕ)) (s : Stated) → user_stated operands ≡ Some s → Says (codes "USER" ∷ operands) s
user_words [] s h = cc
user_words (a ∷ []) s h = cc
user_words (a ∷ b ∷ []) s h = cc
user_words (name ∷ password ∷ size ∷ []) s h = user_found name password size s h
user_words (a ∷ b ∷ c ∷ d ∷ more) s h = cc

-- ---- addresses

low_found : (n address : ℕ) → low_address n ≡ Some address → (n ≡ address) × (address ≤ 0x5FF)
low_found n address h = elim (chosen (leb n 0x5FF) (Some n) None (Some address) h) [
  | inl p ↦ let same : n ≡ address = cc in let low : n ≤ 0x5FF = let test = p.0 in
      grind (arith, nat_tests) in (same, omega arith)
  | inr p ↦ cc
]

address_found : (word : List ℕ) (address : ℕ) → address_of word ≡ Some address → IsAddress word address
address_found word address h = option_and_then_some low_address (hexadecimal_of 3 3 word) address h (λ n e k.
    let low = low_found n address k in
    record { spelled = e ∙ ap Some low.0; low = low.1 })

low_again : (address : ℕ) → address ≤ 0x5FF → low_address address ≡ Some address
low_again address h = let test : leb address 0x5FF ≡ true = grind (arith, nat_tests) in rw test refl

address_again : (word : List ℕ) (address : ℕ) → IsAddress word address → address_of word ≡ Some address
address_again word address h = rw h.spelled (low_again address h.low)

-- ---- consoles

console_found : (place model : List ℕ) (s : Stated) → console_of place model ≡ Some s
    → Says (codes "CONSOLE" ∷ place ∷ model ∷ []) s
console_found place model s h = elim (chosen (bytes_eq model (codes "3215"))
    (option_map (Device Console) (address_of place)) None (Some s) h) [
      | inl p ↦
          let m = mapped (Device Console) (address_of place) s p.1 in
          subst (Says (codes "CONSOLE" ∷ place ∷ model ∷ [])) (sym m.2) (record {
            place = place;
            spelled = ap (λ (w : List ℕ). codes "CONSOLE" ∷ place ∷ w ∷ []) (is_word model (codes "3215") p.0);
            placed = address_found place m.0 m.1;
          })
      | inr p ↦ cc
    ]

console_words : (operands : List (List ℕ)) (s : Stated) → console_stated operands ≡ Some s
    → Says (codes "CONSOLE" ∷ operands) s
console_words [] s h = cc
console_words (a ∷ []) s h = cc
console_words (place ∷ model ∷ []) s h = console_found place model s h
console_words (a ∷ b ∷ c ∷ more) s h = cc

-- ---- what is spooled

-- the words that say a device of this kind, which is spelled so
spooled : (place word name : List ℕ) (address : ℕ) → bytes_eq word name ≡ true → IsAddress place address
    → SaysSpool (codes "SPOOL" ∷ place ∷ word ∷ []) name address
spooled place word name address e placed = record {
  place = place;
  spelled = ap (λ (w : List ℕ). codes "SPOOL" ∷ place ∷ w ∷ []) (is_word word name e);
  placed = placed;
}

kind_found : (place word : List ℕ) (kind : DeviceKind) (address : ℕ) → IsAddress place address
    → spool_kind_of word ≡ Some kind → Says (codes "SPOOL" ∷ place ∷ word ∷ []) (Device kind address)
kind_found place word kind address placed h =
    elim (chosen (bytes_eq word (codes "READER")) (Some Reader)
    (cond (bytes_eq word (codes "PUNCH")) (Some Punch) (cond (bytes_eq word (codes "PRINTER")) (Some Printer) None))
    (Some kind) h) [
      | inl p ↦ let same : Reader ≡ kind = cc in subst (λ (k : DeviceKind). Says (codes "SPOOL" ∷ place ∷ word ∷ [])
          (Device k address)) same (spooled place word (codes "READER") address p.0 placed)
      | inr p ↦ elim (chosen (bytes_eq word (codes "PUNCH")) (Some Punch)
          (cond (bytes_eq word (codes "PRINTER")) (Some Printer) None) (Some kind) p.1) [
            | inl q ↦ let same : Punch ≡ kind = cc in subst (λ (k : DeviceKind). Says (codes "SPOOL" ∷ place ∷ word ∷ [])
                (Device k address)) same (spooled place word (codes "PUNCH") address q.0 placed)
            | inr q ↦ elim (chosen (bytes_eq word (codes "PRINTER")) (Some Printer) None (Some kind) q.1) [
              | inl r ↦ let same : Printer ≡ kind = cc in subst (λ (k : DeviceKind). Says
                  (codes "SPOOL" ∷ place ∷ word ∷ []) (Device k address)) same
                  (spooled place word (codes "PRINTER") address r.0 placed)
              | inr r ↦ cc
            ]
          ]
    ]

spool_found : (place word : List ℕ) (s : Stated) → spool_of place word ≡ Some s
    → Says (codes "SPOOL" ∷ place ∷ word ∷ []) s
spool_found place word s h = option_and_then_some (λ address. option_map (λ kind. Device kind address)
    (spool_kind_of word)) (address_of place) s h (λ address e k.
    let m = mapped (λ kind. Device kind address) (spool_kind_of word) s k in
    subst (Says (codes "SPOOL" ∷ place ∷ word ∷ [])) (sym m.2)
    (kind_found place word m.0 address (address_found place address e) m.1))

spool_words : (operands : List (List ℕ)) (s : Stated) → spool_stated operands ≡ Some s
    → Says (codes "SPOOL" ∷ operands) s
spool_words [] s h = cc
spool_words (a ∷ []) s h = cc
spool_words (place ∷ word ∷ []) s h = spool_found place word s h
spool_words (a ∷ b ∷ c ∷ more) s h = cc

-- ---- minidisks

mode_found : (word : List ℕ) (mode : DiskMode) → mode_of word ≡ Some mode → word ≡ letter_of mode
mode_found word mode h = elim (chosen (bytes_eq word (codes "R")) (Some ReadOnly)
    (cond (bytes_eq word (codes "W")) (Some Writable) None) (Some mode) h) [
      | inl p ↦ let same : ReadOnly ≡ mode = cc in subst (λ (m : DiskMode). word ≡ letter_of m) same
          (is_word word (codes "R") p.0)
      | inr p ↦ elim (chosen (bytes_eq word (codes "W")) (Some Writable) None (Some mode) p.1) [
        | inl q ↦ let same : Writable ≡ mode = cc in subst (λ (m : DiskMode). word ≡ letter_of m) same
            (is_word word (codes "W") q.0)
        | inr q ↦ cc
      ]
    ]

mode_again : (mode : DiskMode) → mode_of (letter_of mode) ≡ Some mode
mode_again ReadOnly = refl
mode_again Writable = refl

-- the words that spell an extent
record Extended (start count volser mode : List ℕ) (extent : Extent) : Type 0 where
  begins : decimal_of 4 start ≡ Some extent.start
  counted : decimal_of 4 count ≡ Some extent.count
  written : volser ≡ extent.volser
  lettered : mode ≡ letter_of extent.mode
  named : is_volser volser ≡ true

-- the extent of these fields
abbrev fields : List ℕ → ℕ → ℕ → DiskMode → Extent
fields volser start count mode = record { volser = volser; start = start; count = count; mode = mode }

extent_found : (start count volser mode : List ℕ) (extent : Extent)
    → extent_spelled start count volser mode ≡ Some extent → Extended start count volser mode extent
extent_found start count volser mode extent h =
    elim (chosen (is_volser volser) (option_and_then (λ s. option_and_then
    (λ c. option_map (fields volser s c) (mode_of mode)) (decimal_of 4 count)) (decimal_of 4 start)) None
    (Some extent) h) [
      | inl p ↦
          option_and_then_some (λ s. option_and_then (λ c. option_map (fields volser s c) (mode_of mode))
          (decimal_of 4 count)) (decimal_of 4 start) extent p.1 (λ s begins h1.
          option_and_then_some (λ c. option_map (fields volser s c) (mode_of mode)) (decimal_of 4 count) extent h1
          (λ c counted h2.
          let m = mapped (fields volser s c) (mode_of mode) extent h2 in
          subst (Extended start count volser mode) (sym m.2)
          (record {
            begins = begins;
            counted = counted;
            written = refl;
            lettered = mode_found mode m.0 m.1;
            named = p.0;
          })))
      | inr p ↦ cc
    ]

extent_again : (start count : List ℕ) (extent : Extent) → decimal_of 4 start ≡ Some extent.start
    → decimal_of 4 count ≡ Some extent.count → is_volser extent.volser ≡ true
    → extent_spelled start count extent.volser (letter_of extent.mode) ≡ Some extent
extent_again start count extent begins counted named = rw (named, begins, counted, mode_again extent.mode) refl

said_disk : (place model start count volser mode : List ℕ) (address : ℕ) (extent : Extent) → model ≡ codes "3330"
    → IsAddress place address → Extended start count volser mode extent
    → SaysDisk (codes "MDISK" ∷ place ∷ model ∷ start ∷ count ∷ volser ∷ mode ∷ []) address extent
said_disk place model start count volser mode address extent e placed x = record {
  place = place;
  start = start;
  count = count;
  spelled = rw (e, x.written, x.lettered) refl;
  placed = placed;
  begins = x.begins;
  counted = x.counted;
  named = subst (λ (w : List ℕ). is_volser w ≡ true) x.written x.named;
}

disk_found : (place model start count volser mode : List ℕ) (s : Stated)
    → disk_of place model (extent_spelled start count volser mode) ≡ Some s
    → Says (codes "MDISK" ∷ place ∷ model ∷ start ∷ count ∷ volser ∷ mode ∷ []) s
disk_found place model start count volser mode s h =
    elim (chosen (bytes_eq model (codes "3330")) (option_and_then
    (λ address. option_map (Disk address) (extent_spelled start count volser mode)) (address_of place)) None
    (Some s) h) [
      | inl p ↦ option_and_then_some (λ address. option_map (Disk address) (extent_spelled start count volser mode))
          (address_of place) s p.1 (λ address e k.
          let m = mapped (Disk address) (extent_spelled start count volser mode) s k in
          subst (Says (codes "MDISK" ∷ place ∷ model ∷ start ∷ count ∷ volser ∷ mode ∷ [])) (sym m.2)
          (said_disk place model start count volser mode address m.0 (is_word model (codes "3330") p.0)
          (address_found place address e) (extent_found start count volser mode m.0 m.1)))
      | inr p ↦ cc
    ]

disk_words : (operands : List (List ℕ)) (s : Stated) → disk_stated operands ≡ Some s → Says (codes "MDISK" ∷ operands) s
disk_words [] s h = cc
disk_words (a ∷ []) s h = cc
disk_words (a ∷ b ∷ []) s h = cc
disk_words (a ∷ b ∷ c ∷ []) s h = cc
disk_words (a ∷ b ∷ c ∷ d ∷ []) s h = cc
disk_words (a ∷ b ∷ c ∷ d ∷ e ∷ []) s h = cc
disk_words (place ∷ model ∷ start ∷ count ∷ volser ∷ mode ∷ []) s h = disk_found place model start count volser mode s h
disk_words (a ∷ b ∷ c ∷ d ∷ e ∷ f ∷ g ∷ more) s h = cc

-- ---- statements

formed : (o : Option Stated) (s : Stated) → well_formed o ≡ Ok s → o ≡ Some s
formed None s h = cc
formed (Some t) s h = cc

-- the words after a first word that is this one
behind : (verb name : List ℕ) (operands : List (List ℕ)) (s : Stated) → bytes_eq verb name ≡ true
    → Says (name ∷ operands) s → Says (verb ∷ operands) s
behind verb name operands s e h = subst (λ (v : List ℕ). Says (v ∷ operands) s) (sym (is_word verb name e)) h

-- what is read after each first word
abbrev by_mdisk : List ℕ → List (List ℕ) → Result Stated LineFault
by_mdisk verb operands = cond (bytes_eq verb (codes "MDISK")) (well_formed (disk_stated operands))
    (Err UnknownStatement)

abbrev by_spool : List ℕ → List (List ℕ) → Result Stated LineFault
by_spool verb operands = cond (bytes_eq verb (codes "SPOOL")) (well_formed (spool_stated operands))
    (by_mdisk verb operands)

abbrev by_console : List ℕ → List (List ℕ) → Result Stated LineFault
by_console verb operands = cond (bytes_eq verb (codes "CONSOLE")) (well_formed (console_stated operands))
    (by_spool verb operands)

-- what is read of words, they say
pub found : (verb : List ℕ) (operands : List (List ℕ)) (s : Stated) → stated_by verb operands ≡ Ok s
    → Says (verb ∷ operands) s
found verb operands s h = elim (chosen (bytes_eq verb (codes "USER")) (well_formed (user_stated operands))
    (by_console verb operands) (Ok s) h) [
      | inl p ↦ behind verb (codes "USER") operands s p.0 (user_words operands s (formed (user_stated operands) s p.1))
      | inr p ↦ elim (chosen (bytes_eq verb (codes "CONSOLE")) (well_formed (console_stated operands))
          (by_spool verb operands) (Ok s) p.1) [
            | inl q ↦ behind verb (codes "CONSOLE") operands s q.0 (console_words operands s
                (formed (console_stated operands) s q.1))
            | inr q ↦ elim (chosen (bytes_eq verb (codes "SPOOL")) (well_formed (spool_stated operands))
                (by_mdisk verb operands) (Ok s) q.1) [
                  | inl r ↦ behind verb (codes "SPOOL") operands s r.0 (spool_words operands s
                      (formed (spool_stated operands) s r.1))
                  | inr r ↦ elim (chosen (bytes_eq verb (codes "MDISK")) (well_formed (disk_stated operands)) (Err UnknownStatement)
                      (Ok s) r.1) [
                        | inl t ↦ behind verb (codes "MDISK") operands s t.0
                            (disk_words operands s (formed (disk_stated operands) s t.1))
                        | inr t ↦ cc
                      ]
                ]
          ]
    ]

user_again : (name password size : List ℕ) (k : ℕ) → is_name name ≡ true → is_short_word password ≡ true
    → kilobytes_of size ≡ Some k → user_of name password size ≡ Some (User name k)
user_again name password size k named guarded measured = rw (named, guarded, measured) refl

console_again : (place : List ℕ) (address : ℕ) → IsAddress place address
    → console_of place (codes "3215") ≡ Some (Device Console address)
console_again place address placed = ap (option_map (Device Console)) (address_again place address placed)

-- a kind that a word spells
kind_again : (place word : List ℕ) (kind : DeviceKind) (address : ℕ) → IsAddress place address
    → spool_kind_of word ≡ Some kind → spool_of place word ≡ Some (Device kind address)
kind_again place word kind address placed e = rw (address_again place address placed, e) refl

disk_again : (place start count : List ℕ) (address : ℕ) (extent : Extent) → IsAddress place address
    → extent_spelled start count extent.volser (letter_of extent.mode) ≡ Some extent
    → disk_of place (codes "3330") (extent_spelled start count extent.volser (letter_of extent.mode)) ≡ Some
    (Disk address extent)
disk_again place start count address extent placed e = rw (e, address_again place address placed) refl

-- what words say is read of them
pub record Read (words : List (List ℕ)) (s : Stated) : Type 0 where
  pub verb : List ℕ
  pub operands : List (List ℕ)
  pub begins : words ≡ verb ∷ operands
  pub stated : stated_by verb operands ≡ Ok s

spool_again : (words : List (List ℕ)) (word : List ℕ) (kind : DeviceKind) (address : ℕ) → spool_kind_of word ≡ Some kind
    → SaysSpool words word address → Read words (Device kind address)
spool_again words word kind address e h =
    record {
      verb = codes "SPOOL";
      operands = h.place ∷ word ∷ [];
      begins = h.spelled;
      stated = ap well_formed (kind_again h.place word kind address h.placed e);
    }

-- Words that say a statement are read as it.
pub again : (words : List (List ℕ)) (s : Stated) → Says words s → Read words s
again words (User name kilobytes) h =
    record {
      verb = codes "USER";
      operands = name ∷ h.password ∷ (h.digits ++ h.letter ∷ []) ∷ [];
      begins = h.spelled;
      stated = ap well_formed (user_again name h.password (h.digits ++ h.letter ∷ []) kilobytes h.named h.guarded
          (sized_again h.digits h.letter h.unit h.counted h.measured ∙ ap Some (sym h.size)));
    }
again words (Device Console address) h = record {
  verb = codes "CONSOLE";
  operands = h.place ∷ codes "3215" ∷ [];
  begins = h.spelled;
  stated = ap well_formed (console_again h.place address h.placed);
}
again words (Device Reader address) h = spool_again words (codes "READER") Reader address refl h
again words (Device Punch address) h = spool_again words (codes "PUNCH") Punch address refl h
again words (Device Printer address) h = spool_again words (codes "PRINTER") Printer address refl h
again words (Disk address extent) h =
    record {
      verb = codes "MDISK";
      operands = h.place ∷ codes "3330" ∷ h.start ∷ h.count ∷ extent.volser ∷ letter_of extent.mode ∷ [];
      begins = h.spelled;
      stated = ap well_formed (disk_again h.place h.start h.count address extent h.placed
          (extent_again h.start h.count extent h.begins h.counted h.named));
    }

-- words say one thing
pub alike : (words : List (List ℕ)) (s t : Stated) → Says words s → Says words t → s ≡ t
alike words s t h k =
    let a = again words s h in
    let b = again words t k in
    let whole : a.verb ∷ a.operands ≡ b.verb ∷ b.operands = sym a.begins ∙ b.begins in
    let same_verb : a.verb ≡ b.verb = cc in
    let same : a.operands ≡ b.operands = cc in
    let twice : Ok s ≡ Ok t = sym a.stated ∙ ap (λ (v : List ℕ). stated_by v a.operands) same_verb
    ∙ ap (stated_by b.verb) same ∙ b.stated in
    cc

-- ---- first words

-- whether the first word is one of those that name statements
abbrev pub is_verb : List ℕ → Bool
is_verb verb = list_any (bytes_eq verb) verbs

no_verb_on : (a b c d : Bool) (w x y z u : Result Stated LineFault) → (a || (b || (c || (d || false)))) ≡ false
    → cond a w (cond b x (cond c y (cond d z u))) ≡ u
no_verb_on true b c d w x y z u h = cc
no_verb_on false true c d w x y z u h = cc
no_verb_on false false true d w x y z u h = cc
no_verb_on false false false true w x y z u h = cc
no_verb_on false false false false w x y z u h = refl

-- another first word states nothing
pub no_verb : (verb : List ℕ) (operands : List (List ℕ)) → is_verb verb ≡ false
    → stated_by verb operands ≡ Err UnknownStatement
no_verb verb operands h =
    no_verb_on (bytes_eq verb (codes "USER")) (bytes_eq verb (codes "CONSOLE")) (bytes_eq verb (codes "SPOOL"))
    (bytes_eq verb (codes "MDISK"))
    (well_formed (user_stated operands)) (well_formed (console_stated operands)) (well_formed (spool_stated operands))
    (well_formed (disk_stated operands)) (Err UnknownStatement) h

misformed : (o : Option Stated) (fault : LineFault) → well_formed o ≡ Err fault → Syntax ≡ fault
misformed None fault h = cc
misformed (Some s) fault h = cc

-- why words are not read: their first word names no statement, or it does and they do not have its form
pub data Unread (named : Bool) (fault : LineFault) : Type 0 where
  Unnamed : named ≡ false → UnknownStatement ≡ fault → Unread named fault
  Misspelled : named ≡ true → Syntax ≡ fault → Unread named fault

unread_on : (a b c d : Bool) (w x y z : Option Stated) (fault : LineFault)
    → cond a (well_formed w) (cond b (well_formed x) (cond c (well_formed y)
    (cond d (well_formed z) (Err UnknownStatement)))) ≡ Err fault
    → Unread (a || (b || (c || (d || false)))) fault
unread_on true b c d w x y z fault h = Misspelled refl (misformed w fault h)
unread_on false true c d w x y z fault h = Misspelled refl (misformed x fault h)
unread_on false false true d w x y z fault h = Misspelled refl (misformed y fault h)
unread_on false false false true w x y z fault h = Misspelled refl (misformed z fault h)
unread_on false false false false w x y z fault h = Unnamed refl cc

-- Words that are refused are said by no statement of their verb.
pub unread : (verb : List ℕ) (operands : List (List ℕ)) (fault : LineFault) → stated_by verb operands ≡ Err fault
    → Unread (is_verb verb) fault
unread verb operands fault h =
    unread_on (bytes_eq verb (codes "USER")) (bytes_eq verb (codes "CONSOLE")) (bytes_eq verb (codes "SPOOL"))
    (bytes_eq verb (codes "MDISK"))
    (user_stated operands) (console_stated operands) (spool_stated operands) (disk_stated operands) fault h
