-- The commands are read exactly as their words spell them.
use Rattle.std.proofs.Common.{◌≡◌, ℕ, ◌+◌, ◌*◌, ◌^◌, Bool, true, false, cond, List, [], ◌∷◌, codes, Option, Some, None}
use Rattle.std.proofs.Common.{refl}
use Rattle.std.specs.Str.{bytes_eq}
use Rattle.std.proofs.lemmas.Slice.Eq.{bytes_eq-Decides}
use Rattle.text_words.specs.Words.{words_of}
use Rattle.cp_console.specs.Operands.{address_of, contents_of, bytes_of}
use Rattle.cp_console.specs.Reading.{operand_read, operand, ended}
use Rattle.cp_console.specs.DeviceCommands.{device_command_named}
use Rattle.cp_console.specs.Commands.{place_of, logon_of, logoff_of, begin_of, system_of, external_of, display_of}
use Rattle.cp_console.specs.Commands.{change_of, store_of, command_by}
use Rattle.cp_console.specs.Grammar.{following_of, Begins, ReadsGrammar, Spells, SpellsStore, Tells}
use Rattle.cp_console.specs.declared.commands.DisplayItem.{DisplayItem}
use Rattle.cp_console.specs.declared.commands.DisplayItem.TheVariants as places
use Rattle.cp_console.specs.declared.commands.Change.{Change}
use Rattle.cp_console.specs.declared.commands.Change.TheVariants as changes
use Rattle.cp_console.specs.declared.commands.Command.TheVariants.{Logon, Logoff, Begin, SystemReset, External, Display}
use Rattle.cp_console.specs.declared.commands.Command.TheVariants.{Store}
use Rattle.cp_console.specs.declared.commands.CommandError.TheVariants.{Operand}
use Rattle.cp_console.proofs.Spelled.{again, missing, never, whole_begins}
use Rattle.cp_console.proofs.DeviceGrammars.{tells_device}

abbrev zeros : List ℕ
zeros = codes "00000000"

-- beginnings of each command
display_begins : Begins (codes "DISPLAY" ∷ [])
display_begins = record {
  rest = codes "PSW" ∷ [];
  following = [];
  command = Display places.Psw;
  whole = record { word = codes "PSW"; spelled = refl; read = refl };
}

store_begins : Begins (codes "STORE" ∷ [])
store_begins =
    record {
      rest = codes "PSW" ∷ zeros ∷ zeros ∷ [];
      following = [];
      command = Store (changes.Psw (0 * 2 ^ 32 + 0));
      whole = record {
        word = codes "PSW";
        left = zeros;
        right = zeros;
        high = 0;
        low = 0;
        spelled = refl;
        read = refl;
        left_read = refl;
        right_read = refl;
        joined = refl;
      };
    }

psw_begins : (word : List ℕ) → place_of word ≡ Some places.Psw → Begins (codes "STORE" ∷ word ∷ [])
psw_begins word h =
    record {
      rest = zeros ∷ zeros ∷ [];
      following = [];
      command = Store (changes.Psw (0 * 2 ^ 32 + 0));
      whole = record {
        word = word;
        left = zeros;
        right = zeros;
        high = 0;
        low = 0;
        spelled = refl;
        read = h;
        left_read = refl;
        right_read = refl;
        joined = refl;
      };
    }

half_begins : (word left : List ℕ) (high : ℕ) → place_of word ≡ Some places.Psw → contents_of left ≡ Some high
    → Begins (codes "STORE" ∷ word ∷ left ∷ [])
half_begins word left high h k =
    record {
      rest = zeros ∷ [];
      following = [];
      command = Store (changes.Psw (high * 2 ^ 32 + 0));
      whole = record {
        word = word;
        left = left;
        right = zeros;
        high = high;
        low = 0;
        spelled = refl;
        read = h;
        left_read = k;
        right_read = refl;
        joined = refl;
      };
    }

general_begins : (word : List ℕ) (register : ℕ) → place_of word ≡ Some (places.General register)
    → Begins (codes "STORE" ∷ word ∷ [])
general_begins word register h =
    record {
      rest = zeros ∷ [];
      following = [];
      command = Store (changes.General register 0);
      whole = record { word = word; digits = zeros; spelled = refl; read = h; digits_read = refl };
    }

storage_begins : (word : List ℕ) (address : ℕ) → place_of word ≡ Some (places.Storage address)
    → Begins (codes "STORE" ∷ word ∷ [])
storage_begins word address h =
    record {
      rest = codes "00" ∷ [];
      following = [];
      command = Store (changes.Storage address (0 ∷ []));
      whole = record { word = word; digits = codes "00"; spelled = refl; read = h; digits_read = refl };
    }

tells_logon : (following : List ℕ) → (operands : List (List ℕ))
    → Tells (codes "LOGON" ∷ operands) following (logon_of operands)
tells_logon following [] = refl
tells_logon following (word ∷ words) =
    record {
      front = codes "LOGON" ∷ [];
      after = word ∷ words;
      split = refl;
      counted = refl;
      begins = whole_begins (codes "LOGON" ∷ []) following Logon refl;
      stops = never (codes "LOGON" ∷ word ∷ []) (Operand 1) (λ rest other. refl);
    }

tells_logoff : (following : List ℕ) → (operands : List (List ℕ))
    → Tells (codes "LOGOFF" ∷ operands) following (logoff_of operands)
tells_logoff following [] = refl
tells_logoff following (word ∷ words) =
    record {
      front = codes "LOGOFF" ∷ [];
      after = word ∷ words;
      split = refl;
      counted = refl;
      begins = whole_begins (codes "LOGOFF" ∷ []) following Logoff refl;
      stops = never (codes "LOGOFF" ∷ word ∷ []) (Operand 1) (λ rest other. refl);
    }

begin_on : (following : List ℕ) → (word : List ℕ) (words : List (List ℕ)) (o : Option ℕ) → address_of word ≡ o
    → Tells (codes "BEGIN" ∷ word ∷ words) following
    (operand_read 1 o (λ address. ended 2 (Begin (Some address)) words))
begin_on following word words None h =
    record {
      front = codes "BEGIN" ∷ [];
      after = word ∷ words;
      split = refl;
      counted = refl;
      begins = whole_begins (codes "BEGIN" ∷ []) following (Begin None) refl;
      stops = never (codes "BEGIN" ∷ word ∷ []) (Operand 1) (λ rest other. rw h refl);
    }
begin_on following word [] (Some address) h = record { word = word; spelled = refl; read = h }
begin_on following word (more ∷ words) (Some address) h =
    record {
      front = codes "BEGIN" ∷ word ∷ [];
      after = more ∷ words;
      split = refl;
      counted = refl;
      begins = whole_begins (codes "BEGIN" ∷ word ∷ []) following (Begin (Some address))
          (record { word = word; spelled = refl; read = h });
      stops = never (codes "BEGIN" ∷ word ∷ more ∷ []) (Operand 2) (λ rest other. rw h refl);
    }

tells_begin : (following : List ℕ) → (operands : List (List ℕ))
    → Tells (codes "BEGIN" ∷ operands) following (begin_of operands)
tells_begin following [] = refl
tells_begin following (word ∷ words) = begin_on following word words (address_of word) refl

reset_begins : Begins (codes "SYSTEM" ∷ [])
reset_begins = record { rest = codes "RESET" ∷ []; following = []; command = SystemReset; whole = refl }

system_on : (following : List ℕ) → (word : List ℕ) (words : List (List ℕ)) (b : Bool)
    → bytes_eq word (codes "RESET") ≡ b
    → Tells (codes "SYSTEM" ∷ word ∷ words) following
    (operand_read 1 (cond b (Some word) None) (λ w. ended 2 SystemReset words))
system_on following word words false h =
    record {
      front = codes "SYSTEM" ∷ [];
      after = word ∷ words;
      split = refl;
      counted = refl;
      begins = reset_begins;
      stops = never (codes "SYSTEM" ∷ word ∷ []) (Operand 1) (λ rest other. rw h refl);
    }
system_on following word [] true h = rw ((bytes_eq-Decides word (codes "RESET")).0 h) refl
system_on following word (more ∷ words) true h = rw ((bytes_eq-Decides word (codes "RESET")).0 h) (record {
  front = codes "SYSTEM" ∷ codes "RESET" ∷ [];
  after = more ∷ words;
  split = refl;
  counted = refl;
  begins = whole_begins (codes "SYSTEM" ∷ codes "RESET" ∷ []) following SystemReset refl;
  stops = never (codes "SYSTEM" ∷ codes "RESET" ∷ more ∷ []) (Operand 2) (λ rest other. refl);
})

tells_system : (following : List ℕ) → (operands : List (List ℕ))
    → Tells (codes "SYSTEM" ∷ operands) following (system_of operands)
tells_system following [] =
    record {
      front = codes "SYSTEM" ∷ [];
      after = [];
      split = refl;
      counted = refl;
      begins = reset_begins;
      stops = missing (codes "SYSTEM" ∷ []) (Operand 1) (λ other. refl);
    }
tells_system following (word ∷ words) = system_on following word words (bytes_eq word (codes "RESET")) refl

tells_external : (following : List ℕ) → (operands : List (List ℕ))
    → Tells (codes "EXTERNAL" ∷ operands) following (external_of operands)
tells_external following [] = refl
tells_external following (word ∷ words) =
    record {
      front = codes "EXTERNAL" ∷ [];
      after = word ∷ words;
      split = refl;
      counted = refl;
      begins = whole_begins (codes "EXTERNAL" ∷ []) following External refl;
      stops = never (codes "EXTERNAL" ∷ word ∷ []) (Operand 1) (λ rest other. refl);
    }

display_on : (following : List ℕ) → (word : List ℕ) (words : List (List ℕ)) (o : Option DisplayItem) → place_of word ≡ o
    → Tells (codes "DISPLAY" ∷ word ∷ words) following (operand_read 1 o (λ place. ended 2 (Display place) words))
display_on following word words None h =
    record {
      front = codes "DISPLAY" ∷ [];
      after = word ∷ words;
      split = refl;
      counted = refl;
      begins = display_begins;
      stops = never (codes "DISPLAY" ∷ word ∷ []) (Operand 1) (λ rest other. rw h refl);
    }
display_on following word [] (Some place) h = record { word = word; spelled = refl; read = h }
display_on following word (more ∷ words) (Some place) h =
    record {
      front = codes "DISPLAY" ∷ word ∷ [];
      after = more ∷ words;
      split = refl;
      counted = refl;
      begins = whole_begins (codes "DISPLAY" ∷ word ∷ []) following (Display place)
          (record { word = word; spelled = refl; read = h });
      stops = never (codes "DISPLAY" ∷ word ∷ more ∷ []) (Operand 2) (λ rest other. rw h refl);
    }

tells_display : (following : List ℕ) → (operands : List (List ℕ))
    → Tells (codes "DISPLAY" ∷ operands) following (display_of operands)
tells_display following [] =
    record {
      front = codes "DISPLAY" ∷ [];
      after = [];
      split = refl;
      counted = refl;
      begins = display_begins;
      stops = missing (codes "DISPLAY" ∷ []) (Operand 1) (λ other. refl);
    }
tells_display following (word ∷ words) = display_on following word words (place_of word) refl

right_on : (following : List ℕ) → (word left right : List ℕ) (words : List (List ℕ)) (high : ℕ) (o : Option ℕ)
    → place_of word ≡ Some places.Psw → contents_of left ≡ Some high → contents_of right ≡ o
    → Tells (codes "STORE" ∷ word ∷ left ∷ right ∷ words) following
    (operand_read 3 o (λ low. ended 4 (Store (changes.Psw (high * 2 ^ 32 + low))) words))
right_on following word left right words high None p h k =
    record {
      front = codes "STORE" ∷ word ∷ left ∷ [];
      after = right ∷ words;
      split = refl;
      counted = refl;
      begins = half_begins word left high p h;
      stops = never (codes "STORE" ∷ word ∷ left ∷ right ∷ []) (Operand 3) (λ rest other. rw (p, h, k) refl);
    }
right_on following word left right [] high (Some low) p h k =
    record {
      word = word;
      left = left;
      right = right;
      high = high;
      low = low;
      spelled = refl;
      read = p;
      left_read = h;
      right_read = k;
      joined = refl;
    }
right_on following word left right (more ∷ words) high (Some low) p h k =
    record {
      front = codes "STORE" ∷ word ∷ left ∷ right ∷ [];
      after = more ∷ words;
      split = refl;
      counted = refl;
      begins = whole_begins (codes "STORE" ∷ word ∷ left ∷ right ∷ []) following
          (Store (changes.Psw (high * 2 ^ 32 + low)))
          (record {
            word = word;
            left = left;
            right = right;
            high = high;
            low = low;
            spelled = refl;
            read = p;
            left_read = h;
            right_read = k;
            joined = refl;
          });
      stops = never (codes "STORE" ∷ word ∷ left ∷ right ∷ more ∷ []) (Operand 4) (λ rest other. rw (p, h, k) refl);
    }

left_on : (following : List ℕ) → (word left : List ℕ) (words : List (List ℕ)) (o : Option ℕ)
    → place_of word ≡ Some places.Psw → contents_of left ≡ o
    → Tells (codes "STORE" ∷ word ∷ left ∷ words) following
    (operand_read 2 o (λ high.
    operand 3 contents_of words (λ low. ended 4 (Store (changes.Psw (high * 2 ^ 32 + low))))))
left_on following word left words None p h =
    record {
      front = codes "STORE" ∷ word ∷ [];
      after = left ∷ words;
      split = refl;
      counted = refl;
      begins = psw_begins word p;
      stops = never (codes "STORE" ∷ word ∷ left ∷ []) (Operand 2) (λ rest other. rw (p, h) refl);
    }
left_on following word left [] (Some high) p h =
    record {
      front = codes "STORE" ∷ word ∷ left ∷ [];
      after = [];
      split = refl;
      counted = refl;
      begins = half_begins word left high p h;
      stops = missing (codes "STORE" ∷ word ∷ left ∷ []) (Operand 3) (λ other. rw (p, h) refl);
    }
left_on following word left (right ∷ words) (Some high) p h =
    right_on following word left right words high (contents_of right) p h refl

-- the word after a place's, which this rule reads as what the place is given
given_on : (following : List ℕ) → {A : Type 0} (rule : List ℕ → Option A) (place : DisplayItem) (change : A → Change)
    → ((words : List (List ℕ)) → change_of place words ≡ operand 2 rule words (λ a. ended 3 (Store (change a))))
    → ((words : List (List ℕ)) (a : A) → SpellsStore rule words place a → Spells words following (Store (change a)))
    → (word digits : List ℕ) (words : List (List ℕ)) (o : Option A) → Begins (codes "STORE" ∷ word ∷ [])
    → place_of word ≡ Some place → rule digits ≡ o
    → Tells (codes "STORE" ∷ word ∷ digits ∷ words) following (operand_read 2 o (λ a. ended 3 (Store (change a)) words))
given_on following rule place change reads spells word digits words None begins p h =
    record {
      front = codes "STORE" ∷ word ∷ [];
      after = digits ∷ words;
      split = refl;
      counted = refl;
      begins = begins;
      stops = never (codes "STORE" ∷ word ∷ digits ∷ []) (Operand 2)
          (λ rest other. rw (p, reads (digits ∷ rest), h) refl);
    }
given_on following rule place change reads spells word digits [] (Some a) begins p h =
    spells (codes "STORE" ∷ word ∷ digits ∷ []) a
    (record { word = word; digits = digits; spelled = refl; read = p; digits_read = h })
given_on following rule place change reads spells word digits (more ∷ words) (Some a) begins p h =
    record {
      front = codes "STORE" ∷ word ∷ digits ∷ [];
      after = more ∷ words;
      split = refl;
      counted = refl;
      begins = whole_begins (codes "STORE" ∷ word ∷ digits ∷ []) following (Store (change a))
          (spells (codes "STORE" ∷ word ∷ digits ∷ []) a
          (record { word = word; digits = digits; spelled = refl; read = p; digits_read = h }));
      stops = never (codes "STORE" ∷ word ∷ digits ∷ more ∷ []) (Operand 3)
          (λ rest other. rw (p, reads (digits ∷ more ∷ rest), h) refl);
    }

given : (following : List ℕ) → {A : Type 0} (rule : List ℕ → Option A) (place : DisplayItem) (change : A → Change)
    → ((words : List (List ℕ)) → change_of place words ≡ operand 2 rule words (λ a. ended 3 (Store (change a))))
    → ((words : List (List ℕ)) (a : A) → SpellsStore rule words place a → Spells words following (Store (change a)))
    → (word : List ℕ) (words : List (List ℕ)) → Begins (codes "STORE" ∷ word ∷ []) → place_of word ≡ Some place
    → Tells (codes "STORE" ∷ word ∷ words) following (operand 2 rule words (λ a. ended 3 (Store (change a))))
given following rule place change reads spells word [] begins p =
    record {
      front = codes "STORE" ∷ word ∷ [];
      after = [];
      split = refl;
      counted = refl;
      begins = begins;
      stops = missing (codes "STORE" ∷ word ∷ []) (Operand 2) (λ other. rw (p, reads []) refl);
    }
given following rule place change reads spells word (digits ∷ words) begins p =
    given_on following rule place change reads spells word digits words (rule digits) begins p refl

change_on : (following : List ℕ) → (word : List ℕ) (words : List (List ℕ)) (place : DisplayItem)
    → place_of word ≡ Some place
    → Tells (codes "STORE" ∷ word ∷ words) following (change_of place words)
change_on following word [] places.Psw p =
    record {
      front = codes "STORE" ∷ word ∷ [];
      after = [];
      split = refl;
      counted = refl;
      begins = psw_begins word p;
      stops = missing (codes "STORE" ∷ word ∷ []) (Operand 2) (λ other. rw p refl);
    }
change_on following word (left ∷ words) places.Psw p = left_on following word left words (contents_of left) p refl
change_on following word words (places.General register) p =
    given following contents_of (places.General register) (λ contents. changes.General register contents) (λ ws. refl)
    (λ ws a h. h) word words (general_begins word register p) p
change_on following word words (places.Control register) p =
    record {
      front = codes "STORE" ∷ [];
      after = word ∷ words;
      split = refl;
      counted = refl;
      begins = store_begins;
      stops = never (codes "STORE" ∷ word ∷ []) (Operand 1) (λ rest other. rw p refl);
    }
change_on following word words (places.Key address) p =
    record {
      front = codes "STORE" ∷ [];
      after = word ∷ words;
      split = refl;
      counted = refl;
      begins = store_begins;
      stops = never (codes "STORE" ∷ word ∷ []) (Operand 1) (λ rest other. rw p refl);
    }
change_on following word words (places.Storage address) p =
    given following bytes_of (places.Storage address) (λ bytes. changes.Storage address bytes) (λ ws. refl)
    (λ ws a h. h) word words (storage_begins word address p) p

store_on : (following : List ℕ) → (word : List ℕ) (words : List (List ℕ)) (o : Option DisplayItem) → place_of word ≡ o
    → Tells (codes "STORE" ∷ word ∷ words) following (operand_read 1 o (λ place. change_of place words))
store_on following word words None h =
    record {
      front = codes "STORE" ∷ [];
      after = word ∷ words;
      split = refl;
      counted = refl;
      begins = store_begins;
      stops = never (codes "STORE" ∷ word ∷ []) (Operand 1) (λ rest other. rw h refl);
    }
store_on following word words (Some place) h = change_on following word words place h

tells_store : (following : List ℕ) → (operands : List (List ℕ))
    → Tells (codes "STORE" ∷ operands) following (store_of operands)
tells_store following [] =
    record {
      front = codes "STORE" ∷ [];
      after = [];
      split = refl;
      counted = refl;
      begins = store_begins;
      stops = missing (codes "STORE" ∷ []) (Operand 1) (λ other. refl);
    }
tells_store following (word ∷ words) = store_on following word words (place_of word) refl

named_on : (following : List ℕ) → (name : List ℕ) (operands : List (List ℕ)) (b0 b1 b2 b3 b4 b5 b6 : Bool)
    → bytes_eq name (codes "LOGON") ≡ b0 → bytes_eq name (codes "LOGOFF") ≡ b1 → bytes_eq name (codes "BEGIN") ≡ b2
    → bytes_eq name (codes "SYSTEM") ≡ b3 → bytes_eq name (codes "EXTERNAL") ≡ b4 → bytes_eq name (codes "DISPLAY") ≡ b5
    → bytes_eq name (codes "STORE") ≡ b6
    → Tells (name ∷ operands) following
    (cond b0 (logon_of operands)
    (cond b1 (logoff_of operands)
    (cond b2 (begin_of operands)
    (cond b3 (system_of operands)
    (cond b4 (external_of operands)
    (cond b5 (display_of operands)
    (cond b6 (store_of operands) (device_command_named name operands following))))))))
named_on following name operands true b1 b2 b3 b4 b5 b6 h0 h1 h2 h3 h4 h5 h6 =
    rw ((bytes_eq-Decides name (codes "LOGON")).0 h0) (tells_logon following operands)
named_on following name operands false true b2 b3 b4 b5 b6 h0 h1 h2 h3 h4 h5 h6 =
    rw ((bytes_eq-Decides name (codes "LOGOFF")).0 h1) (tells_logoff following operands)
named_on following name operands false false true b3 b4 b5 b6 h0 h1 h2 h3 h4 h5 h6 =
    rw ((bytes_eq-Decides name (codes "BEGIN")).0 h2) (tells_begin following operands)
named_on following name operands false false false true b4 b5 b6 h0 h1 h2 h3 h4 h5 h6 =
    rw ((bytes_eq-Decides name (codes "SYSTEM")).0 h3) (tells_system following operands)
named_on following name operands false false false false true b5 b6 h0 h1 h2 h3 h4 h5 h6 =
    rw ((bytes_eq-Decides name (codes "EXTERNAL")).0 h4) (tells_external following operands)
named_on following name operands false false false false false true b6 h0 h1 h2 h3 h4 h5 h6 =
    rw ((bytes_eq-Decides name (codes "DISPLAY")).0 h5) (tells_display following operands)
named_on following name operands false false false false false false true h0 h1 h2 h3 h4 h5 h6 =
    rw ((bytes_eq-Decides name (codes "STORE")).0 h6) (tells_store following operands)
named_on following name operands false false false false false false false h0 h1 h2 h3 h4 h5 h6 =
    tells_device following name operands (λ rest other. rw (h0, h1, h2, h3, h4, h5, h6) refl)

tells : (following : List ℕ) → (words : List (List ℕ)) → Tells words following (command_by words following)
tells following [] = refl
tells following (name ∷ operands) =
    named_on following name operands (bytes_eq name (codes "LOGON")) (bytes_eq name (codes "LOGOFF"))
    (bytes_eq name (codes "BEGIN")) (bytes_eq name (codes "SYSTEM")) (bytes_eq name (codes "EXTERNAL"))
    (bytes_eq name (codes "DISPLAY")) (bytes_eq name (codes "STORE")) refl refl refl refl refl refl refl

-- A line is read as a command exactly as the grammar says.
pub reads : ReadsGrammar
reads text = (tells (following_of text) (words_of text), again (words_of text) (following_of text))
