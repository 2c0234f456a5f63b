-- The commands that concern devices and other users are read exactly as their words spell them.
use Rattle.std.proofs.Common.{◌≡◌, ℕ, Bool, true, false, cond, List, [], ◌∷◌, codes, Option, Some, None, Err, refl}
use Rattle.std.specs.Str.{bytes_eq}
use Rattle.std.proofs.lemmas.Slice.Eq.{bytes_eq-Decides}
use Rattle.cp_console.specs.Operands.{device_of, file_of}
use Rattle.cp_console.specs.Reading.{operand_read, operand, ended, keyword}
use Rattle.cp_console.specs.DeviceCommands.{ipl_of, query_of, spool_of, close_of, purge_of, message_of}
use Rattle.cp_console.specs.DeviceCommands.{device_command_named}
use Rattle.cp_console.specs.Commands.{command_by}
use Rattle.cp_console.specs.Grammar.{Begins, Spells, SpellsOperand, Tells}
use Rattle.cp_console.specs.declared.commands.Command.{Command}
use Rattle.cp_console.specs.declared.commands.Command.TheVariants.{Ipl, Device}
use Rattle.cp_console.specs.declared.device_commands.DeviceCommand.TheVariants.{QueryFiles, QueryUsers, Spool, Close}
use Rattle.cp_console.specs.declared.device_commands.DeviceCommand.TheVariants.{Purge, Message}
use Rattle.cp_console.specs.declared.commands.CommandError.TheVariants.{Unknown, Operand}
use Rattle.cp_console.proofs.Spelled.{missing, never, whole_begins}

-- a command of one operand, which this rule reads
operand_on : {A : Type 0} (name : List ℕ) (rule : List ℕ → Option A) (command : A → Command)
    → ((words : List (List ℕ)) (following : List ℕ)
    → command_by (name ∷ words) following ≡ operand 1 rule words (λ a. ended 2 (command a)))
    → ((words : List (List ℕ)) (following : List ℕ) (a : A) → SpellsOperand name rule words a
    → Spells words following (command a))
    → Begins (name ∷ []) → (following word : List ℕ) (words : List (List ℕ)) (o : Option A) → rule word ≡ o
    → Tells (name ∷ word ∷ words) following (operand_read 1 o (λ a. ended 2 (command a) words))
operand_on name rule command reads spells begins following word words None h =
    record {
      front = name ∷ [];
      after = word ∷ words;
      split = refl;
      counted = refl;
      begins = begins;
      stops = never (name ∷ word ∷ []) (Operand 1) (λ rest other. rw (reads (word ∷ rest) other, h) refl);
    }
operand_on name rule command reads spells begins following word [] (Some a) h =
    spells (name ∷ word ∷ []) following a (record { word = word; spelled = refl; read = h })
operand_on name rule command reads spells begins following word (more ∷ words) (Some a) h =
    record {
      front = name ∷ word ∷ [];
      after = more ∷ words;
      split = refl;
      counted = refl;
      begins = whole_begins (name ∷ word ∷ []) following (command a)
          (spells (name ∷ word ∷ []) following a (record { word = word; spelled = refl; read = h }));
      stops = never (name ∷ word ∷ more ∷ []) (Operand 2) (λ rest other. rw (reads (word ∷ more ∷ rest) other, h) refl);
    }

tells_operand : {A : Type 0} (name : List ℕ) (rule : List ℕ → Option A) (command : A → Command)
    → ((words : List (List ℕ)) (following : List ℕ)
    → command_by (name ∷ words) following ≡ operand 1 rule words (λ a. ended 2 (command a)))
    → ((words : List (List ℕ)) (following : List ℕ) (a : A) → SpellsOperand name rule words a
    → Spells words following (command a))
    → Begins (name ∷ []) → (following : List ℕ) (operands : List (List ℕ))
    → Tells (name ∷ operands) following (operand 1 rule operands (λ a. ended 2 (command a)))
tells_operand name rule command reads spells begins following [] =
    record {
      front = name ∷ [];
      after = [];
      split = refl;
      counted = refl;
      begins = begins;
      stops = missing (name ∷ []) (Operand 1) (λ other. reads [] other);
    }
tells_operand name rule command reads spells begins following (word ∷ words) =
    operand_on name rule command reads spells begins following word words (rule word) refl

ipl_begins : Begins (codes "IPL" ∷ [])
ipl_begins = record {
  rest = codes "000" ∷ [];
  following = [];
  command = Ipl 0;
  whole = record { word = codes "000"; spelled = refl; read = refl };
}

tells_ipl : (following : List ℕ) (operands : List (List ℕ)) → Tells (codes "IPL" ∷ operands) following (ipl_of operands)
tells_ipl following operands =
    tells_operand (codes "IPL") device_of Ipl (λ words other. refl) (λ words other a h. h) ipl_begins following operands

close_begins : Begins (codes "CLOSE" ∷ [])
close_begins = record {
  rest = codes "000" ∷ [];
  following = [];
  command = Device (Close 0);
  whole = record { word = codes "000"; spelled = refl; read = refl };
}

tells_close : (following : List ℕ) (operands : List (List ℕ))
    → Tells (codes "CLOSE" ∷ operands) following (close_of operands)
tells_close following operands =
    tells_operand (codes "CLOSE") device_of (λ device. Device (Close device)) (λ words other. refl)
    (λ words other a h. h) close_begins following operands

purge_begins : Begins (codes "PURGE" ∷ [])
purge_begins = record {
  rest = codes "0" ∷ [];
  following = [];
  command = Device (Purge 0);
  whole = record { word = codes "0"; spelled = refl; read = refl };
}

tells_purge : (following : List ℕ) (operands : List (List ℕ))
    → Tells (codes "PURGE" ∷ operands) following (purge_of operands)
tells_purge following operands =
    tells_operand (codes "PURGE") file_of (λ file. Device (Purge file)) (λ words other. refl) (λ words other a h. h)
    purge_begins following operands

query_begins : Begins (codes "QUERY" ∷ [])
query_begins = record { rest = codes "FILES" ∷ []; following = []; command = Device QueryFiles; whole = refl }

query_on : (following word : List ℕ) (words : List (List ℕ)) (b0 b1 : Bool) → bytes_eq word (codes "FILES") ≡ b0
    → bytes_eq word (codes "USERS") ≡ b1
    → Tells (codes "QUERY" ∷ word ∷ words) following
    (cond b0 (ended 2 (Device QueryFiles) words) (cond b1 (ended 2 (Device QueryUsers) words) (Err (Operand 1))))
query_on following word [] true b1 h0 h1 = rw ((bytes_eq-Decides word (codes "FILES")).0 h0) refl
query_on following word (more ∷ words) true b1 h0 h1 = rw ((bytes_eq-Decides word (codes "FILES")).0 h0) (record {
  front = codes "QUERY" ∷ codes "FILES" ∷ [];
  after = more ∷ words;
  split = refl;
  counted = refl;
  begins = whole_begins (codes "QUERY" ∷ codes "FILES" ∷ []) following (Device QueryFiles) refl;
  stops = never (codes "QUERY" ∷ codes "FILES" ∷ more ∷ []) (Operand 2) (λ rest other. refl);
})
query_on following word [] false true h0 h1 = rw ((bytes_eq-Decides word (codes "USERS")).0 h1) refl
query_on following word (more ∷ words) false true h0 h1 = rw ((bytes_eq-Decides word (codes "USERS")).0 h1) (record {
  front = codes "QUERY" ∷ codes "USERS" ∷ [];
  after = more ∷ words;
  split = refl;
  counted = refl;
  begins = whole_begins (codes "QUERY" ∷ codes "USERS" ∷ []) following (Device QueryUsers) refl;
  stops = never (codes "QUERY" ∷ codes "USERS" ∷ more ∷ []) (Operand 2) (λ rest other. refl);
})
query_on following word words false false h0 h1 =
    record {
      front = codes "QUERY" ∷ [];
      after = word ∷ words;
      split = refl;
      counted = refl;
      begins = query_begins;
      stops = never (codes "QUERY" ∷ word ∷ []) (Operand 1) (λ rest other. rw (h0, h1) refl);
    }

tells_query : (following : List ℕ) (operands : List (List ℕ))
    → Tells (codes "QUERY" ∷ operands) following (query_of operands)
tells_query following [] =
    record {
      front = codes "QUERY" ∷ [];
      after = [];
      split = refl;
      counted = refl;
      begins = query_begins;
      stops = missing (codes "QUERY" ∷ []) (Operand 1) (λ other. refl);
    }
tells_query following (word ∷ words) =
    query_on following word words (bytes_eq word (codes "FILES")) (bytes_eq word (codes "USERS")) refl refl

spool_begins : Begins (codes "SPOOL" ∷ [])
spool_begins =
    record {
      rest = codes "000" ∷ codes "TO" ∷ codes "A" ∷ [];
      following = [];
      command = Device (Spool 0 (codes "A"));
      whole = record { word = codes "000"; spelled = refl; read = refl };
    }

spool_device_begins : (word : List ℕ) (device : ℕ) → device_of word ≡ Some device → Begins (codes "SPOOL" ∷ word ∷ [])
spool_device_begins word device h =
    record {
      rest = codes "TO" ∷ codes "A" ∷ [];
      following = [];
      command = Device (Spool device (codes "A"));
      whole = record { word = word; spelled = refl; read = h };
    }

spool_to_begins : (word : List ℕ) (device : ℕ) → device_of word ≡ Some device
    → Begins (codes "SPOOL" ∷ word ∷ codes "TO" ∷ [])
spool_to_begins word device h =
    record {
      rest = codes "A" ∷ [];
      following = [];
      command = Device (Spool device (codes "A"));
      whole = record { word = word; spelled = refl; read = h };
    }

name_on : (following word : List ℕ) (words : List (List ℕ)) (device : ℕ) → device_of word ≡ Some device
    → Tells (codes "SPOOL" ∷ word ∷ codes "TO" ∷ words) following
    (operand 3 Some words (λ name. ended 4 (Device (Spool device name))))
name_on following word [] device h =
    record {
      front = codes "SPOOL" ∷ word ∷ codes "TO" ∷ [];
      after = [];
      split = refl;
      counted = refl;
      begins = spool_to_begins word device h;
      stops = missing (codes "SPOOL" ∷ word ∷ codes "TO" ∷ []) (Operand 3) (λ other. rw h refl);
    }
name_on following word (name ∷ []) device h = record { word = word; spelled = refl; read = h }
name_on following word (name ∷ more ∷ words) device h =
    record {
      front = codes "SPOOL" ∷ word ∷ codes "TO" ∷ name ∷ [];
      after = more ∷ words;
      split = refl;
      counted = refl;
      begins = whole_begins (codes "SPOOL" ∷ word ∷ codes "TO" ∷ name ∷ []) following (Device (Spool device name))
          (record { word = word; spelled = refl; read = h });
      stops = never (codes "SPOOL" ∷ word ∷ codes "TO" ∷ name ∷ more ∷ []) (Operand 4) (λ rest other. rw h refl);
    }

to_on : (following word to : List ℕ) (words : List (List ℕ)) (device : ℕ) (b : Bool) → device_of word ≡ Some device
    → bytes_eq to (codes "TO") ≡ b
    → Tells (codes "SPOOL" ∷ word ∷ to ∷ words) following
    (operand_read 2 (cond b (Some to) None)
    (λ kept. operand 3 Some words (λ name. ended 4 (Device (Spool device name)))))
to_on following word to words device false h k =
    record {
      front = codes "SPOOL" ∷ word ∷ [];
      after = to ∷ words;
      split = refl;
      counted = refl;
      begins = spool_device_begins word device h;
      stops = never (codes "SPOOL" ∷ word ∷ to ∷ []) (Operand 2) (λ rest other. rw (h, k) refl);
    }
to_on following word to words device true h k =
    rw ((bytes_eq-Decides to (codes "TO")).0 k) (name_on following word words device h)

spool_on : (following word : List ℕ) (words : List (List ℕ)) (o : Option ℕ) → device_of word ≡ o
    → Tells (codes "SPOOL" ∷ word ∷ words) following
    (operand_read 1 o (λ device.
    operand 2 (keyword (codes "TO")) words
    (λ to more. operand 3 Some more (λ name. ended 4 (Device (Spool device name))))))
spool_on following word words None h =
    record {
      front = codes "SPOOL" ∷ [];
      after = word ∷ words;
      split = refl;
      counted = refl;
      begins = spool_begins;
      stops = never (codes "SPOOL" ∷ word ∷ []) (Operand 1) (λ rest other. rw h refl);
    }
spool_on following word [] (Some device) h =
    record {
      front = codes "SPOOL" ∷ word ∷ [];
      after = [];
      split = refl;
      counted = refl;
      begins = spool_device_begins word device h;
      stops = missing (codes "SPOOL" ∷ word ∷ []) (Operand 2) (λ other. rw h refl);
    }
spool_on following word (to ∷ words) (Some device) h =
    to_on following word to words device (bytes_eq to (codes "TO")) h refl

tells_spool : (following : List ℕ) (operands : List (List ℕ))
    → Tells (codes "SPOOL" ∷ operands) following (spool_of operands)
tells_spool following [] =
    record {
      front = codes "SPOOL" ∷ [];
      after = [];
      split = refl;
      counted = refl;
      begins = spool_begins;
      stops = missing (codes "SPOOL" ∷ []) (Operand 1) (λ other. refl);
    }
tells_spool following (word ∷ words) = spool_on following word words (device_of word) refl

message_begins : Begins (codes "MSG" ∷ [])
message_begins =
    record {
      rest = codes "A" ∷ codes "B" ∷ [];
      following = [];
      command = Device (Message (codes "A") []);
      whole = record { word = codes "B"; more = []; spelled = refl; said = refl };
    }

message_name_begins : (name : List ℕ) → Begins (codes "MSG" ∷ name ∷ [])
message_name_begins name =
    record {
      rest = codes "B" ∷ [];
      following = [];
      command = Device (Message name []);
      whole = record { word = codes "B"; more = []; spelled = refl; said = refl };
    }

tells_message : (following : List ℕ) (operands : List (List ℕ))
    → Tells (codes "MSG" ∷ operands) following (message_of operands following)
tells_message following [] =
    record {
      front = codes "MSG" ∷ [];
      after = [];
      split = refl;
      counted = refl;
      begins = message_begins;
      stops = missing (codes "MSG" ∷ []) (Operand 1) (λ other. refl);
    }
tells_message following (name ∷ []) =
    record {
      front = codes "MSG" ∷ name ∷ [];
      after = [];
      split = refl;
      counted = refl;
      begins = message_name_begins name;
      stops = missing (codes "MSG" ∷ name ∷ []) (Operand 2) (λ other. refl);
    }
tells_message following (name ∷ word ∷ words) = record { word = word; more = words; spelled = refl; said = refl }

device_named_on : (following name : List ℕ) (operands : List (List ℕ)) (b0 b1 b2 b3 b4 b5 : Bool)
    → ((rest : List (List ℕ)) (other : List ℕ) → command_by (name ∷ rest) other ≡ device_command_named name rest other)
    → bytes_eq name (codes "IPL") ≡ b0 → bytes_eq name (codes "QUERY") ≡ b1 → bytes_eq name (codes "SPOOL") ≡ b2
    → bytes_eq name (codes "CLOSE") ≡ b3 → bytes_eq name (codes "PURGE") ≡ b4 → bytes_eq name (codes "MSG") ≡ b5
    → Tells (name ∷ operands) following
    (cond b0 (ipl_of operands)
    (cond b1 (query_of operands)
    (cond b2 (spool_of operands)
    (cond b3 (close_of operands)
    (cond b4 (purge_of operands) (cond b5 (message_of operands following) (Err Unknown)))))))
device_named_on following name operands true b1 b2 b3 b4 b5 reads h0 h1 h2 h3 h4 h5 =
    rw ((bytes_eq-Decides name (codes "IPL")).0 h0) (tells_ipl following operands)
device_named_on following name operands false true b2 b3 b4 b5 reads h0 h1 h2 h3 h4 h5 =
    rw ((bytes_eq-Decides name (codes "QUERY")).0 h1) (tells_query following operands)
device_named_on following name operands false false true b3 b4 b5 reads h0 h1 h2 h3 h4 h5 =
    rw ((bytes_eq-Decides name (codes "SPOOL")).0 h2) (tells_spool following operands)
device_named_on following name operands false false false true b4 b5 reads h0 h1 h2 h3 h4 h5 =
    rw ((bytes_eq-Decides name (codes "CLOSE")).0 h3) (tells_close following operands)
device_named_on following name operands false false false false true b5 reads h0 h1 h2 h3 h4 h5 =
    rw ((bytes_eq-Decides name (codes "PURGE")).0 h4) (tells_purge following operands)
device_named_on following name operands false false false false false true reads h0 h1 h2 h3 h4 h5 =
    rw ((bytes_eq-Decides name (codes "MSG")).0 h5) (tells_message following operands)
device_named_on following name operands false false false false false false reads h0 h1 h2 h3 h4 h5 =
    record {
      name = name;
      operands = operands;
      split = refl;
      unknown = never (name ∷ []) Unknown (λ rest other. rw (reads rest other, h0, h1, h2, h3, h4, h5) refl);
    }

-- what the names of these commands are read as, where no command of a machine has the name
pub tells_device : (following name : List ℕ) (operands : List (List ℕ))
    → ((rest : List (List ℕ)) (other : List ℕ) → command_by (name ∷ rest) other ≡ device_command_named name rest other)
    → Tells (name ∷ operands) following (device_command_named name operands following)
tells_device following name operands reads =
    device_named_on following name operands (bytes_eq name (codes "IPL")) (bytes_eq name (codes "QUERY"))
    (bytes_eq name (codes "SPOOL")) (bytes_eq name (codes "CLOSE")) (bytes_eq name (codes "PURGE"))
    (bytes_eq name (codes "MSG")) reads refl refl refl refl refl refl
