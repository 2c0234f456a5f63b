-- What is read is in the grammar, what is in the grammar is read, and another text has its first fault reported.
use Rattle.std.proofs.Common.{◌≡◌, ℕ, ◌+◌, ◌≤◌, ◌⊎◌, inl, inr, Bool, true, false, cond, List, [], ◌∷◌, ◌++◌, length}
use Rattle.std.proofs.Common.{Result, Ok, Err, refl, ap, sym, ◌∙◌, subst, arith}
use Rattle.text_words.specs.Lines.{and_then, is_comment, lines_of, read_lines}
use Rattle.text_words.specs.Words.{words_of}
use Rattle.text_words.proofs.Spellings.{chosen}
use Rattle.text_words.proofs.Firsts.{first_fault_of}
use Rattle.cp_directory.specs.Users.{DirectoryUser}
use Rattle.cp_directory.specs.Statements.{Stated, added, line_placed, placed, stated_by, words_placed}
use Rattle.cp_directory.specs.Directories.{at_line, directory_step}
use Rattle.cp_directory.specs.Grammar.{Continues, HasFault, IsFirstFault, IsIgnored, ReadsGrammar, Says, States, order}
use Rattle.cp_directory.specs.declared.faults.LineFault.{LineFault}
use Rattle.cp_directory.specs.declared.faults.LineFault.TheVariants.{UnknownStatement, Syntax, DuplicateUser}
use Rattle.cp_directory.specs.declared.faults.LineFault.TheVariants.{DuplicateDevice, BadStorage, BadExtent, Overlap}
use Rattle.cp_directory.specs.declared.faults.LineFault.TheVariants.{TooMany}
use Rattle.cp_directory.proofs.Spellings.{Unread, Unnamed, Misspelled, again, found, is_verb, unread}
use Rattle.cp_directory.proofs.Places.{Judged, no_fault, one_fault, own, right_again, right_found, wrong_found}

-- a line adds nothing, or what it states
abbrev Adds : ℕ → List DirectoryUser → List ℕ → List DirectoryUser → Type 0
Adds number before line next = (IsIgnored line × (next ≡ before))
    ⊎ ((s : Stated) × States before line s × (next ≡ added number before s))

stated_on : (number : ℕ) (before : List DirectoryUser) (line verb : List ℕ) (operands : List (List ℕ))
    (next : List DirectoryUser) (r : Result Stated LineFault) → is_comment line ≡ false
    → words_of line ≡ verb ∷ operands → stated_by verb operands ≡ r
    → and_then r (placed number before) ≡ Ok next → Adds number before line next
stated_on number before line verb operands next (Err fault) counted e q h = cc
stated_on number before line verb operands next (Ok s) counted e q h =
    let k = right_found number before s next h in
    inr (
      s,
      record {
        counted = counted;
        says = subst (λ (w : List (List ℕ)). Says w s) (sym e)
            (found verb operands s q);
        right = k.0;
      },
      k.1,
    )

words_on : (number : ℕ) (before : List DirectoryUser) (line : List ℕ) (words : List (List ℕ))
    (next : List DirectoryUser) → is_comment line ≡ false → words_of line ≡ words
    → words_placed number before words ≡ Ok next → Adds number before line next
words_on number before line [] next counted e h = let same : before ≡ next = cc in inl (inr e, sym same)
words_on number before line (verb ∷ operands) next counted e h = stated_on number before line verb operands next
    (stated_by verb operands) counted e refl h

line_found : (number : ℕ) (before : List DirectoryUser) (line : List ℕ) (next : List DirectoryUser)
    → line_placed number before line ≡ Ok next → Adds number before line next
line_found number before line next h = elim (chosen (is_comment line) (Ok before)
    (words_placed number before (words_of line)) (Ok next) h) [
      | inl p ↦ let k = p.1 in let same : before ≡ next = cc in inl (inl p.0, sym same)
      | inr p ↦ words_on number before line (words_of line) next p.0 refl p.1
    ]

continue_on : (n : ℕ) (before : List DirectoryUser) (line : List ℕ) (lines : List (List ℕ)) (users : List DirectoryUser)
    (r : Result (List DirectoryUser) LineFault) → line_placed n before line ≡ r
    → ((next : List DirectoryUser) → read_lines directory_step (n + 1) next lines ≡ Ok users
    → Continues (n + 1) next lines users)
    → and_then (at_line n r) (λ next. read_lines directory_step (n + 1) next lines) ≡ Ok users
    → Continues n before (line ∷ lines) users
continue_on n before line lines users (Err fault) e hyp h = cc
continue_on n before line lines users (Ok next) e hyp h =
    let rest = hyp next h in
    elim (line_found n before line next e) [
      | inl k ↦ inl (k.0, subst (λ (b : List DirectoryUser). Continues (n + 1) b lines users) k.1 rest)
      | inr k ↦ inr (k.0, k.1, subst (λ (b : List DirectoryUser). Continues (n + 1) b lines users) k.2 rest)
    ]

continue_found : (n : ℕ) (before : List DirectoryUser) (lines : List (List ℕ)) (users : List DirectoryUser)
    → read_lines directory_step n before lines ≡ Ok users → Continues n before lines users
continue_found n before [] users h = let same : before ≡ users = cc in sym same
continue_found n before (line ∷ lines) users h = continue_on n before line lines users (line_placed n before line) refl
    (λ next. continue_found (n + 1) next lines users) h

comment_again : (number : ℕ) (before : List DirectoryUser) (b : Bool) (words : List (List ℕ)) → b ≡ true
    → cond b (Ok before) (words_placed number before words) ≡ Ok before
comment_again number before b words e = rw e refl

empty_again : (number : ℕ) (before : List DirectoryUser) (b : Bool) (words : List (List ℕ)) → words ≡ []
    → cond b (Ok before) (words_placed number before words) ≡ Ok before
empty_again number before true words e = refl
empty_again number before false words e = rw e refl

ignored_again : (number : ℕ) (before : List DirectoryUser) (line : List ℕ) → IsIgnored line
    → line_placed number before line ≡ Ok before
ignored_again number before line h = elim h [
  | inl comment ↦ comment_again number before (is_comment line) (words_of line) comment
  | inr empty ↦ empty_again number before (is_comment line) (words_of line) empty
]

words_again : (number : ℕ) (before next : List DirectoryUser) (s : Stated) (b : Bool) (words : List (List ℕ))
    (verb : List ℕ) (operands : List (List ℕ)) → b ≡ false → words ≡ verb ∷ operands → stated_by verb operands ≡ Ok s
    → placed number before s ≡ Ok next → cond b (Ok before) (words_placed number before words) ≡ Ok next
words_again number before next s b words verb operands counted begins stated h = rw (counted, begins, stated) h

stated_again : (number : ℕ) (before : List DirectoryUser) (line : List ℕ) (s : Stated) → States before line s
    → line_placed number before line ≡ Ok (added number before s)
stated_again number before line s h =
    let a = again (words_of line) s h.says in
    words_again number before (added number before s) s (is_comment line)
    (words_of line) a.verb a.operands h.counted a.begins a.stated (right_again number before s h.right)

step_again : (n : ℕ) (lines : List (List ℕ)) (users next : List DirectoryUser)
    (r : Result (List DirectoryUser) LineFault) → r ≡ Ok next → read_lines directory_step (n + 1) next lines ≡ Ok users
    → and_then (at_line n r) (λ next. read_lines directory_step (n + 1) next lines) ≡ Ok users
step_again n lines users next r e h = rw e h

continue_again : (n : ℕ) (before : List DirectoryUser) (lines : List (List ℕ)) (users : List DirectoryUser)
    → Continues n before lines users → read_lines directory_step n before lines ≡ Ok users
continue_again n before [] users h = ap Ok (sym h)
continue_again n before (line ∷ lines) users h = elim h [
  | inl k ↦ step_again n lines users before (line_placed n before line) (ignored_again n before line k.0)
      (continue_again (n + 1) before lines users k.1)
  | inr k ↦ step_again n lines users (added n before k.0) (line_placed n before line)
      (stated_again n before line k.0 k.1) (continue_again (n + 1) (added n before k.0) lines users k.2)
]

-- a first word that names a statement is not unknown
after_unknown : (users : List DirectoryUser) (verb : List ℕ) (operands : List (List ℕ)) → is_verb verb ≡ true
    → (other : LineFault) → HasFault users (verb ∷ operands) other → 1 ≤ order other
after_unknown users verb operands e UnknownStatement h =
    let same : verb ≡ h.verb = cc in
    let wrong : is_verb verb ≡ false = subst (λ (v : List ℕ). is_verb v ≡ false) (sym same) h.other in
    cc
after_unknown users verb operands e Syntax h = omega arith
after_unknown users verb operands e DuplicateUser h = omega arith
after_unknown users verb operands e DuplicateDevice h = omega arith
after_unknown users verb operands e BadStorage h = omega arith
after_unknown users verb operands e BadExtent h = omega arith
after_unknown users verb operands e (Overlap first) h = omega arith
after_unknown users verb operands e TooMany h = omega arith

silent : (verb : List ℕ) (operands : List (List ℕ)) (fault : LineFault) → stated_by verb operands ≡ Err fault
    → (s : Stated) → Says (verb ∷ operands) s → ⊥
silent verb operands fault e s says =
    let a = again (verb ∷ operands) s says in
    let whole : verb ∷ operands ≡ a.verb ∷ a.operands = a.begins in
    let same_verb : verb ≡ a.verb = cc in
    let same : operands ≡ a.operands = cc in
    let twice : Err fault ≡ Ok s = sym e ∙ ap (λ (v : List ℕ). stated_by v operands) same_verb
    ∙ ap (stated_by a.verb) same ∙ a.stated in
    cc

-- words that are not read have the fault for which they are not
unread_on : (users : List DirectoryUser) (verb : List ℕ) (operands : List (List ℕ)) (fault : LineFault)
    → stated_by verb operands ≡ Err fault → Unread (is_verb verb) fault → Judged users (verb ∷ operands) fault
unread_on users verb operands fault e (Unnamed none same) =
    subst (Judged users (verb ∷ operands)) same (record {
      has = record { verb = verb; operands = operands; begins = refl; other = none };
      first = λ other k. omega arith;
    })
unread_on users verb operands fault e (Misspelled named same) =
    subst (Judged users (verb ∷ operands)) same (record {
      has = inl (record {
        verb = verb;
        operands = operands;
        begins = refl;
        named = named;
        silent = silent verb operands fault e;
      });
      first = after_unknown users verb operands named;
    })

bad_on : (number : ℕ) (users : List DirectoryUser) (verb : List ℕ) (operands : List (List ℕ)) (fault : LineFault)
    (r : Result Stated LineFault) → stated_by verb operands ≡ r → and_then r (placed number users) ≡ Err fault
    → Judged users (verb ∷ operands) fault
bad_on number users verb operands fault (Err reported) e h =
    let same : reported ≡ fault = cc in
    let refused : stated_by verb operands ≡ Err fault = e ∙ ap Err same in
    unread_on users verb operands fault refused (unread verb operands fault refused)
bad_on number users verb operands fault (Ok s) e h = wrong_found number users (verb ∷ operands) s fault
    (found verb operands s e) h

bad_words : (number : ℕ) (users : List DirectoryUser) (words : List (List ℕ)) (fault : LineFault)
    → words_placed number users words ≡ Err fault → Judged users words fault
bad_words number users [] fault h = cc
bad_words number users (verb ∷ operands) fault h = bad_on number users verb operands fault
    (stated_by verb operands) refl h

bad_found : (number : ℕ) (users : List DirectoryUser) (line : List ℕ) (fault : LineFault)
    → line_placed number users line ≡ Err fault → (is_comment line ≡ false) × Judged users (words_of line) fault
bad_found number users line fault h = elim (chosen (is_comment line) (Ok users)
    (words_placed number users (words_of line)) (Err fault) h) [
      | inl p ↦ let k = p.1 in cc
      | inr p ↦ (p.0, bad_words number users (words_of line) fault p.1)
    ]

at_own : {A : Type 0} (r : Result A LineFault) (n number : ℕ) (fault : LineFault) → at_line n r ≡ Err (number, fault)
    → (r ≡ Err fault) × (number ≡ n)
at_own (Ok a) n number fault h = cc
at_own (Err other) n number fault h =
    let pair : ◌≡◌ {A = ℕ × LineFault} (n, other) (number, fault) = cc in
    (ap (λ (p : ℕ × LineFault). Err p.1) pair, sym (ap (λ (p : ℕ × LineFault). p.0) pair))

first_bad : (lines : List (List ℕ)) (number : ℕ) (fault : LineFault)
    → read_lines directory_step 1 [] lines ≡ Err (number, fault) → IsFirstFault lines number fault
first_bad lines number fault h =
    let r = first_fault_of directory_step 1 [] lines (number, fault) h in
    let own = at_own (line_placed (1 + length r.before) r.so_far r.bad) (1 + length r.before) number fault r.refused in
    let judged = bad_found (1 + length r.before) r.so_far r.bad fault own.0 in
    record {
      at = record {
        before = r.before;
        line = r.bad;
        after = r.after;
        split = r.split;
        numbered = omega (arith, own.1);
      };
      users = r.so_far;
      accepted = continue_found 1 [] r.before r.so_far r.read;
      counted = judged.0;
      has = judged.1.has;
      first = judged.1.first;
    }

-- ---- and the first fault is reported

refused_on : (n : ℕ) (lines rest : List (List ℕ)) (users : List DirectoryUser) (reported : ℕ × LineFault)
    (r : Result (List DirectoryUser) (ℕ × LineFault))
    → ((next : List DirectoryUser) → read_lines directory_step (n + 1) next lines ≡ Ok users
    → read_lines directory_step (n + 1) next rest ≡ Err reported)
    → and_then r (λ next. read_lines directory_step (n + 1) next lines) ≡ Ok users
    → and_then r (λ next. read_lines directory_step (n + 1) next rest) ≡ Err reported
refused_on n lines rest users reported (Err other) hyp h = cc
refused_on n lines rest users reported (Ok next) hyp h = hyp next h

refused_first : (n : ℕ) (s users : List DirectoryUser) (line : List ℕ) (after : List (List ℕ)) (number : ℕ)
    (fault : LineFault) → s ≡ users → number ≡ n → line_placed number users line ≡ Err fault
    → read_lines directory_step n s (line ∷ after) ≡ Err (number, fault)
refused_first n s users line after number fault e m h = rw (e, ← m, h) refl

-- where the lines before this one are read, and it is refused, it is reported
refused_at : (n : ℕ) (s : List DirectoryUser) (before : List (List ℕ)) (line : List ℕ) (after : List (List ℕ))
    (users : List DirectoryUser) (number : ℕ) (fault : LineFault)
    → read_lines directory_step n s before ≡ Ok users → number ≡ n + length before
    → line_placed number users line ≡ Err fault → read_lines directory_step n s (before ++ line ∷ after) ≡ Err
    (number, fault)
refused_at n s [] line after users number fault h m k = let same : s ≡ users = cc in
    refused_first n s users line after number fault same (omega (arith, m)) k
refused_at n s (one ∷ before) line after users number fault h m k =
    refused_on n before (before ++ line ∷ after) users (number, fault) (directory_step n s one)
    (λ next read. refused_at (n + 1) next before line after users number fault read (omega (arith, m)) k) h

first_again_on : (number : ℕ) (users : List DirectoryUser) (line : List ℕ) (fault : LineFault)
    (r : Result (List DirectoryUser) LineFault) → line_placed number users line ≡ r → is_comment line ≡ false
    → HasFault users (words_of line) fault
    → ((other : LineFault) → HasFault users (words_of line) other → order fault ≤ order other)
    → line_placed number users line ≡ Err fault
first_again_on number users line fault (Ok next) e counted has first = elim (line_found number users line next e) [
  | inl k ↦ elim k.0 [
    | inl comment ↦ cc
    | inr empty ↦ absurd (no_fault users fault (subst (λ (w : List (List ℕ)). HasFault users w fault) empty has))
  ]
  | inr k ↦ let states = k.1 in absurd (states.right fault (own users (words_of line) k.0 fault states.says has))
]
first_again_on number users line fault (Err reported) e counted has first =
    let judged = bad_found number users line reported e in
    let early = judged.1.first fault has in
    let late = first reported judged.1.has in
    e ∙ ap Err (one_fault users (words_of line) reported fault judged.1.has has (omega arith))

first_again : (lines : List (List ℕ)) (number : ℕ) (fault : LineFault) → IsFirstFault lines number fault
    → read_lines directory_step 1 [] lines ≡ Err (number, fault)
first_again lines number fault h =
    ap (read_lines directory_step 1 []) h.at.split
    ∙ refused_at 1 [] h.at.before h.at.line h.at.after h.users number fault
    (continue_again 1 [] h.at.before h.users h.accepted) (omega (arith, h.at.numbered))
    (first_again_on number h.users h.at.line fault (line_placed number h.users h.at.line) refl h.counted h.has h.first)

-- A directory is read exactly as its grammar says.
pub reads : ReadsGrammar
reads text = (
  λ users h. continue_found 1 [] (lines_of text) users h,
  λ users h. continue_again 1 [] (lines_of text) users h,
  λ number fault h. first_bad (lines_of text) number fault h,
  λ number fault h. first_again (lines_of text) number fault h,
)
