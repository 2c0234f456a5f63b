-- Bytes of an input that are no request.
use Rattle.std.proofs.Common.{◌≡◌, ◌∙◌, ℕ, ◌+◌, ◌*◌, ◌-◌, ◌<◌, ◌≤◌, Bool, true, false, ◌&&◌, List, [], ◌∷◌}
use Rattle.std.proofs.Common.{◌++◌, Option, Some, None}
use Rattle.std.proofs.Common.{if◌then◌else◌, ap, append_assoc, arith, get_or, inl, inr, length, refl, subst, sym}
use Rattle.std.specs.Prelude.{codes, nat_le, Result, Ok, Err, IfErr, IfSome, IsErrAnd}
use Rattle.std.specs.Io.KnownBytes.{Consumes, IsAtEnd}
use Rattle.std.proofs.KnownBytes.{Consumes-trans}
use Rattle.s370_num.specs.Host.{IsCounted}
use Rattle.s370_num.specs.declared.host.HostFault.{HostFault}
use Rattle.std.proofs.lemmas.Bool.{cases_Bool}
use Rattle.text_words.specs.Numbers.{decimal_of, is_digit, number_from}
use Rattle.programs.specs.Requests.{FailsToRead, GivesLine, HasNoEnd, IsAsked, IsBadLine, IsFramed, IsMalformed}
use Rattle.programs.specs.Requests.{IsNoRequest, IsUnframed, IsUnsized, IsViewLine}
use Rattle.programs.specs.declared.requests.FollowRequest.{FollowRequest}
use Rattle.programs.specs.declared.requests.FollowRequest.TheVariants as requests

-- ---- lines

-- two texts that begin with the same line have the same after it
split_same : (a b xs ys : List ℕ) → HasNoEnd a → HasNoEnd b → a ++ 10 ∷ xs ≡ b ++ 10 ∷ ys → (a ≡ b) × (xs ≡ ys)
split_same [] [] xs ys p q e = (refl, cc)
split_same [] (c ∷ b) xs ys p q e = absurd (q.0 (cc))
split_same (c ∷ a) [] xs ys p q e = absurd (p.0 (cc))
split_same (c ∷ a) (d ∷ b) xs ys p q e =
    let same : c ≡ d = cc in
    let rest : a ++ 10 ∷ xs ≡ b ++ 10 ∷ ys = cc in
    let more = split_same a b xs ys p.1 q.1 rest in
    let lines = more.0 in
    (cc, more.1)

-- a line that is longer is none that ends before
no_split : (line more w rest : List ℕ) → HasNoEnd line → length w < length line → line ++ more ≡ w ++ 10 ∷ rest → ⊥
no_split [] more w rest p l e = omega (arith, l)
no_split (c ∷ line) more [] rest p l e = p.0 (cc)
no_split (c ∷ line) more (d ∷ w) rest p l e =
    let tails : line ++ more ≡ w ++ 10 ∷ rest = cc in
    no_split line more w rest p.1 (omega (arith, l)) tails

-- a line without an end is none with one
no_end : (line w rest : List ℕ) → HasNoEnd line → line ≡ w ++ 10 ∷ rest → ⊥
no_end [] [] rest p e = cc
no_end [] (d ∷ w) rest p e = cc
no_end (c ∷ line) [] rest p e = p.0 (cc)
no_end (c ∷ line) (d ∷ w) rest p e = let tails : line ≡ w ++ 10 ∷ rest = cc in no_end line w rest p.1 tails

-- One more byte that is no LF leaves a line without an end.
pub one_more : (line : List ℕ) (c : ℕ) → HasNoEnd line → (c ≡ 10 → ⊥) → HasNoEnd (line ++ c ∷ [])
one_more [] c h is = (is, tt)
one_more (d ∷ line) c h is = (h.0, one_more line c h.1 is)

-- ---- numbers

digit_no_end : (c : ℕ) → is_digit c ≡ true → c ≡ 10 → ⊥
digit_no_end c is e = let ten : is_digit 10 ≡ true = subst (λ (n : ℕ). is_digit n ≡ true) e is in cc

number_no_end : (cs : List ℕ) (n m : ℕ) → number_from n cs ≡ Some m → HasNoEnd cs
number_no_end [] n m e = tt
number_no_end (c ∷ cs) n m e = elim (cases_Bool (is_digit c)) [
  | inl is ↦ (
    digit_no_end c is,
    number_no_end cs (n * 10 + (c - 48)) m
        (subst (λ (b : Bool). (if b then number_from (n * 10 + (c - 48)) cs else None) ≡ Some m) is e),
  )
  | inr not ↦ (let none : None ≡ Some m =
      subst (λ (b : Bool). (if b then number_from (n * 10 + (c - 48)) cs else None) ≡ Some m) not e in absurd (cc))
]

le_of : (a b : ℕ) → nat_le a b ≡ true → a ≤ b
le_of a b e = grind arith

and_second : (a b : Bool) → (a && b) ≡ true → b ≡ true
and_second true b e = e
and_second false b e = absurd (cc)

-- A number of at most so many digits has no more, and no LF.
digits_are : (most : ℕ) (digits : List ℕ) (m : ℕ) → decimal_of most digits ≡ Some m
    → (length digits ≤ most) × HasNoEnd digits
digits_are most digits m e =
    let test = nat_le 1 (length digits) && nat_le (length digits) most in
    elim (cases_Bool test) [
      | inl is ↦ (
        le_of (length digits) most (and_second (nat_le 1 (length digits)) (nat_le (length digits) most) is),
        number_no_end digits 0 m
            (subst (λ (b : Bool). (if b then number_from 0 digits else None) ≡ Some m) is e),
      )
      | inr not ↦ (let none : None ≡ Some m =
          subst (λ (b : Bool). (if b then number_from 0 digits else None) ≡ Some m) not e in absurd (cc))
    ]

size_is : (digits : List ℕ) (m : ℕ) → decimal_of 9 digits ≡ Some m → (length digits ≤ 9) × HasNoEnd digits
size_is = digits_are 9

-- ---- words

save_line : HasNoEnd (codes "SAVE")
save_line = ((λ e. cc), ((λ e. cc), ((λ e. cc), ((λ e. cc), tt))))

state_line : HasNoEnd (codes "STATE")
state_line = ((λ e. cc), ((λ e. cc), ((λ e. cc), ((λ e. cc), ((λ e. cc), tt)))))

seek_line : HasNoEnd (codes "SEEK")
seek_line = ((λ e. cc), ((λ e. cc), ((λ e. cc), ((λ e. cc), tt))))

hold_line : HasNoEnd (codes "HOLDS")
hold_line = ((λ e. cc), ((λ e. cc), ((λ e. cc), ((λ e. cc), ((λ e. cc), tt)))))

files_line : HasNoEnd (codes "FILES")
files_line = ((λ e. cc), ((λ e. cc), ((λ e. cc), ((λ e. cc), ((λ e. cc), tt)))))

stop_line : HasNoEnd (codes "END")
stop_line = ((λ e. cc), ((λ e. cc), ((λ e. cc), tt)))

-- a line that asks for the state of a user is short, and has no LF
view_line : (line : List ℕ) (user : ℕ) → IsViewLine line user → (length line ≤ 9) × HasNoEnd line
view_line line user v =
    let digits = digits_are 2 v.0 user v.1 in
    let short = digits.0 in (
      subst (λ (l : List ℕ). length l ≤ 9) (sym v.2) (omega (arith, short)),
      subst HasNoEnd (sym v.2) ((λ e. cc), ((λ e. cc), ((λ e. cc), ((λ e. cc), ((λ e. cc), digits.1))))),
    )

-- what is no number however many digits it may have
no_digits : (most : ℕ) (cs : List ℕ) → number_from 0 cs ≡ None → decimal_of most cs ≡ None
no_digits most cs none =
    elim (cases_Bool (nat_le 1 (length cs) && nat_le (length cs) most)) [
      | inl is ↦ subst (λ (b : Bool). (if b then number_from 0 cs else None) ≡ None) (sym is) none
      | inr not ↦ subst (λ (b : Bool). (if b then number_from 0 cs else None) ≡ None) (sym not) refl
    ]

-- it is no number
view_no_number : (line : List ℕ) (user size : ℕ) → IsViewLine line user → decimal_of 9 line ≡ Some size → ⊥
view_no_number line user size v e =
    let none = no_digits 9 (codes "VIEW " ++ v.0) refl in
    let some : decimal_of 9 (codes "VIEW " ++ v.0) ≡ Some size =
    subst (λ (w : List ℕ). decimal_of 9 w ≡ Some size) v.2 e in
    let both : None ≡ Some size = sym none ∙ some in
    absurd (cc)

-- and no other word
view_no_word : (line : List ℕ) (user : ℕ) → IsViewLine line user → (word : List ℕ) → (get_or word 0 0 ≡ 86 → ⊥)
    → word ≡ line → ⊥
view_no_word line user v word first e =
    first (ap (λ (l : List ℕ). get_or l 0 0) (e ∙ v.2))

-- each request begins with a short line
pub record Begins (read : List ℕ) : Type 0 where
  pub line : List ℕ
  pub rest : List ℕ
  pub is : read ≡ line ++ 10 ∷ rest
  pub none : HasNoEnd line
  pub short : length line ≤ 9

begins : (read : List ℕ) (request : FollowRequest) → IsAsked read request → Begins read
begins read (requests.Part part) f =
    let size = size_is f.digits (length part.items) f.size in
    record { line = f.digits; rest = part.items; is = f.line; none = size.1; short = size.0 }
begins read requests.Save e =
    record { line = codes "SAVE"; rest = []; is = e; none = save_line; short = omega arith }
begins read requests.Holds e =
    record { line = codes "HOLDS"; rest = []; is = e; none = hold_line; short = omega arith }
begins read requests.Files e =
    record { line = codes "FILES"; rest = []; is = e; none = files_line; short = omega arith }
begins read (requests.View user) h =
    let line = view_line h.0 user h.1 in
    record { line = h.0; rest = []; is = h.2; none = line.1; short = line.0 }
begins read (requests.Seek text) h =
    record { line = codes "SEEK"; rest = h.0; is = h.2; none = seek_line; short = omega arith }
begins read (requests.State state) h =
    record { line = codes "STATE"; rest = h.0; is = h.2; none = state_line; short = omega arith }

-- ---- what is no request

-- a line that has no end soon enough
pub long_line : (line more : List ℕ) → HasNoEnd line → 10 ≤ length line → IsNoRequest (line ++ more)
long_line line more none long = record {
  asked = λ request asked. (let b = begins (line ++ more) request asked in
      no_split line more b.line b.rest none (omega (arith, long, b.short)) b.is);
  end = λ e. no_split line more (codes "END") [] none (omega (arith, long)) e;
}

-- a line that has none
pub cut_line : (line : List ℕ) → HasNoEnd line → IsNoRequest line
cut_line line none = record {
  asked = λ request asked. (let b = begins line request asked in no_end line b.line b.rest none b.is);
  end = λ e. no_end line (codes "END") [] none e;
}

-- the line and what follows, put together
whole : (word more : List ℕ) → (word ++ 10 ∷ []) ++ more ≡ word ++ 10 ∷ more
whole word more = append_assoc word (10 ∷ []) more

-- a line is no word of a request, and does not ask for the state of a user
pub record IsNoWord (word : List ℕ) : Type 0 where
  pub save : word ≡ codes "SAVE" → ⊥
  pub hold : word ≡ codes "HOLDS" → ⊥
  pub view : (user : ℕ) → IsViewLine word user → ⊥
  pub state : word ≡ codes "STATE" → ⊥
  pub seek : word ≡ codes "SEEK" → ⊥
  pub files : word ≡ codes "FILES" → ⊥

bad_word_asked : (word more : List ℕ) → HasNoEnd word → decimal_of 9 word ≡ None → IsNoWord word
    → (request : FollowRequest) → IsAsked ((word ++ 10 ∷ []) ++ more) request → ⊥
bad_word_asked word more none number words (requests.Part part) f =
    let size = size_is f.digits (length part.items) f.size in
    let same = split_same word f.digits more part.items none size.1 (sym (whole word more) ∙ f.line) in
    let line = same.0 in
    let is = f.size in cc
bad_word_asked word more none number words requests.Save e =
    words.save (split_same word (codes "SAVE") more [] none save_line (sym (whole word more) ∙ e)).0
bad_word_asked word more none number words requests.Holds e =
    words.hold (split_same word (codes "HOLDS") more [] none hold_line (sym (whole word more) ∙ e)).0
bad_word_asked word more none number words requests.Files e =
    words.files (split_same word (codes "FILES") more [] none files_line (sym (whole word more) ∙ e)).0
bad_word_asked word more none number words (requests.View user) h =
    let line = view_line h.0 user h.1 in
    let same = (split_same word h.0 more [] none line.1 (sym (whole word more) ∙ h.2)).0 in
    words.view user (subst (λ (l : List ℕ). IsViewLine l user) (sym same) h.1)
bad_word_asked word more none number words (requests.Seek s) h =
    words.seek (split_same word (codes "SEEK") more h.0 none seek_line (sym (whole word more) ∙ h.2)).0
bad_word_asked word more none number words (requests.State s) h =
    words.state (split_same word (codes "STATE") more h.0 none state_line (sym (whole word more) ∙ h.2)).0

-- a line that is neither a number nor a word
pub bad_word : (word more : List ℕ) → HasNoEnd word → decimal_of 9 word ≡ None → (word ≡ codes "END" → ⊥)
    → IsNoWord word → IsNoRequest ((word ++ 10 ∷ []) ++ more)
bad_word word more none number end words = record {
  asked = λ request asked. bad_word_asked word more none number words request asked;
  end = λ e. end (split_same word (codes "END") more [] none stop_line (sym (whole word more) ∙ e)).0;
}

short_part : (word got : List ℕ) (size : ℕ) → HasNoEnd word → decimal_of 9 word ≡ Some size → length got < size
    → (request : FollowRequest) → IsAsked ((word ++ 10 ∷ []) ++ got) request → ⊥
short_part word got size none number less (requests.Part part) f =
    let digits = size_is f.digits (length part.items) f.size in
    let same = split_same word f.digits got part.items none digits.1 (sym (whole word got) ∙ f.line) in
    let line = same.0 in
    let items = same.1 in
    let is = f.size in
    let many : size ≡ length got = cc in
    omega (arith, less, many)
short_part word got size none number less requests.Save e =
    let line = (split_same word (codes "SAVE") got [] none save_line (sym (whole word got) ∙ e)).0 in
    let no : decimal_of 9 (codes "SAVE") ≡ Some size = subst (λ (w : List ℕ). decimal_of 9 w ≡ Some size) line number in
    cc
short_part word got size none number less requests.Holds e =
    let line = (split_same word (codes "HOLDS") got [] none hold_line (sym (whole word got) ∙ e)).0 in
    let no : decimal_of 9 (codes "HOLDS") ≡ Some size = subst (λ (w : List ℕ). decimal_of 9 w ≡ Some size) line number
    in
    cc
short_part word got size none number less requests.Files e =
    let line = (split_same word (codes "FILES") got [] none files_line (sym (whole word got) ∙ e)).0 in
    let no : decimal_of 9 (codes "FILES") ≡ Some size = subst (λ (w : List ℕ). decimal_of 9 w ≡ Some size) line number
    in
    cc
short_part word got size none number less (requests.View user) h =
    let viewed = view_line h.0 user h.1 in
    let line = (split_same word h.0 got [] none viewed.1 (sym (whole word got) ∙ h.2)).0 in
    view_no_number h.0 user size h.1 (subst (λ (w : List ℕ). decimal_of 9 w ≡ Some size) line number)
short_part word got size none number less (requests.Seek s) h =
    let line = (split_same word (codes "SEEK") got h.0 none seek_line (sym (whole word got) ∙ h.2)).0 in
    let no : decimal_of 9 (codes "SEEK") ≡ Some size = subst (λ (w : List ℕ). decimal_of 9 w ≡ Some size) line number in
    cc
short_part word got size none number less (requests.State s) h =
    let line = (split_same word (codes "STATE") got h.0 none state_line (sym (whole word got) ∙ h.2)).0 in
    let no : decimal_of 9 (codes "STATE") ≡ Some size = subst (λ (w : List ℕ). decimal_of 9 w ≡ Some size) line number
    in
    cc

-- a part of which bytes lack
pub cut_part : (word got : List ℕ) (size : ℕ) → HasNoEnd word → decimal_of 9 word ≡ Some size → length got < size
    → IsNoRequest ((word ++ 10 ∷ []) ++ got)
cut_part word got size none number less = record {
  asked = λ request asked. short_part word got size none number less request asked;
  end = λ e. (
      let line = (split_same word (codes "END") got [] none stop_line (sym (whole word got) ∙ e)).0 in
      let no : decimal_of 9 (codes "END") ≡ Some size = subst (λ (w : List ℕ). decimal_of 9 w ≡ Some size) line number in
      cc);
}

no_hold : codes "STATE" ≡ codes "HOLDS" → ⊥
no_hold e =
    let first : 83 ≡ 72 = ap (λ (l : List ℕ). get_or l 0 0) e in omega (arith, first)

no_files : codes "STATE" ≡ codes "FILES" → ⊥
no_files e =
    let first : 83 ≡ 70 = ap (λ (l : List ℕ). get_or l 0 0) e in omega (arith, first)

bad_state_asked : (more : List ℕ) → ((bytes : List ℕ) → IsFramed more bytes → ⊥) → (request : FollowRequest)
    → IsAsked ((codes "STATE" ++ 10 ∷ []) ++ more) request → ⊥
bad_state_asked more unframed (requests.Part part) f =
    let digits = size_is f.digits (length part.items) f.size in
    let line = (split_same (codes "STATE") f.digits more part.items state_line digits.1 f.line).0 in
    let no : decimal_of 9 (codes "STATE") ≡ Some (length part.items) =
    subst (λ (w : List ℕ). decimal_of 9 w ≡ Some (length part.items)) (sym line) f.size in
    cc
bad_state_asked more unframed requests.Save e =
    let line = (split_same (codes "STATE") (codes "SAVE") more [] state_line save_line e).0 in cc
bad_state_asked more unframed requests.Holds e =
    no_hold (split_same (codes "STATE") (codes "HOLDS") more [] state_line hold_line e).0
bad_state_asked more unframed requests.Files e =
    no_files (split_same (codes "STATE") (codes "FILES") more [] state_line files_line e).0
bad_state_asked more unframed (requests.View user) h =
    let viewed = view_line h.0 user h.1 in
    let line = (split_same (codes "STATE") h.0 more [] state_line viewed.1 h.2).0 in
    view_no_word h.0 user h.1 (codes "STATE") (λ e. omega (arith, e)) line
bad_state_asked more unframed (requests.Seek s) h =
    let line = (split_same (codes "STATE") (codes "SEEK") more h.0 state_line seek_line h.2).0 in cc
bad_state_asked more unframed (requests.State s) h =
    let rest = (split_same (codes "STATE") (codes "STATE") more h.0 state_line state_line h.2).1 in
    unframed s.items (subst (λ (l : List ℕ). IsFramed l s.items) (sym rest) h.1)

-- the word for a state, and after it no bytes with their number
pub bad_state : (more : List ℕ) → ((bytes : List ℕ) → IsFramed more bytes → ⊥)
    → IsNoRequest ((codes "STATE" ++ 10 ∷ []) ++ more)
bad_state more unframed = record {
  asked = λ request asked. bad_state_asked more unframed request asked;
  end = λ e. (let line = (split_same (codes "STATE") (codes "END") more [] state_line stop_line e).0 in cc);
}

seek_no_hold : codes "SEEK" ≡ codes "HOLDS" → ⊥
seek_no_hold e =
    let first : 83 ≡ 72 = ap (λ (l : List ℕ). get_or l 0 0) e in omega (arith, first)

seek_no_files : codes "SEEK" ≡ codes "FILES" → ⊥
seek_no_files e =
    let first : 83 ≡ 70 = ap (λ (l : List ℕ). get_or l 0 0) e in omega (arith, first)

seek_no_save : codes "SEEK" ≡ codes "SAVE" → ⊥
seek_no_save e =
    let second : 69 ≡ 65 = ap (λ (l : List ℕ). get_or l 1 0) e in omega (arith, second)

bad_seek_asked : (more : List ℕ) → ((bytes : List ℕ) → IsFramed more bytes → ⊥) → (request : FollowRequest)
    → IsAsked ((codes "SEEK" ++ 10 ∷ []) ++ more) request → ⊥
bad_seek_asked more unframed (requests.Part part) f =
    let digits = size_is f.digits (length part.items) f.size in
    let line = (split_same (codes "SEEK") f.digits more part.items seek_line digits.1 f.line).0 in
    let no : decimal_of 9 (codes "SEEK") ≡ Some (length part.items) =
    subst (λ (w : List ℕ). decimal_of 9 w ≡ Some (length part.items)) (sym line) f.size in
    cc
bad_seek_asked more unframed requests.Save e =
    seek_no_save (split_same (codes "SEEK") (codes "SAVE") more [] seek_line save_line e).0
bad_seek_asked more unframed requests.Holds e =
    seek_no_hold (split_same (codes "SEEK") (codes "HOLDS") more [] seek_line hold_line e).0
bad_seek_asked more unframed requests.Files e =
    seek_no_files (split_same (codes "SEEK") (codes "FILES") more [] seek_line files_line e).0
bad_seek_asked more unframed (requests.View user) h =
    let viewed = view_line h.0 user h.1 in
    let line = (split_same (codes "SEEK") h.0 more [] seek_line viewed.1 h.2).0 in
    view_no_word h.0 user h.1 (codes "SEEK") (λ e. omega (arith, e)) line
bad_seek_asked more unframed (requests.Seek s) h =
    let rest = (split_same (codes "SEEK") (codes "SEEK") more h.0 seek_line seek_line h.2).1 in
    unframed s.items (subst (λ (l : List ℕ). IsFramed l s.items) (sym rest) h.1)
bad_seek_asked more unframed (requests.State s) h =
    let line = (split_same (codes "SEEK") (codes "STATE") more h.0 seek_line state_line h.2).0 in cc

-- the word that asks to seek, and after it no bytes with their number
pub bad_seek : (more : List ℕ) → ((bytes : List ℕ) → IsFramed more bytes → ⊥)
    → IsNoRequest ((codes "SEEK" ++ 10 ∷ []) ++ more)
bad_seek more unframed = record {
  asked = λ request asked. bad_seek_asked more unframed request asked;
  end = λ e. (let line = (split_same (codes "SEEK") (codes "END") more [] seek_line stop_line e).0 in cc);
}

-- ---- what fails after more was read

-- What holds of the error that is passed on holds of the one that is returned.
pub if_err : {A E : Type 0} (Q : E → Type 0) (f : E) (r : Result A E) → IsErrAnd r (λ z. z ≡ f) → Q f → IfErr r Q
if_err Q f (Ok a) e q = tt
if_err Q f (Err z) e q = subst Q (sym e) q

-- A reader that fails after some bytes, of which nothing was counted, fails after all of them.
pub fails_later : (P Q : List ℕ → Option (List ℕ) → Type 0) (a b c : Option (List ℕ)) (bs : List ℕ) (n k m : ℕ)
    (fault : HostFault) → Consumes a b bs → k ≡ n → ((read : List ℕ) → P read c → Q (bs ++ read) c)
    → FailsToRead P b c k m fault → FailsToRead Q a c n m fault
fails_later P Q a b c bs n k m fault read same wrong h = (
  bs ++ h.0,
  Consumes-trans a b c bs h.0 read h.1,
  elim h.2 [
    | inl counted ↦ inl (subst (λ (i : ℕ). IsCounted i m fault) same counted)
    | inr is ↦ inr (is.0 ∙ same, is.1, wrong h.0 is.2)
  ],
)

-- A file that fails is counted.
pub fails : (Q : List ℕ → Option (List ℕ) → Type 0) (a c : Option (List ℕ)) (bs : List ℕ) (n k m : ℕ)
    (fault : HostFault) → Consumes a c bs → k ≡ n → IsCounted k m fault → FailsToRead Q a c n m fault
fails Q a c bs n k m fault read same counted =
    (bs, read, inl (subst (λ (i : ℕ). IsCounted i m fault) same counted))

-- What is wrong in one way is wrong in another.
pub fails_so : (P Q : List ℕ → Option (List ℕ) → Type 0) (a c : Option (List ℕ)) (n m : ℕ) (fault : HostFault)
    → ((read : List ℕ) → P read c → Q read c) → FailsToRead P a c n m fault → FailsToRead Q a c n m fault
fails_so P Q a c n m fault wrong h =
    (h.0, h.1, elim h.2 [ inl counted ↦ inl counted | inr is ↦ inr (is.0, is.1, wrong h.0 is.2) ])

-- ---- what is wrong with a request

-- A line that is bad is no request.
pub bad_line_malformed : (read : List ℕ) (c : Option (List ℕ)) → IsBadLine read c → IsMalformed read c
bad_line_malformed read c h = elim h.1 [
  | inl long ↦ inl (λ more. long_line read more h.0 long)
  | inr end ↦ inr (end, cut_line read h.0)
]

-- A line that is bad is no number with bytes after it.
pub bad_line_unframed : (read : List ℕ) (c : Option (List ℕ)) → IsBadLine read c → IsUnframed read c
bad_line_unframed read c h = elim h.1 [
  | inl long ↦ inl (λ more bytes f. (let size = size_is f.digits (length bytes) f.size in
      no_split read more f.digits bytes h.0 (omega (arith, long, size.0)) f.line))
  | inr end ↦ inr (end, λ bytes f. no_end read f.digits bytes h.0 f.line)
]

-- Nothing is no number with bytes after it.
pub nothing_unframed : (c : Option (List ℕ)) → IsAtEnd c → IsUnframed [] c
nothing_unframed c end = inr (end, λ bytes f. no_end [] f.digits bytes tt f.line)

-- A line that is no number, or has too few bytes after it, is no number with its bytes.
pub unsized_unframed : (word read : List ℕ) (c : Option (List ℕ)) → HasNoEnd word → IsUnsized word read c
    → IsUnframed ((word ++ 10 ∷ []) ++ read) c
unsized_unframed word read c none (inl is) =
    inl (λ more bytes f. (
    let size = size_is f.digits (length bytes) f.size in
    let line : word ++ 10 ∷ (read ++ more) ≡ f.digits ++ 10 ∷ bytes =
    sym (whole word (read ++ more)) ∙ sym (append_assoc (word ++ 10 ∷ []) read more) ∙ f.line in
    let same = (split_same word f.digits (read ++ more) bytes none size.1 line).0 in
    let no : decimal_of 9 word ≡ Some (length bytes) =
    subst (λ (w : List ℕ). decimal_of 9 w ≡ Some (length bytes)) (sym same) f.size in
    let number = is.0 in
    cc))
unsized_unframed word read c none (inr is) =
    inr (
      is.2.1,
      λ bytes f. (
          let size = size_is f.digits (length bytes) f.size in
          let same = split_same word f.digits read bytes none size.1 (sym (whole word read) ∙ f.line) in
          let number = is.1 in
          let line = same.0 in
          let items = same.1 in
          let other = f.size in
          let many : is.0 ≡ length read = cc in
          omega (arith, is.2.0, many)),
    )

-- STATE before no bytes with their number is no request.
pub unframed_malformed : (word read : List ℕ) (c : Option (List ℕ)) → word ≡ codes "STATE" → IsUnframed read c
    → IsMalformed ((word ++ 10 ∷ []) ++ read) c
unframed_malformed word read c e (inl f) =
    inl (λ more. subst (λ (w : List ℕ). IsNoRequest (((w ++ 10 ∷ []) ++ read) ++ more)) (sym e)
    (subst IsNoRequest (sym (append_assoc (codes "STATE" ++ 10 ∷ []) read more)) (bad_state (read ++ more) (f more))))
unframed_malformed word read c e (inr f) =
    inr (f.0, subst (λ (w : List ℕ). IsNoRequest ((w ++ 10 ∷ []) ++ read)) (sym e) (bad_state read f.1))

-- SEEK before no bytes with their number is no request.
pub unframed_seek : (word read : List ℕ) (c : Option (List ℕ)) → word ≡ codes "SEEK" → IsUnframed read c
    → IsMalformed ((word ++ 10 ∷ []) ++ read) c
unframed_seek word read c e (inl f) =
    inl (λ more. subst (λ (w : List ℕ). IsNoRequest (((w ++ 10 ∷ []) ++ read) ++ more)) (sym e)
    (subst IsNoRequest (sym (append_assoc (codes "SEEK" ++ 10 ∷ []) read more)) (bad_seek (read ++ more) (f more))))
unframed_seek word read c e (inr f) =
    inr (f.0, subst (λ (w : List ℕ). IsNoRequest ((w ++ 10 ∷ []) ++ read)) (sym e) (bad_seek read f.1))

-- A line that is no word and no number, or has too few bytes after it, is no request.
pub unsized_malformed : (word read : List ℕ) (c : Option (List ℕ)) → HasNoEnd word → (word ≡ codes "END" → ⊥)
    → IsNoWord word → IsUnsized word read c → IsMalformed ((word ++ 10 ∷ []) ++ read) c
unsized_malformed word read c none end words (inl is) =
    inl (λ more. subst IsNoRequest (sym (append_assoc (word ++ 10 ∷ []) read more))
    (bad_word word (read ++ more) none is.0 end words))
unsized_malformed word read c none end words (inr is) =
    inr (is.2.1, cut_part word read is.0 none is.1 is.2.0)

-- A line that did not come is the end of the input.
pub no_line : (line : Option (List ℕ)) (a b : Option (List ℕ)) → line ≡ None → GivesLine line a b → GivesLine None a b
no_line line a b e h = subst (λ (o : Option (List ℕ)). GivesLine o a b) e h

-- What holds of each item holds of the one that there is.
pub some_has : {A : Type 0} (P : A → Type 0) (o : Option A) (a : A) → o ≡ Some a → IfSome o P → P a
some_has {A = A} P o a e h = subst (λ (x : Option A). IfSome x P) e h
