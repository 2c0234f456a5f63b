-- No track begins another, so bytes are read in one way.
use Rattle.std.specs.Prelude.{ℕ, ◌/◌, ◌%◌, ◌≡◌, refl, List, [], ◌∷◌, ◌++◌, length, take, drop, get_or, All}
use Rattle.std.proofs.Common.{sym, ◌∙◌, ap, arith, append_assoc, take_at, drop_at}
use Rattle.std.proofs.lemmas.List.Elements.{All-head, All-tail}
use Rattle.ckd_track.specs.Track.{Record, TrackFormat}
use Rattle.ckd_image.specs.Image.{record_bytes, records_bytes, track_bytes}
use Rattle.ckd_image.specs.Reading.{IsSpelledRecord, IsSpelled}

-- lists that are as long, before equal wholes
pub same_front : (p q x y : List ℕ) → length p ≡ length q → p ++ x ≡ q ++ y → p ≡ q
same_front p q x y long e = sym (take_at p x (length q) long) ∙ ap (λ l. take (length q) l) e
    ∙ take_at q y (length q) refl

-- Equal texts that begin with equally long parts go on alike.
pub same_back : (p q x y : List ℕ) → length p ≡ length q → p ++ x ≡ q ++ y → x ≡ y
same_back p q x y long e = sym (drop_at p x (length q) long) ∙ ap (λ l. drop (length q) l) e
    ∙ drop_at q y (length q) refl

-- Two things are equal, and so is what follows them.
pub record Same {A : Type 0} (a b : A) (x y : List ℕ) : Type 0 where
  pub this : a ≡ b
  pub rest : x ≡ y

one_record : (r s : Record) (x y : List ℕ) → IsSpelledRecord r → IsSpelledRecord s
    → record_bytes r ++ x ≡ record_bytes s ++ y → Same r s x y
one_record r s x y hr hs e =
    let start : (t : Record) (z : List ℕ) → record_bytes t ++ z ≡ t.id ++
    (length t.key ∷ length t.content / 256 ∷ length t.content % 256 ∷ ((t.key ++ t.content) ++ z)) =
    λ t z. append_assoc (t.id ++ (length t.key ∷ length t.content / 256 ∷ length t.content % 256 ∷ []))
    (t.key ++ t.content) z
    ∙ append_assoc t.id (length t.key ∷ length t.content / 256 ∷ length t.content % 256 ∷ [])
    ((t.key ++ t.content) ++ z) in
    let whole = sym (start r x) ∙ e ∙ start s y in
    let ids : length r.id ≡ length s.id = hr.id ∙ sym hs.id in
    let rr = length r.key ∷ length r.content / 256 ∷ length r.content % 256 ∷ ((r.key ++ r.content) ++ x) in
    let ss = length s.key ∷ length s.content / 256 ∷ length s.content % 256 ∷ ((s.key ++ s.content) ++ y) in
    let id : r.id ≡ s.id = same_front r.id s.id rr ss ids whole in
    let rest : rr ≡ ss = same_back r.id s.id rr ss ids whole in
    let keys : length r.key ≡ length s.key = ap (λ l. get_or l 0 0) rest in
    let high : length r.content / 256 ≡ length s.content / 256 = ap (λ l. get_or l 1 0) rest in
    let low : length r.content % 256 ≡ length s.content % 256 = ap (λ l. get_or l 2 0) rest in
    let contents : length r.content ≡ length s.content = omega (arith, high, low) in
    let body : (r.key ++ r.content) ++ x ≡ (s.key ++ s.content) ++ y = ap (λ l. drop 3 l) rest in
    let flat : r.key ++ (r.content ++ x) ≡ s.key ++ (s.content ++ y) = sym (append_assoc r.key r.content x) ∙ body
    ∙ append_assoc s.key s.content y in
    let key : r.key ≡ s.key = same_front r.key s.key (r.content ++ x) (s.content ++ y) keys flat in
    let behind : r.content ++ x ≡ s.content ++ y = same_back r.key s.key (r.content ++ x) (s.content ++ y) keys flat in
    let content : r.content ≡ s.content = same_front r.content s.content x y contents behind in
    record {
      this = ap (λ i. record { id = i; key = r.key; content = r.content }) id
          ∙ ap (λ k. record { id = s.id; key = k; content = r.content }) key
          ∙ ap (λ t. record { id = s.id; key = s.key; content = t }) content;
      rest = same_back r.content s.content x y contents behind;
    }

one_list : (rs ss : List Record) (x y : List ℕ) → All IsSpelledRecord rs → All IsSpelledRecord ss
    → length rs ≡ length ss
    → records_bytes rs ++ x ≡ records_bytes ss ++ y → Same rs ss x y
one_list [] [] x y hr hs long e = record { this = refl; rest = e }
one_list [] (s ∷ ss) x y hr hs long e = absurd (omega (arith, long))
one_list (r ∷ rs) [] x y hr hs long e = absurd (omega (arith, long))
one_list (r ∷ rs) (s ∷ ss) x y hr hs long e =
    let first = one_record r s (records_bytes rs ++ x) (records_bytes ss ++ y) (All-head IsSpelledRecord r rs hr)
    (All-head IsSpelledRecord s ss hs)
    (sym (append_assoc (record_bytes r) (records_bytes rs) x) ∙ e
    ∙ append_assoc (record_bytes s) (records_bytes ss) y) in
    let others = one_list rs ss x y (All-tail IsSpelledRecord r rs hr) (All-tail IsSpelledRecord s ss hs)
    (omega (arith, long)) first.rest in
    record { this = ap (λ t. t ∷ rs) first.this ∙ ap (λ t. s ∷ t) others.this; rest = others.rest }

-- Equal bytes begin with the same track, and go on alike.
pub one_track : (t u : TrackFormat) (x y : List ℕ) → IsSpelled t → IsSpelled u → track_bytes t ++ x ≡ track_bytes u ++ y
    → Same t u x y
one_track t u x y ht hu e =
    let homes : length t.home ≡ length u.home = ht.home ∙ sym hu.home in
    let whole : t.home ++ (length t.records ∷ (records_bytes t.records ++ x)) ≡ u.home ++
    (length u.records ∷ (records_bytes u.records ++ y)) =
    sym (append_assoc t.home (length t.records ∷ records_bytes t.records) x) ∙ e
    ∙ append_assoc u.home (length u.records ∷ records_bytes u.records) y in
    let home : t.home ≡ u.home = same_front t.home u.home (length t.records ∷ (records_bytes t.records ++ x))
    (length u.records ∷ (records_bytes u.records ++ y)) homes whole in
    let rest : length t.records ∷ (records_bytes t.records ++ x) ≡ length u.records ∷ (records_bytes u.records ++ y) =
    same_back t.home u.home (length t.records ∷ (records_bytes t.records ++ x))
    (length u.records ∷ (records_bytes u.records ++ y)) homes whole in
    let counts : length t.records ≡ length u.records = ap (λ l. get_or l 0 0) rest in
    let body : records_bytes t.records ++ x ≡ records_bytes u.records ++ y = ap (λ l. drop 1 l) rest in
    let records = one_list t.records u.records x y ht.records hu.records counts body in
    record {
      this = ap (λ h. record { home = h; records = t.records }) home
          ∙ ap (λ r. record { home = u.home; records = r }) records.this;
      rest = records.rest;
    }
