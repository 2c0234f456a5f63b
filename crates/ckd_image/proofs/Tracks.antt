-- Laws of tracks that are read.
use Rattle.std.specs.Prelude.{ℕ, ◌+◌, ◌-◌, ◌≡◌, ◌<◌, ◌≤◌, ◌&&◌, nat_le, Bool, true, false, refl, List, [], ◌∷◌, ◌++◌}
use Rattle.std.specs.Prelude.{length, take, drop, get_or, replicate, All}
use Rattle.std.proofs.Common.{sym, ◌∙◌, ap, subst, arith, append_assoc, append-nil, length-append, take_all}
use Rattle.std.proofs.lemmas.Bool.{leb-true, leb-false, le-leb, false≢true}
use Rattle.std.proofs.lemmas.List.{length-replicate}
use Rattle.std.proofs.lemmas.List.Elements.{All-nil, All-push, All-append, All-cons, All-replicate}
use Rattle.ckd_track.specs.Track.{Record, TrackFormat, cost, cost_of, record_cost, capacity, has_room, with_last}
use Rattle.ckd_image.specs.Image.{record_bytes, records_bytes, track_bytes}
use Rattle.ckd_image.specs.Reading.{IsSpelledRecord, IsSpelled, IsGood, IsCutTrack}
use Rattle.ckd_image.specs.Parts.{BeginsRecord, record_with, ReadRecords, EndsInRecord, IsFullTrack}

pub records_append : (rs ss : List Record) → records_bytes (rs ++ ss) ≡ records_bytes rs ++ records_bytes ss
records_append [] ss = refl
records_append (r ∷ rs) ss = ap (λ l. record_bytes r ++ l) (records_append rs ss)
    ∙ sym (append_assoc (record_bytes r) (records_bytes rs) (records_bytes ss))

pub cost_append : (rs : List Record) (r : Record) → cost (rs ++ r ∷ []) ≡ cost rs + cost_of r
cost_append [] r = omega arith
cost_append (s ∷ rs) r = omega (arith, cost_append rs r)

-- one record more
more_bytes : (rs : List Record) (r : Record) (bytes rest behind : List ℕ) → bytes ≡ records_bytes rs ++ rest
    → rest ≡ record_bytes r ++ behind
    → bytes ≡ records_bytes (rs ++ r ∷ []) ++ behind
more_bytes rs r bytes rest behind e f =
    e ∙ ap (λ l. records_bytes rs ++ l) f ∙ sym (append_assoc (records_bytes rs) (record_bytes r) behind)
    ∙ ap (λ l. (records_bytes rs ++ l) ++ behind) (sym (append-nil (record_bytes r)))
    ∙ ap (λ l. l ++ behind) (sym (records_append rs (r ∷ [])))

more_count : (rs : List Record) (r : Record) (n : ℕ) → length rs ≡ n → length (rs ++ r ∷ []) ≡ n + 1
more_count rs r n e = omega (arith, length-append rs (r ∷ []), e)

room : (b : Bool) (k y : ℕ) → b ≡ (nat_le k 255 && nat_le y 13165) → k < 256 → (b ≡ true → y ≤ 13165)
    × (b ≡ false → 13165 < y)
room b k y e small =
    let first : nat_le k 255 ≡ true = le-leb k 255 (omega arith) in
    let same : b ≡ nat_le y 13165 = e ∙ ap (λ x. x && nat_le y 13165) first in
    ((λ t. leb-true y 13165 (sym same ∙ t)), (λ f. leb-false y 13165 (sym same ∙ f)))

-- a record was tried on a track that all before it fit on
pub tried : (old mid new : TrackFormat) (n : ℕ) (bytes rest : List ℕ) → ReadRecords old mid n bytes true rest
    → (r : Record) (behind : List ℕ) → BeginsRecord rest r behind
    → (fits : Bool) → fits ≡ has_room mid (length mid.records) (length r.key) (length r.content)
    → (fits ≡ true → new ≡ with_last mid (length mid.records) r) → (fits ≡ false → new ≡ mid)
    → ReadRecords old new (n + 1) bytes fits behind
tried old mid new n bytes rest h r behind b fits cases ok err =
    let held = h.held refl in
    let whole : take (length mid.records) mid.records ≡ h.records = take_all (length mid.records) mid.records
    (omega arith) ∙ held.0 in
    let costs : cost (take (length mid.records) mid.records) + record_cost (length r.key) (length r.content) ≡ cost
    (h.records ++ r ∷ []) =
    ap (λ l. cost l + cost_of r) whole ∙ sym (cost_append h.records r) in
    let test = room fits (length r.key) (cost (take (length mid.records) mid.records) + record_cost (length r.key)
    (length r.content)) cases b.spelled.key in
    record {
      records = h.records ++ r ∷ [];
      count_is = more_count h.records r n h.count_is;
      spelled = All-push IsSpelledRecord h.records r h.spelled b.spelled;
      whole = more_bytes h.records r bytes rest behind h.whole b.whole;
      home = homes fits refl;
      held = λ t. (
        ap (λ x. x.records) (ok t) ∙ ap (λ l. l ++ r ∷ []) whole,
        subst (λ x. x ≤ capacity) costs (test.0 t),
      );
      full = λ f. subst (λ x. capacity < x) costs (test.1 f);
    }
  where
    homes : (b : Bool) → fits ≡ b → new.home ≡ old.home
    homes true e = ap (λ x. x.home) (ok e) ∙ h.home
    homes false e = ap (λ x. x.home) (err e) ∙ h.home

-- a record after one that did not fit
pub passed : (old mid : TrackFormat) (n : ℕ) (bytes rest : List ℕ) → ReadRecords old mid n bytes false rest
    → (r : Record) (behind : List ℕ) → BeginsRecord rest r behind → ReadRecords old mid (n + 1) bytes false behind
passed old mid n bytes rest h r behind b =
    record {
      records = h.records ++ r ∷ [];
      count_is = more_count h.records r n h.count_is;
      spelled = All-push IsSpelledRecord h.records r h.spelled b.spelled;
      whole = more_bytes h.records r bytes rest behind h.whole b.whole;
      home = h.home;
      held = λ t. absurd (false≢true t);
      full = λ f. omega (arith, cost_append h.records r, h.full refl);
    }

six : (l : List ℕ) → 6 ≤ length l → l ≡ get_or l 0 0 ∷ get_or l 1 0 ∷ get_or l 2 0 ∷ get_or l 3 0 ∷ get_or l 4 0 ∷
    get_or l 5 0 ∷ drop 6 l
six [] le = absurd (omega arith)
six (a ∷ []) le = absurd (omega arith)
six (a ∷ b ∷ []) le = absurd (omega arith)
six (a ∷ b ∷ c ∷ []) le = absurd (omega arith)
six (a ∷ b ∷ c ∷ d ∷ []) le = absurd (omega arith)
six (a ∷ b ∷ c ∷ d ∷ e ∷ []) le = absurd (omega arith)
six (a ∷ b ∷ c ∷ d ∷ e ∷ n ∷ t) le = refl

-- a track that begins with these six bytes, after which are its records
abbrev track_with : List ℕ → List Record → TrackFormat
track_with home records = record { home = home; records = records }

abbrev home_in : List ℕ → List ℕ
home_in l = get_or l 0 0 ∷ get_or l 1 0 ∷ get_or l 2 0 ∷ get_or l 3 0 ∷ get_or l 4 0 ∷ []

spelled_with : (l : List ℕ) (rs : List Record) → length rs ≡ get_or l 5 0 → get_or l 5 0 < 256 → All IsSpelledRecord rs
    → IsSpelled (track_with (home_in l) rs)
spelled_with l rs count small spelled = record { home = refl; few = omega (arith, count, small); records = spelled }

spelled_bytes : (l : List ℕ) (rs : List Record) (rest : List ℕ) → 6 ≤ length l → length rs ≡ get_or l 5 0
    → drop 6 l ≡ records_bytes rs ++ rest
    → l ≡ track_bytes (track_with (home_in l) rs) ++ rest
spelled_bytes l rs rest le count e =
    six l le
    ∙ ap (λ n. get_or l 0 0 ∷ get_or l 1 0 ∷ get_or l 2 0 ∷ get_or l 3 0 ∷ get_or l 4 0 ∷ n ∷ drop 6 l) (sym count)
    ∙ ap (λ t. get_or l 0 0 ∷ get_or l 1 0 ∷ get_or l 2 0 ∷ get_or l 3 0 ∷ get_or l 4 0 ∷ length rs ∷ t) e

-- all records fit
pub whole_track : (l rest : List ℕ) (mid new : TrackFormat) → 6 ≤ length l → get_or l 5 0 < 256 → mid.home ≡ home_in l
    → ReadRecords mid new (get_or l 5 0) (drop 6 l) true rest → IsGood new × (l ≡ track_bytes new ++ rest)
whole_track l rest mid new le small home h =
    let held = h.held refl in
    let same : track_with (home_in l) h.records ≡ new =
    ap (λ x. track_with x h.records) (sym (h.home ∙ home)) ∙ ap (λ x. track_with new.home x) (sym held.0) in
    let spelled : IsSpelled (track_with (home_in l) h.records) = spelled_with l h.records h.count_is small h.spelled in
    let good : IsGood (track_with (home_in l) h.records) = record { spelled = spelled; fits = held.1 } in (
      subst IsGood same good,
      spelled_bytes l h.records rest le h.count_is h.whole
          ∙ ap (λ t. track_bytes t ++ rest) same,
    )

-- not all records fit
pub full_track : (l rest : List ℕ) (mid new : TrackFormat) → 6 ≤ length l → get_or l 5 0 < 256
    → ReadRecords mid new (get_or l 5 0) (drop 6 l) false rest → IsFullTrack l
full_track l rest mid new le small h =
    record {
      track = track_with (home_in l) h.records;
      rest = rest;
      spelled = spelled_with l h.records h.count_is small h.spelled;
      full = h.full refl;
      whole = spelled_bytes l h.records rest le h.count_is h.whole;
    }

abbrev no_content : Record
no_content = record_with (0 ∷ 0 ∷ 0 ∷ 0 ∷ 0 ∷ []) [] []

-- the bytes end in a record: records without data would make them a track
pub cut_records : (l : List ℕ) → 6 ≤ length l → get_or l 5 0 < 256 → EndsInRecord (get_or l 5 0) (drop 6 l)
    → IsCutTrack l
cut_records l le small e =
    let missing : ℕ = get_or l 5 0 - (length e.records + 1) in
    let blanks : List Record = replicate missing no_content in
    let tail : List Record = e.cut.there ∷ blanks in
    let more : List ℕ = e.cut.more ++ records_bytes blanks in
    let count : length (e.records ++ tail) ≡ get_or l 5 0 = omega
    (arith, length-append e.records tail, length-replicate {A = Record} missing no_content, e.fewer) in
    let plain : IsSpelledRecord no_content = record { id = refl; key = omega arith; content = omega arith } in
    let spelled : All IsSpelledRecord (e.records ++ tail) =
    All-append IsSpelledRecord e.records tail e.spelled (All-cons IsSpelledRecord e.cut.there blanks e.cut.spelled
    (All-replicate IsSpelledRecord missing no_content plain)) in
    let bytes : drop 6 l ++ more ≡ records_bytes (e.records ++ tail) =
    ap (λ x. x ++ more) e.whole
    ∙ append_assoc (records_bytes e.records) e.rest more
    ∙ ap (λ x. records_bytes e.records ++ x) (sym (append_assoc e.rest e.cut.more (records_bytes blanks)))
    ∙ ap (λ x. records_bytes e.records ++ (x ++ records_bytes blanks)) e.cut.whole
    ∙ sym (records_append e.records tail) in
    record {
      track = track_with (home_in l) (e.records ++ tail);
      more = more;
      spelled = spelled_with l (e.records ++ tail) count small spelled;
      some = omega (arith, length-append e.cut.more (records_bytes blanks), e.cut.some);
      whole = ap (λ x. x ++ more) (six l le)
          ∙ ap (λ n. get_or l 0 0 ∷ get_or l 1 0 ∷ get_or l 2 0 ∷ get_or l 3 0 ∷ get_or l 4 0 ∷ n ∷ (drop 6 l ++ more))
          (sym count)
          ∙ ap (λ t. get_or l 0 0 ∷ get_or l 1 0 ∷ get_or l 2 0 ∷ get_or l 3 0 ∷ get_or l 4 0 ∷ length
          (e.records ++ tail) ∷ t) bytes;
    }

empty : (a b c d e : ℕ) → IsSpelled (track_with (a ∷ b ∷ c ∷ d ∷ e ∷ []) [])
empty a b c d e = record { home = refl; few = omega arith; records = All-nil IsSpelledRecord }

-- fewer bytes than a home address and a number
pub cut_home : (l : List ℕ) → length l < 6 → IsCutTrack l
cut_home [] lt = record {
  track = track_with (0 ∷ 0 ∷ 0 ∷ 0 ∷ 0 ∷ []) [];
  more = 0 ∷ 0 ∷ 0 ∷ 0 ∷ 0 ∷ 0 ∷ [];
  spelled = empty 0 0 0 0 0;
  some = omega arith;
  whole = refl;
}
cut_home (a ∷ []) lt = record {
  track = track_with (a ∷ 0 ∷ 0 ∷ 0 ∷ 0 ∷ []) [];
  more = 0 ∷ 0 ∷ 0 ∷ 0 ∷ 0 ∷ [];
  spelled = empty a 0 0 0 0;
  some = omega arith;
  whole = refl;
}
cut_home (a ∷ b ∷ []) lt = record {
  track = track_with (a ∷ b ∷ 0 ∷ 0 ∷ 0 ∷ []) [];
  more = 0 ∷ 0 ∷ 0 ∷ 0 ∷ [];
  spelled = empty a b 0 0 0;
  some = omega arith;
  whole = refl;
}
cut_home (a ∷ b ∷ c ∷ []) lt = record {
  track = track_with (a ∷ b ∷ c ∷ 0 ∷ 0 ∷ []) [];
  more = 0 ∷ 0 ∷ 0 ∷ [];
  spelled = empty a b c 0 0;
  some = omega arith;
  whole = refl;
}
cut_home (a ∷ b ∷ c ∷ d ∷ []) lt = record {
  track = track_with (a ∷ b ∷ c ∷ d ∷ 0 ∷ []) [];
  more = 0 ∷ 0 ∷ [];
  spelled = empty a b c d 0;
  some = omega arith;
  whole = refl;
}
cut_home (a ∷ b ∷ c ∷ d ∷ e ∷ []) lt = record {
  track = track_with (a ∷ b ∷ c ∷ d ∷ e ∷ []) [];
  more = 0 ∷ [];
  spelled = empty a b c d e;
  some = omega arith;
  whole = refl;
}
cut_home (a ∷ b ∷ c ∷ d ∷ e ∷ n ∷ t) lt = absurd (omega arith)
