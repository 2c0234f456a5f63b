-- Laws of how a track lies in memory.
use Rattle.std.specs.Prelude.{ℕ, zero, suc, ◌+◌, ◌-◌, ◌*◌, ◌≡◌, ◌<◌, ◌≤◌, refl, List, [], ◌∷◌, ◌++◌, length, take, drop}
use Rattle.std.specs.Prelude.{slice_index_or, slice_set}
use Rattle.std.proofs.Common.{sym, ◌∙◌, ap, arith}
use Rattle.std.proofs.lemmas.List.{length-append, length-drop, drop-drop, take-take, drop-take, take-append-le}
use Rattle.std.proofs.lemmas.List.{drop-append-le, length-take-le, take_all}
use Rattle.std.proofs.Math.Seq.{drop-append_seam, take-append_seam, take-length}
use Rattle.std.proofs.lemmas.Slice.{take-put_mid_below, drop-put_mid}
use borrow.Rule.Slice.PartMut.{put_mid}
use Rattle.ckd_track.specs.declared.entry.CountArea.{CountArea}
use Rattle.ckd_track.specs.Track.{Record, cost, record_cost, no_record, capacity}
use Rattle.ckd_track.specs.Laid.{total, total_cost, record_of, records_of, IsLaid, no_entry, entry_at}

-- what a record costs holds its bytes
pub cost_holds : (key content : ℕ) → 135 + key + content ≤ record_cost key content + 0
cost_holds key content = grind arith

-- Each record costs 135 bytes more than it has, at least.
pub total_fits : (es : List CountArea) → total es + 135 * length es ≤ total_cost es
total_fits [] = omega arith
total_fits (e ∷ es) = omega (arith, total_fits es, cost_holds e.key e.content)

-- The first records have no more bytes than all.
pub total_take : (es : List CountArea) (i : ℕ) → total (take i es) ≤ total es
total_take es zero = omega arith
total_take [] (suc i) = omega arith
total_take (e ∷ es) (suc i) = omega (arith, total_take es i)

-- The first records cost no more than all.
pub cost_take : (es : List CountArea) (i : ℕ) → total_cost (take i es) ≤ total_cost es
cost_take es zero = omega arith
cost_take [] (suc i) = omega arith
cost_take (e ∷ es) (suc i) = omega (arith, cost_take es i)

-- the record at i ends within all
pub total_at : (es : List CountArea) (i : ℕ) (d : CountArea) → i < length es
    → total (take i es) + ((slice_index_or es i d).key + (slice_index_or es i d).content) ≤ total es
total_at [] i d lt = absurd (omega arith)
total_at (e ∷ es) zero d lt = omega arith
total_at (e ∷ es) (suc i) d lt = let less : i < length es = omega arith in omega (arith, total_at es i d less)

pub total_append : (es : List CountArea) (e : CountArea) → total (es ++ e ∷ []) ≡ total es + (e.key + e.content)
total_append [] e = omega arith
total_append (f ∷ es) e = omega (arith, total_append es e)

pub cost_append : (es : List CountArea) (e : CountArea) → total_cost
    (es ++ e ∷ []) ≡ total_cost es + record_cost e.key e.content
cost_append [] e = omega arith
cost_append (f ∷ es) e = omega (arith, cost_append es e)

-- There are as many records as count areas.
pub length_records : (es : List CountArea) (area : List ℕ) → length (records_of es area) ≡ length es
length_records [] area = refl
length_records (e ∷ es) area = ap (λ n. suc n) (length_records es (drop (e.key + e.content) area))

rest_total : (area : List ℕ) (k n : ℕ) → length area ≡ k + n → length (drop k area) ≡ n
rest_total area k n e = omega (arith, length-drop k area)

pub cost_records : (es : List CountArea) (area : List ℕ) → length area ≡ total es
    → cost (records_of es area) ≡ total_cost es
cost_records [] area e = refl
cost_records (e ∷ es) area whole =
    let key : length (take e.key area) ≡ e.key = length-take-le e.key area (omega (arith, whole)) in
    let room : e.content ≤ length (drop e.key area) = omega (arith, whole, length-drop e.key area) in
    let content : length (take e.content (drop e.key area)) ≡ e.content = length-take-le e.content
    (drop e.key area) room in
    let rest : cost (records_of es (drop (e.key + e.content) area)) ≡ total_cost es = cost_records es
    (drop (e.key + e.content) area) (rest_total area (e.key + e.content) (total es) whole) in
    rw (key, content, rest) refl

pub records_take : (es : List CountArea) (area : List ℕ) (i : ℕ)
    → take i (records_of es area) ≡ records_of (take i es) area
records_take es area zero = refl
records_take [] area (suc i) = refl
records_take (e ∷ es) area (suc i) = ap (λ rs. record_of e area ∷ rs)
    (records_take es (drop (e.key + e.content) area) i)

same_record : (e : CountArea) (s t : List ℕ) → take e.key s ≡ take e.key t
    → take e.content (drop e.key s) ≡ take e.content (drop e.key t) → record_of e s ≡ record_of e t
same_record e s t key content = ap (λ k. record { id = e.id; key = k; content = take e.content (drop e.key s) }) key
    ∙ ap (λ c. record { id = e.id; key = take e.key t; content = c }) content

both_same : (r s : Record) (rs ss : List Record) → r ≡ s → rs ≡ ss → r ∷ rs ≡ s ∷ ss
both_same r s rs ss a b = ap (λ x. x ∷ rs) a ∙ ap (λ xs. s ∷ xs) b

drop_cut : (k n : ℕ) (area : List ℕ) → k ≤ n → drop k (take n area) ≡ take (n - k) (drop k area)
drop_cut k n area le = let split : n ≡ k + (n - k) = omega arith in ap (λ m. drop k (take m area)) split
    ∙ drop-take k (n - k) area

-- bytes past those of the records do not matter
pub records_cut : (es : List CountArea) (area : List ℕ) (n : ℕ) → total es ≤ n
    → records_of es (take n area) ≡ records_of es area
records_cut [] area n le = refl
records_cut (e ∷ es) area n le =
    let key : take e.key (take n area) ≡ take e.key area = take-take e.key n area (omega arith) in
    let content : take e.content (drop e.key (take n area)) ≡ take e.content (drop e.key area)
    = ap (take e.content) (drop_cut e.key n area (omega arith))
    ∙ take-take e.content (n - e.key) (drop e.key area) (omega arith) in
    let rest : records_of es (drop (e.key + e.content) (take n area)) ≡ records_of es (drop (e.key + e.content) area)
    = ap (records_of es) (drop_cut (e.key + e.content) n area (omega arith))
    ∙ records_cut es (drop (e.key + e.content) area) (n - (e.key + e.content)) (omega arith) in
    both_same (record_of e (take n area)) (record_of e area) (records_of es (drop (e.key + e.content) (take n area)))
    (records_of es (drop (e.key + e.content) area)) (same_record e (take n area) area key content) rest

-- a record after all others
pub records_append : (es : List CountArea) (area : List ℕ) (e : CountArea) (more : List ℕ) → length area ≡ total es
    → records_of (es ++ e ∷ []) (area ++ more) ≡ records_of es area ++ record_of e more ∷ []
records_append [] [] e more whole = refl
records_append [] (b ∷ bs) e more whole = absurd (omega (arith, whole))
records_append (f ∷ es) area e more whole =
    let size : ℕ = f.key + f.content in
    let key : take f.key (area ++ more) ≡ take f.key area = take-append-le f.key area more (omega (arith, whole)) in
    let room : f.content ≤ length (drop f.key area) = omega (arith, whole, length-drop f.key area) in
    let content : take f.content (drop f.key (area ++ more)) ≡ take f.content (drop f.key area)
    = ap (take f.content) (drop-append-le f.key area more (omega (arith, whole)))
    ∙ take-append-le f.content (drop f.key area) more room in
    let rest : records_of (es ++ e ∷ []) (drop (f.key + f.content) (area ++ more)) ≡ records_of es
    (drop (f.key + f.content) area) ++ record_of e more ∷ []
    = ap (records_of (es ++ e ∷ [])) (drop-append-le (f.key + f.content) area more (omega (arith, whole)))
    ∙ records_append es (drop (f.key + f.content) area) e more (rest_total area (f.key + f.content) (total es) whole) in
    both_same (record_of f (area ++ more)) (record_of f area)
    (records_of (es ++ e ∷ []) (drop (f.key + f.content) (area ++ more)))
    (records_of es (drop (f.key + f.content) area) ++ record_of e more ∷ [])
    (same_record f (area ++ more) area key content) rest

-- the record at i
pub record_here : (es : List CountArea) (area : List ℕ) (i : ℕ) (d : CountArea) → i < length es
    → slice_index_or (records_of es area) i no_record ≡ record_of (slice_index_or es i d)
    (drop (total (take i es)) area)
record_here [] area i d lt = absurd (omega arith)
record_here (e ∷ es) area zero d lt = refl
record_here (e ∷ es) area (suc i) d lt =
    record_here es (drop (e.key + e.content) area) i d (omega arith)
    ∙ ap (record_of (slice_index_or es i d)) (drop-drop (total (take i es)) (e.key + e.content) area)

-- The key of a record lies from its start to its middle.
pub key_here : (es : List CountArea) (area : List ℕ) (i start middle : ℕ) → i < length es → start ≡ total (take i es)
    → middle ≡ start + (entry_at es i).key
    → take (middle - start) (drop start area) ≡ (slice_index_or (records_of es area) i no_record).key
key_here es area i start middle lt first second =
    let long : middle - start ≡ (entry_at es i).key = omega (arith, second) in
    ap (λ n. take n (drop start area)) long ∙ ap (λ n. take (entry_at es i).key (drop n area)) first
    ∙ ap (λ (r : Record). r.key) (sym (record_here es area i no_entry lt))

-- The data of a record lies from its middle to its end.
pub content_here : (es : List CountArea) (area : List ℕ) (i start middle end : ℕ) → i < length es
    → start ≡ total (take i es) → middle ≡ start + (entry_at es i).key → end ≡ middle + (entry_at es i).content
    → take (end - middle) (drop middle area) ≡ (slice_index_or (records_of es area) i no_record).content
content_here es area i start middle end lt first second third =
    let long : end - middle ≡ (entry_at es i).content = omega (arith, third) in
    let from : middle ≡ total (take i es) + (entry_at es i).key = omega (arith, first, second) in
    ap (λ n. take n (drop middle area)) long ∙ ap (λ n. take (entry_at es i).content (drop n area)) from
    ∙ ap (take (entry_at es i).content) (sym (drop-drop (entry_at es i).key (total (take i es)) area))
    ∙ ap (λ (r : Record). r.content) (sym (record_here es area i no_entry lt))

-- The id of a record is that of its count area.
pub id_here : (es : List CountArea) (area : List ℕ) (i : ℕ) → i < length es
    → (entry_at es i).id ≡ (slice_index_or (records_of es area) i no_record).id
id_here es area i lt = ap (λ (r : Record). r.id) (sym (record_here es area i no_entry lt))

-- What the parts of a track are after a write after its first i records.
pub after_laid : (es : List CountArea) (area : List ℕ) (i : ℕ) (e : CountArea) (key content : List ℕ) → IsLaid es area
    → total_cost (take i es) + record_cost e.key e.content ≤ capacity → length key ≡ e.key → length content ≡ e.content
    → IsLaid (take i es ++ e ∷ []) (take (total (take i es)) area ++ (key ++ content))
after_laid es area i e key content laid room one two =
    let cut : length (take (total (take i es)) area) ≡ total (take i es) = length-take-le (total (take i es)) area
    (omega (arith, laid.whole, total_take es i)) in
    record {
      whole = omega (
        arith,
        total_append (take i es) e,
        cut,
        one,
        two,
        length-append (take (total (take i es)) area) (key ++ content),
        length-append key content,
      );
      fits = omega (arith, cost_append (take i es) e, room);
    }

record_after : (e : CountArea) (key content : List ℕ) → length key ≡ e.key → length content ≡ e.content
    → record_of e (key ++ content) ≡ record { id = e.id; key = key; content = content }
record_after e key content one two =
    let first : take e.key (key ++ content) ≡ key = ap (λ n. take n (key ++ content)) (sym one)
    ∙ take-append_seam key content in
    let second : take e.content (drop e.key (key ++ content)) ≡ content
    = ap (λ n. take e.content (drop n (key ++ content))) (sym one) ∙ ap (take e.content) (drop-append_seam key content)
    ∙ ap (λ n. take n content) (sym two) ∙ take-length content in
    ap (λ k. record { id = e.id; key = k; content = take e.content (drop e.key (key ++ content)) }) first
    ∙ ap (λ d. record { id = e.id; key = key; content = d }) second

-- A record that is written after others follows them, with all later ones gone.
pub after_records : (es : List CountArea) (area : List ℕ) (i : ℕ) (e : CountArea) (key content : List ℕ)
    → IsLaid es area → length key ≡ e.key → length content ≡ e.content
    → records_of (take i es ++ e ∷ []) (take (total (take i es)) area ++ (key ++ content)) ≡ take i
    (records_of es area) ++ (record { id = e.id; key = key; content = content }) ∷ []
after_records es area i e key content laid one two =
    let cut : length (take (total (take i es)) area) ≡ total (take i es) = length-take-le (total (take i es)) area
    (omega (arith, laid.whole, total_take es i)) in
    let same : total (take i es) ≤ total (take i es) = omega arith in
    records_append (take i es) (take (total (take i es)) area) e (key ++ content) cut
    ∙ ap (λ rs. rs ++ record_of e (key ++ content) ∷ []) (records_cut (take i es) area (total (take i es)) same
    ∙ sym (records_take es area i))
    ∙ ap (λ r. take i (records_of es area) ++ r ∷ []) (record_after e key content one two)

-- what the first i records cost
pub cost_of_first : (es : List CountArea) (area : List ℕ) (i : ℕ) → IsLaid es area
    → cost (take i (records_of es area)) ≡ total_cost (take i es)
cost_of_first es area i laid =
    let cut : length (take (total (take i es)) area) ≡ total (take i es) = length-take-le (total (take i es)) area
    (omega (arith, laid.whole, total_take es i)) in
    let same : total (take i es) ≤ total (take i es) = omega arith in
    ap cost (records_take es area i ∙ sym (records_cut (take i es) area (total (take i es)) same))
    ∙ cost_records (take i es) (take (total (take i es)) area) cut

-- entries have room for one more, and the bytes for those of a record that fits
pub room_for_entry : (es : List CountArea) (i key content : ℕ)
    → total_cost (take i es) + record_cost key content ≤ capacity → i ≤ length es → i < 97
room_for_entry es i key content room le =
    let short : length (take i es) ≡ i = length-take-le i es le in
    omega (arith, total_fits (take i es), cost_holds key content, short, room)

-- A record that fits on the track has room in the area.
pub room_for_text : (es : List CountArea) (i key content : ℕ)
    → total_cost (take i es) + record_cost key content ≤ capacity → total (take i es) + (key + content) ≤ 13030
room_for_text es i key content room = omega (arith, total_fits (take i es), cost_holds key content, room)

-- A write inside one record.
drop_put_below : (n a k : ℕ) (xs ys : List ℕ) → n + a ≤ length xs
    → drop n (put_mid (n + a) k xs ys) ≡ put_mid a k (drop n xs) ys
drop_put_below n a k xs ys le =
    let long : length (take (n + a) xs) ≡ n + a = length-take-le (n + a) xs le in
    drop-append-le n (take (n + a) xs) (ys ++ drop k (drop (n + a) xs)) (omega (arith, long))
    ∙ ap (λ l. l ++ (ys ++ drop k (drop (n + a) xs))) (drop-take n a xs)
    ∙ ap (λ l. take a (drop n xs) ++ (ys ++ drop k l)) (sym (drop-drop a n xs))

put_at : (a b k : ℕ) (xs ys : List ℕ) → a ≡ b → put_mid a k xs ys ≡ put_mid b k xs ys
put_at a b k xs ys e = ap (λ n. put_mid n k xs ys) e

same_kept : (e : CountArea) (a k : ℕ) (area new : List ℕ) → e.key + e.content ≤ a → a ≤ length area
    → record_of e (put_mid a k area new) ≡ record_of e area
same_kept e a k area new past room =
    let split : a ≡ e.key + (a - e.key) = omega arith in
    let key : take e.key (put_mid a k area new) ≡ take e.key area = take-put_mid_below a k area new e.key
    (omega arith) room in
    let content : take e.content (drop e.key (put_mid a k area new)) ≡ take e.content (drop e.key area)
    = ap (λ l. take e.content (drop e.key l)) (put_at a (e.key + (a - e.key)) k area new split)
    ∙ ap (take e.content) (drop_put_below e.key (a - e.key) k area new (omega arith))
    ∙ take-put_mid_below (a - e.key) k (drop e.key area) new e.content (omega arith)
    (omega (arith, length-drop e.key area)) in
    same_record e (put_mid a k area new) area key content

pub records_put : (es : List CountArea) (area : List ℕ) (i o k : ℕ) (new : List ℕ) → length area ≡ total es
    → i < length es → o + k ≤ (entry_at es i).key + (entry_at es i).content → length new ≡ k
    → records_of es (put_mid (total (take i es) + o) k area new) ≡ slice_set (records_of es area) i
    (record_of (entry_at es i) (put_mid o k (drop (total (take i es)) area) new))
records_put [] area i o k new whole lt within long = absurd (omega arith)
records_put (e ∷ es) area zero o k new whole lt within long =
    let none : 0 + o ≡ o = omega arith in
    ap (λ n. records_of (e ∷ es) (put_mid n k area new)) none
    ∙ ap (λ l. record_of e (put_mid o k area new) ∷ records_of es l)
    (drop-put_mid o k area new (e.key + e.content) within (omega (arith, whole)) long)
records_put (e ∷ es) area (suc i) o k new whole lt within long =
    let less : i < length es = omega arith in
    let at : total (take i es) + ((entry_at es i).key + (entry_at es i).content) ≤ total es = total_at es i no_entry
    less in
    let split : (e.key + e.content + total (take i es)) + o ≡ (e.key + e.content) +
    (total (take i es) + o) = omega arith in
    let kept : record_of e (put_mid ((e.key + e.content + total (take i es)) + o) k area new) ≡ record_of e area
    = same_kept e ((e.key + e.content + total (take i es)) + o) k area new (omega arith) (omega (arith, whole, at)) in
    let rest : records_of es (drop (e.key + e.content) (put_mid
    ((e.key + e.content + total (take i es)) + o) k area new)) ≡ slice_set
    (records_of es (drop (e.key + e.content) area)) i (record_of (entry_at es i)
    (put_mid o k (drop (e.key + e.content + total (take i es)) area) new))
    = ap (λ n. records_of es (drop (e.key + e.content) (put_mid n k area new))) split
    ∙ ap (records_of es) (drop_put_below (e.key + e.content) (total (take i es) + o) k area new
    (omega (arith, whole, at)))
    ∙ records_put es (drop (e.key + e.content) area) i o k new
    (rest_total area (e.key + e.content) (total es) whole) less within long
    ∙ ap (λ l. slice_set (records_of es (drop (e.key + e.content) area)) i
    (record_of (entry_at es i) (put_mid o k l new))) (drop-drop (total (take i es)) (e.key + e.content) area) in
    both_same (record_of e (put_mid ((e.key + e.content + total (take i es)) + o) k area new)) (record_of e area)
    (records_of es (drop (e.key + e.content) (put_mid ((e.key + e.content + total (take i es)) + o) k area new)))
    (slice_set (records_of es (drop (e.key + e.content) area)) i
    (record_of (entry_at es i) (put_mid o k (drop (e.key + e.content + total (take i es)) area) new))) kept rest

-- The data of a record are written.
pub content_put : (e : CountArea) (area new : List ℕ) → e.key + e.content ≤ length area → length new ≡ e.content
    → record_of e (put_mid e.key e.content area new) ≡ record { id = e.id; key = take e.key area; content = new }
content_put e area new room long =
    let none : e.key ≡ e.key + 0 = omega arith in
    let low : e.key ≤ e.key = omega arith in
    let key : take e.key (put_mid e.key e.content area new) ≡ take e.key area = take-put_mid_below e.key e.content area
    new e.key low (omega arith) in
    let content : take e.content (drop e.key (put_mid e.key e.content area new)) ≡ new
    = ap (λ l. take e.content (drop e.key l)) (put_at e.key (e.key + 0) e.content area new none)
    ∙ ap (take e.content) (drop_put_below e.key 0 e.content area new (omega arith))
    ∙ ap (λ n. take n (new ++ drop e.content (drop 0 (drop e.key area)))) (sym long)
    ∙ take-append_seam new (drop e.content (drop 0 (drop e.key area))) in
    ap (λ l. record { id = e.id; key = l; content = take e.content (drop e.key (put_mid e.key e.content area new)) })
    key
    ∙ ap (λ l. record { id = e.id; key = take e.key area; content = l }) content

-- The data of the record at i are written.
pub records_content : (es : List CountArea) (area : List ℕ) (i start middle : ℕ) (new : List ℕ) → length area ≡ total es
    → i < length es → start ≡ total (take i es) → middle ≡ start + (entry_at es i).key
    → length new ≡ (entry_at es i).content
    → records_of es (put_mid middle (entry_at es i).content area new)
    ≡ slice_set (records_of es area) i (record {
      id = (slice_index_or (records_of es area) i no_record).id;
      key = (slice_index_or (records_of es area) i no_record).key;
      content = new;
    })
records_content es area i start middle new whole lt first second long =
    let at : total (take i es) + ((entry_at es i).key + (entry_at es i).content) ≤ total es = total_at es i no_entry lt
    in
    let place : middle ≡ total (take i es) + (entry_at es i).key = omega (arith, first, second) in
    let within : (entry_at es i).key + (entry_at es i).content ≤ (entry_at es i).key +
    (entry_at es i).content = omega arith in
    ap (λ n. records_of es (put_mid n (entry_at es i).content area new)) place
    ∙ records_put es area i (entry_at es i).key (entry_at es i).content new whole lt within long
    ∙ ap (slice_set (records_of es area) i)
    (content_put (entry_at es i) (drop (total (take i es)) area) new
    (omega (arith, whole, at, length-drop (total (take i es)) area)) long
    ∙ ap (λ (r : Record). record { id = r.id; key = r.key; content = new }) (sym (record_here es area i no_entry lt)))

-- an entry says how long its record's data are
pub content_long : (es : List CountArea) (area : List ℕ) (i : ℕ) → length area ≡ total es → i < length es
    → length (slice_index_or (records_of es area) i no_record).content ≡ (entry_at es i).content
content_long es area i whole lt =
    let at : total (take i es) + ((entry_at es i).key + (entry_at es i).content) ≤ total es = total_at es i no_entry lt
    in
    ap (λ (r : Record). length r.content) (record_here es area i no_entry lt)
    ∙ length-take-le (entry_at es i).content (drop (entry_at es i).key (drop (total (take i es)) area))
    (omega (
      arith,
      whole,
      at,
      length-drop (total (take i es)) area,
      length-drop (entry_at es i).key (drop (total (take i es)) area),
    ))

-- Key and data are written.
pub both_put : (e : CountArea) (area new : List ℕ) → e.key + e.content ≤ length area → length new ≡ e.key + e.content
    → record_of e (put_mid 0 (e.key + e.content) area new) ≡ record {
      id = e.id;
      key = take e.key new;
      content = drop e.key new;
    }
both_put e area new room long =
    let rest : List ℕ = drop (e.key + e.content) area in
    let key : take e.key (put_mid 0 (e.key + e.content) area new) ≡ take e.key new = take-append-le e.key new rest
    (omega (arith, long)) in
    let content : take e.content (drop e.key (put_mid 0 (e.key + e.content) area new)) ≡ drop e.key new
    = ap (take e.content) (drop-append-le e.key new rest (omega (arith, long)))
    ∙ take-append-le e.content (drop e.key new) rest (omega (arith, long, length-drop e.key new))
    ∙ take_all e.content (drop e.key new) (omega (arith, long, length-drop e.key new)) in
    ap (λ l. record {
      id = e.id;
      key = l;
      content = take e.content
          (drop e.key (put_mid 0 (e.key + e.content) area new));
    }) key
    ∙ ap (λ l. record { id = e.id; key = take e.key new; content = l }) content

-- an entry says how long its record's key is
pub key_long : (es : List CountArea) (area : List ℕ) (i : ℕ) → length area ≡ total es → i < length es
    → length (slice_index_or (records_of es area) i no_record).key ≡ (entry_at es i).key
key_long es area i whole lt =
    let at : total (take i es) + ((entry_at es i).key + (entry_at es i).content) ≤ total es = total_at es i no_entry lt
    in
    ap (λ (r : Record). length r.key) (record_here es area i no_entry lt)
    ∙ length-take-le (entry_at es i).key (drop (total (take i es)) area)
    (omega (arith, whole, at, length-drop (total (take i es)) area))

-- Key and data of the record at i are written.
pub records_both : (es : List CountArea) (area : List ℕ) (i start : ℕ) (new : List ℕ) → length area ≡ total es
    → i < length es → start ≡ total (take i es) → length new ≡ (entry_at es i).key + (entry_at es i).content
    → records_of es (put_mid start ((entry_at es i).key + (entry_at es i).content) area new)
    ≡ slice_set (records_of es area) i (record {
      id = (slice_index_or (records_of es area) i no_record).id;
      key = take (length (slice_index_or (records_of es area) i no_record).key) new;
      content = drop (length (slice_index_or (records_of es area) i no_record).key) new;
    })
records_both es area i start new whole lt first long =
    let at : total (take i es) + ((entry_at es i).key + (entry_at es i).content) ≤ total es = total_at es i no_entry lt
    in
    let place : start ≡ total (take i es) + 0 = omega (arith, first) in
    let within : 0 + ((entry_at es i).key + (entry_at es i).content) ≤ (entry_at es i).key +
    (entry_at es i).content = omega arith in
    ap (λ n. records_of es (put_mid n ((entry_at es i).key + (entry_at es i).content) area new)) place
    ∙ records_put es area i 0 ((entry_at es i).key + (entry_at es i).content) new whole lt within long
    ∙ ap (slice_set (records_of es area) i)
    (both_put (entry_at es i) (drop (total (take i es)) area) new
    (omega (arith, whole, at, length-drop (total (take i es)) area)) long
    ∙ ap (λ (l : List ℕ). record { id = l; key = take (entry_at es i).key new; content = drop (entry_at es i).key new })
    (id_here es area i lt)
    ∙ ap (λ (n : ℕ). record {
      id = (slice_index_or (records_of es area) i no_record).id;
      key = take n new;
      content = drop n new;
    }) (sym (key_long es area i whole lt)))

-- one of the entries costs no more than all
pub cost_at : (es : List CountArea) (i : ℕ) → i < length es → record_cost (entry_at es i).key
    (entry_at es i).content ≤ total_cost es
cost_at [] i lt = absurd (omega arith)
cost_at (e ∷ es) zero lt = omega arith
cost_at (e ∷ es) (suc i) lt = let less : i < length es = omega arith in omega (arith, cost_at es i less)

-- a track's entries are few, and their data short
pub few_entries : (es : List CountArea) → total_cost es ≤ capacity → length es ≤ 97
few_entries es fits = omega (arith, total_fits es, fits)

-- A record on a track has at most 13,030 bytes of key and data.
pub short_content : (es : List CountArea) (i : ℕ) → total_cost es ≤ capacity → i < length es
    → (entry_at es i).key + (entry_at es i).content ≤ 13030
short_content es i fits lt = omega (
  arith,
  cost_at es i lt,
  cost_holds (entry_at es i).key (entry_at es i).content,
  fits,
)
