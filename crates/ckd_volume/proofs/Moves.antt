-- Laws of bytes that move in slices.
use Rattle.std.specs.Prelude.{ℕ, zero, suc, ◌+◌, ◌-◌, ◌≡◌, ◌<◌, ◌≤◌, refl, false, true, nat_lt, nat_le, List, [], ◌∷◌}
use Rattle.std.specs.Prelude.{◌++◌, length, take, drop, slice_index}
use Rattle.std.specs.List.{slice_range}
use Rattle.std.proofs.Common.{sym, ◌∙◌, ap, arith, inl, inr, ◌⊎◌, append_assoc, append-nil, length-append}
use Rattle.std.proofs.lemmas.List.{drop_more, get_or_append_left, length-take}
use Rattle.s370_walk.specs.Hardware.{given, after_giving, after_taking}
use Rattle.ckd_volume.specs.declared.parts.PendingCommand.{PendingCommand}
use Rattle.ckd_volume.specs.declared.parts.PendingCommand.TheVariants as jobs
use Rattle.ckd_volume.specs.Front.{Front}
use Rattle.ckd_volume.specs.Write.{is_whole, whole_length, longest}
use Rattle.ckd_volume.specs.Unit.{Disk, disk_machine, keeps, gave, took, is_done}
use Rattle.ckd_volume.specs.Moves.{gave_slice, took_slice, lacks, ready}

below : (m n : ℕ) → m < n → nat_lt m n ≡ true
below m n lt = grind arith

not_below : (m n : ℕ) → n ≤ m → nat_lt m n ≡ false
not_below m n le = grind arith

-- one of two numbers is below the other, or it is not
order : (i j : ℕ) → (i < j) ⊎ (j ≤ i)
order i j = grind arith

-- ---- Bytes that are given

gave_one : (f : Front) → f.given < length f.bytes → gave f ≡ gave_slice f 1
gave_one f lt = rw (below f.given (length f.bytes) lt) refl

slice_more : (bytes : List ℕ) (i n : ℕ) → i < length bytes → slice_range bytes i
    (i + suc n) ≡ slice_index bytes i ∷ slice_range bytes (i + 1) (i + 1 + n)
slice_more bytes i n lt =
    let long : i + suc n - i ≡ suc n = omega arith in
    let short : n ≡ i + 1 + n - (i + 1) = omega arith in
    ap (λ k. take k (drop i bytes)) long ∙ ap (take (suc n)) (drop_more bytes i 0 lt)
    ∙ ap (λ k. slice_index bytes i ∷ take k (drop (i + 1) bytes)) short

slice_none : (bytes : List ℕ) (i : ℕ) → [] ≡ slice_range bytes i (i + 0)
slice_none bytes i = let none : 0 ≡ i + 0 - i = omega arith in ap (λ k. take k (drop i bytes)) none

-- What the disk gives is a slice of its buffer.
pub given_slice : (d : Disk) (n : ℕ) → d.front.given + n ≤ length d.front.bytes
    → given disk_machine d n ≡ slice_range d.front.bytes d.front.given (d.front.given + n)
given_slice d zero le = slice_none d.front.bytes d.front.given
given_slice d (suc n) le =
    let more : d.front.given < length d.front.bytes = omega arith in
    let rest : d.front.given + 1 + n ≤ length d.front.bytes = omega arith in
    ap (λ f. slice_index d.front.bytes d.front.given ∷ given disk_machine (keeps d f) n) (gave_one d.front more)
    ∙ ap (λ bs. slice_index d.front.bytes d.front.given ∷ bs) (given_slice (keeps d (gave_slice d.front 1)) n rest)
    ∙ sym (slice_more d.front.bytes d.front.given n more)

-- After giving so many bytes the disk is as many bytes further in its buffer.
pub after_giving_slice : (d : Disk) (n : ℕ) → d.front.given + n ≤ length d.front.bytes
    → after_giving disk_machine d n ≡ keeps d (gave_slice d.front n)
after_giving_slice d zero le =
    let with : ℕ → Disk = λ k. keeps d (record (d.front) { given = k }) in
    let none : d.front.given ≡ d.front.given + 0 = omega arith in
    ap with none
after_giving_slice d (suc n) le =
    let with : ℕ → Disk = λ k. keeps d (record (d.front) { given = k }) in
    let more : d.front.given < length d.front.bytes = omega arith in
    let rest : d.front.given + 1 + n ≤ length d.front.bytes = omega arith in
    let all : d.front.given + 1 + n ≡ d.front.given + suc n = omega arith in
    ap (λ f. after_giving disk_machine (keeps d f) n) (gave_one d.front more)
    ∙ after_giving_slice (keeps d (gave_slice d.front 1)) n rest
    ∙ ap with all

-- ---- Bytes that are taken

took_one : (f : Front) (b : ℕ) → length f.bytes < longest → took f b ≡ record f { bytes = f.bytes ++ b ∷ [] }
took_one f b lt = rw (below (length f.bytes) longest lt) refl

took_none : (f : Front) (b : ℕ) → longest ≤ length f.bytes → took f b ≡ f
took_none f b le = rw (not_below (length f.bytes) longest le) refl

-- one byte, and then others, as far as there is room
room_more : (xs bs : List ℕ) (b : ℕ) → length xs < longest → (xs ++ b ∷ []) ++ take
    (longest - length (xs ++ b ∷ [])) bs ≡ xs ++ take (longest - length xs) (b ∷ bs)
room_more xs bs b lt =
    let less : longest - length (xs ++ b ∷ []) ≡ longest - length xs - 1 = omega (arith, length-append xs (b ∷ [])) in
    let one : longest - length xs ≡ suc (longest - length xs - 1) = omega arith in
    append_assoc xs (b ∷ []) (take (longest - length (xs ++ b ∷ [])) bs)
    ∙ ap (λ k. xs ++ b ∷ take k bs) less
    ∙ ap (λ k. xs ++ take k (b ∷ bs)) (sym one)

room_none : (xs bs : List ℕ) → longest ≤ length xs → xs ++ take (longest - length xs) bs ≡ xs
room_none xs bs le = let none : longest - length xs ≡ 0 = omega arith in ap (λ k. xs ++ take k bs) none ∙ append-nil xs

-- After taking bytes the disk has them in its buffer.
pub after_taking_slice : (d : Disk) (bytes : List ℕ) → after_taking disk_machine d bytes ≡ keeps d
    (took_slice d.front bytes)
after_taking_slice d [] =
    let with : List ℕ → Disk = λ bs. keeps d (record (d.front) { bytes = bs }) in
    ap with (sym (take_nothing (longest - length d.front.bytes) d.front.bytes))
  where
    take_nothing : (k : ℕ) (xs : List ℕ) → xs ++ take k [] ≡ xs
    take_nothing zero xs = append-nil xs
    take_nothing (suc k) xs = append-nil xs
after_taking_slice d (b ∷ bs) =
    elim (order (length d.front.bytes) longest) [
      | inl lt ↦ (ap (λ f. after_taking disk_machine (keeps d f) bs) (took_one d.front b lt)
          ∙ after_taking_slice (with (d.front.bytes ++ b ∷ [])) bs
          ∙ ap with (room_more d.front.bytes bs b lt))
      | inr le ↦ (ap (λ f. after_taking disk_machine (keeps d f) bs) (took_none d.front b le)
          ∙ after_taking_slice d bs
          ∙ ap with (room_none d.front.bytes bs le ∙ sym (room_none d.front.bytes (b ∷ bs) le)))
    ]
  where
    with : List ℕ → Disk
    with bs = keeps d (record (d.front) { bytes = bs })

-- ---- How far it is from being done

at_most : (m n : ℕ) → m ≤ n → nat_le m n ≡ true
at_most m n le = grind arith

not_at_most : (m n : ℕ) → n < m → nat_le m n ≡ false
not_at_most m n lt = grind arith

same_done : (f : Front) (k : ℕ) (job : PendingCommand) → is_done (record f { given = k }) job ≡ is_done f job
same_done f k jobs.Nothing = refl
same_done f k (jobs.Give status) = refl
same_done f k jobs.SetMask = refl
same_done f k jobs.Seek = refl
same_done f k jobs.SearchHome = refl
same_done f k (jobs.SearchId comparison i) = refl
same_done f k (jobs.SearchKey i) = refl
same_done f k (jobs.WriteData i) = refl
same_done f k (jobs.WriteBoth i) = refl
same_done f k (jobs.WriteRecord i) = refl

gave_none : (f : Front) → length f.bytes ≤ f.given → gave f ≡ f
gave_none f le = rw (not_below f.given (length f.bytes) le) refl

-- A command that is not done is not done by giving bytes.
pub done_giving : (d : Disk) (n : ℕ) → is_done d.front d.front.job ≡ false
    → disk_machine.done (after_giving disk_machine d n) ≡ false
done_giving d zero going = going
done_giving d (suc n) going =
    elim (order d.front.given (length d.front.bytes)) [
      | inl lt ↦ (ap (λ f. disk_machine.done (after_giving disk_machine (keeps d f) n)) (gave_one d.front lt)
          ∙ done_giving (keeps d (gave_slice d.front 1)) n (same_done d.front (d.front.given + 1) d.front.job ∙ going))
      | inr le ↦ (ap (λ f. disk_machine.done (after_giving disk_machine (keeps d f) n)) (gave_none d.front le)
          ∙ done_giving d n going)
    ]

lacks_short : (bytes : List ℕ) → length bytes < 8 → lacks bytes ≡ 8 - length bytes
lacks_short bytes lt = rw (below (length bytes) 8 lt) refl

lacks_long : (bytes : List ℕ) → 8 ≤ length bytes → lacks bytes ≡ whole_length bytes - length bytes
lacks_long bytes le = rw (not_below (length bytes) 8 le) refl

-- the first eight bytes say how many there are
whole_told : (xs ys : List ℕ) → 8 ≤ length xs → whole_length (xs ++ ys) ≡ whole_length xs
whole_told xs ys le =
    let five : slice_index (xs ++ ys) 5 ≡ slice_index xs 5 = get_or_append_left xs ys 0 5 (omega arith) in
    let six : slice_index (xs ++ ys) 6 ≡ slice_index xs 6 = get_or_append_left xs ys 0 6 (omega arith) in
    let seven : slice_index (xs ++ ys) 7 ≡ slice_index xs 7 = get_or_append_left xs ys 0 7 (omega arith) in
    omega (arith, five, six, seven)

not_whole : (xs ys : List ℕ) → length ys < lacks xs → is_whole (xs ++ ys) ≡ false
not_whole xs ys few =
    elim (order (length xs) 8) [
      | inl lt ↦ (let short : nat_le 8 (length (xs ++ ys)) ≡ false = not_at_most 8 (length (xs ++ ys))
          (omega (arith, length-append xs ys, lacks_short xs lt)) in rw short refl)
      | inr le ↦ (let long : nat_le 8 (length (xs ++ ys)) ≡ true = at_most 8 (length (xs ++ ys))
          (omega (arith, length-append xs ys)) in
          let more : nat_le (whole_length (xs ++ ys)) (length (xs ++ ys)) ≡ false
          = not_at_most (whole_length (xs ++ ys)) (length (xs ++ ys))
          (omega (arith, length-append xs ys, lacks_long xs le, whole_told xs ys le)) in
          rw (long, more) refl)
    ]

-- A command that is not done is not done before its last byte is taken.
pub done_taking : (d : Disk) (bytes : List ℕ) → is_done d.front d.front.job ≡ false
    → length bytes < ready d.front d.front.job → disk_machine.done (after_taking disk_machine d bytes) ≡ false
done_taking d bytes going few =
    ap disk_machine.done (after_taking_slice d bytes) ∙ still d.front d.front.job going few
  where
    still : (f : Front) (job : PendingCommand) → is_done f job ≡ false → length bytes < ready f job
        → is_done (took_slice f bytes) job ≡ false
    still f jobs.Nothing e lt = refl
    still f (jobs.Give status) e lt = refl
    still f jobs.SetMask e lt = refl
    still f jobs.Seek e lt = refl
    still f jobs.SearchHome e lt = refl
    still f (jobs.SearchId comparison i) e lt = refl
    still f (jobs.SearchKey i) e lt = refl
    still f (jobs.WriteData i) e lt = refl
    still f (jobs.WriteBoth i) e lt = refl
    still f (jobs.WriteRecord i) e lt = not_whole f.bytes (take (longest - length f.bytes) bytes)
        (omega (arith, length-take (longest - length f.bytes) bytes))
