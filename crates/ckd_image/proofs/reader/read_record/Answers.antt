use Rattle.std.proofs.Common.{◌≡◌, ◌<◌, ◌≤◌, ◌+◌, ◌-◌, ◌*◌, [], ◌∷◌, length, take, drop, get_or, ℕ, List, sym, ap, ◌∙◌}
use Rattle.std.proofs.Common.{subst, arith, length-drop, drop-drop}
use Rattle.std.proofs.lemmas.List.{take_rest}
use Rattle.ckd_image.specs.Parts.{BeginsRecord, IsCutRecord, record_with}
use Rattle.ckd_image.proofs.Records.{eight, word_at, begins, split_body, cut_body, cut_count}
use Rattle.ckd_image.proofs.reader.read_record.Goals as goal

pub returns-then-bytes-lt8-clause-none : goal.returns-then-bytes-lt8-clause-none
returns-then-bytes-lt8-clause-none c = cut_count c.args.bytes.now
    (λ i. omega (arith, c.type_inv.bytes i)) c.if-bytes-lt8.true

pub returns-then-bytes-end-clause-none : goal.returns-then-bytes-end-clause-none
returns-then-bytes-end-clause-none c =
    let l = c.args.bytes.now in
    let long : 8 ≤ length l = omega (arith, c.if-bytes-lt8.false) in
    let content : c.from-content.result ≡ 256 * get_or l 6 0 + get_or l 7 0 = c.from-content.ensures
    ∙ (c.read_u16.ensures ∙ word_at l long) in
    let short : length (drop 8 l) < get_or l 5 0 + (256 * get_or l 6 0 + get_or l 7 0) = omega
    (arith, length-drop 8 l, c.from-key.ensures, content, c.if-bytes-end.true) in
    subst IsCutRecord (sym (eight l long))
    (cut_body (get_or l 0 0) (get_or l 1 0) (get_or l 2 0) (get_or l 3 0) (get_or l 4 0) (get_or l 5 0) (get_or l 6 0)
    (get_or l 7 0) (drop 8 l)
    (omega (arith, c.type_inv.bytes 5)) (omega (arith, c.type_inv.bytes 6)) (omega (arith, c.type_inv.bytes 7)) short)

found : (l : List ℕ) (key content : ℕ) → ((i : ℕ) → get_or l i 0 < 256) → 8 ≤ length l → 8 + key + content ≤ length l
    → key ≡ get_or l 5 0 → content ≡ 256 * get_or l 6 0 + get_or l 7 0
    → BeginsRecord l (record_with (get_or l 0 0 ∷ get_or l 1 0 ∷ get_or l 2 0 ∷ get_or l 3 0 ∷ get_or l 4 0 ∷ [])
    (take (8 + key - 8) (drop 8 l)) (take (8 + key + content - (8 + key)) (drop (8 + key) l)))
    (take (length l - (8 + key + content)) (drop (8 + key + content) l))
found l key content small long end key_is content_is =
    let k : 8 + key - 8 ≡ key = omega arith in
    let n : 8 + key + content - (8 + key) ≡ content = omega arith in
    let e : 8 + key + content ≡ 8 + (key + content) = omega arith in
    let id = get_or l 0 0 ∷ get_or l 1 0 ∷ get_or l 2 0 ∷ get_or l 3 0 ∷ get_or l 4 0 ∷ [] in
    let parts = split_body (drop 8 l) key content (omega (arith, length-drop 8 l)) in
    let begun : BeginsRecord l (record_with id (take key (drop 8 l)) (take content (drop key (drop 8 l))))
    (drop (key + content) (drop 8 l)) =
    subst (λ x. BeginsRecord x (record_with id (take key (drop 8 l)) (take content (drop key (drop 8 l))))
    (drop (key + content) (drop 8 l))) (sym (eight l long))
    (begins (get_or l 0 0) (get_or l 1 0) (get_or l 2 0) (get_or l 3 0) (get_or l 4 0) (get_or l 5 0) (get_or l 6 0)
    (get_or l 7 0) (drop 8 l)
    (take key (drop 8 l)) (take content (drop key (drop 8 l))) (drop (key + content) (drop 8 l))
    (small 5) (small 6) (small 7) (parts.1 ∙ key_is) (parts.2 ∙ content_is) parts.0) in
    let one = subst (λ i. BeginsRecord l (record_with id (take i (drop 8 l)) (take content (drop key (drop 8 l))))
    (drop (key + content) (drop 8 l))) (sym k) begun in
    let two = subst (λ d. BeginsRecord l (record_with id (take (8 + key - 8) (drop 8 l)) (take content d))
    (drop (key + content) (drop 8 l))) (drop-drop key 8 l) one in
    let three = subst (λ i. BeginsRecord l (record_with id (take (8 + key - 8) (drop 8 l)) (take i (drop (8 + key) l)))
    (drop (key + content) (drop 8 l))) (sym n) two in
    subst (λ d. BeginsRecord l (record_with id (take (8 + key - 8) (drop 8 l))
    (take (8 + key + content - (8 + key)) (drop (8 + key) l))) d)
    (drop-drop (key + content) 8 l ∙ ap (λ i. drop i l) (sym e) ∙ sym (take_rest l (8 + key + content))) three

pub returns-clause-some : goal.returns-clause-some
returns-clause-some c =
    let l = c.args.bytes.now in
    let long : 8 ≤ length l = omega (arith, c.if-bytes-lt8.false) in
    found l c.from-key.result c.from-content.result (λ i. omega (arith, c.type_inv.bytes i)) long
    (omega (arith, c.if-bytes-end.false)) c.from-key.ensures
    (c.from-content.ensures ∙ (c.read_u16.ensures ∙ word_at l long))
