-- What is left of a device after bytes that it took one by one.
use Rattle.std.proofs.Common.{◌≡◌, ℕ, zero, suc, ◌+◌, ◌-◌, ◌<◌, ◌≤◌, true, false, nat_lt, nat_eq, List, [], ◌∷◌, ◌++◌}
use Rattle.std.proofs.Common.{length, take, drop, ap, sym, ◌∙◌, arith, append_assoc, append-nil, length-append}
use Rattle.s370_num.specs.Ebcdic.{printable_of}
use Rattle.s370_walk.specs.Hardware.{after_taking}
use Rattle.unit_record.specs.Punch.{PunchState, punch_machine, punch_took}
use Rattle.unit_record.specs.Printer.{PrinterState, printer_machine, printer_took}
use Rattle.unit_record.specs.Console.{ConsoleState, console_machine, console_took}
use Rattle.unit_record.specs.Laws.{printed}

below : (m n : ℕ) → m < n → nat_lt m n ≡ true
below m n lt = grind arith

one_more : (xs : List ℕ) (x : ℕ) → length (xs ++ x ∷ []) ≡ length xs + 1
one_more xs x = length-append xs (x ∷ [])

punch_took_one : (p : PunchState) (b : ℕ) → length p.card < 80 → punch_took p b ≡ record p { card = p.card ++ b ∷ [] }
punch_took_one p b lt = rw (below (length p.card) 80 lt)

-- A punch that takes at most 80 bytes has them on its card.
pub punch_took_all : (p : PunchState) (bytes : List ℕ) → length p.card + length bytes ≤ 80
    → after_taking punch_machine p bytes ≡ record p { card = p.card ++ bytes }
punch_took_all p [] le = let with : List ℕ
    → PunchState = λ c. record p { card = c } in ap with (sym (append-nil p.card))
punch_took_all p (b ∷ bs) le =
    let with : List ℕ → PunchState = λ c. record p { card = c } in
    let more : length (p.card ++ b ∷ []) ≡ length p.card + 1 = one_more p.card b in
    ap (λ q. after_taking punch_machine q bs) (punch_took_one p b (omega arith))
    ∙ punch_took_all (with (p.card ++ b ∷ [])) bs (omega arith)
    ∙ ap with (append_assoc p.card (b ∷ []) bs)

printer_took_one : (p : PrinterState) (b : ℕ) → length p.line < 132
    → printer_took p b ≡ record p { line = p.line ++ b ∷ [] }
printer_took_one p b lt = rw (below (length p.line) 132 lt)

-- A printer that takes at most 132 bytes has them on its line.
pub printer_took_all : (p : PrinterState) (bytes : List ℕ) → length p.line + length bytes ≤ 132
    → after_taking printer_machine p bytes ≡ record p { line = p.line ++ bytes }
printer_took_all p [] le = let with : List ℕ
    → PrinterState = λ c. record p { line = c } in ap with (sym (append-nil p.line))
printer_took_all p (b ∷ bs) le =
    let with : List ℕ → PrinterState = λ c. record p { line = c } in
    let more : length (p.line ++ b ∷ []) ≡ length p.line + 1 = one_more p.line b in
    ap (λ q. after_taking printer_machine q bs) (printer_took_one p b (omega arith))
    ∙ printer_took_all (with (p.line ++ b ∷ [])) bs (omega arith)
    ∙ ap with (append_assoc p.line (b ∷ []) bs)

unequal : (m n : ℕ) → m < n → nat_eq m n ≡ false
unequal m n lt = grind arith

console_took_one : (c : ConsoleState) (b : ℕ) → length c.unfinished < 132 → 0 < c.wanted
    → console_took c b ≡ record c { unfinished = c.unfinished ++ printable_of b ∷ []; wanted = c.wanted - 1 }
console_took_one c b lt wants = rw (below 0 c.wanted wants, unequal (length c.unfinished) 132 lt)

-- A console that takes bytes has them on its unfinished line.
pub console_took_all : (c : ConsoleState) (bytes : List ℕ) → length c.unfinished + length bytes ≤ 132
    → length bytes ≤ c.wanted
    → after_taking console_machine c bytes
    ≡ record c { unfinished = c.unfinished ++ printed bytes; wanted = c.wanted - length bytes }
console_took_all c [] fits wants =
    let with : List ℕ → ℕ → ConsoleState = λ u w. record c { unfinished = u; wanted = w } in
    let none : c.wanted ≡ c.wanted - 0 = omega arith in
    ap (λ u. with u c.wanted) (sym (append-nil c.unfinished)) ∙ ap (λ w. with (c.unfinished ++ []) w) none
console_took_all c (b ∷ bs) fits wants =
    let with : List ℕ → ℕ → ConsoleState = λ u w. record c { unfinished = u; wanted = w } in
    let more : length (c.unfinished ++ printable_of b ∷ []) ≡ length c.unfinished + 1 =
    one_more c.unfinished (printable_of b) in
    let less : c.wanted - 1 - length bs ≡ c.wanted - length (b ∷ bs) = omega arith in
    ap (λ q. after_taking console_machine q bs) (console_took_one c b (omega arith) (omega arith))
    ∙ console_took_all (with (c.unfinished ++ printable_of b ∷ []) (c.wanted - 1)) bs (omega arith) (omega arith)
    ∙ ap (λ u. with u (c.wanted - 1 - length bs)) (append_assoc c.unfinished (printable_of b ∷ []) (printed bs))
    ∙ ap (λ w. with (c.unfinished ++ printable_of b ∷ printed bs) w) less

equal : (m n : ℕ) → m ≡ n → nat_eq m n ≡ true
equal m n e = grind arith

console_took_after_full : (c : ConsoleState) (b : ℕ) → length c.unfinished ≡ 132 → 0 < c.wanted
    → console_took c b ≡ record
    c { lines = c.lines ++ c.unfinished ∷ []; unfinished = printable_of b ∷ []; wanted = c.wanted - 1 }
console_took_after_full c b full wants = rw (below 0 c.wanted wants, equal (length c.unfinished) 132 full)

-- where so many characters fit, and there are more
pub console_took_over : (fitting : ℕ) (c : ConsoleState) (bytes : List ℕ) → fitting + length c.unfinished ≡ 132
    → length bytes ≤ 132 → fitting < length bytes → length bytes ≤ c.wanted
    → after_taking console_machine c bytes
    ≡ record c {
      lines = c.lines ++ (c.unfinished ++ printed (take fitting bytes)) ∷ [];
      unfinished = printed (drop fitting bytes);
      wanted = c.wanted - length bytes;
    }
console_took_over fitting c [] fits few over wants = absurd (omega arith)
console_took_over zero c (b ∷ bs) fits few over wants =
    let with : List ℕ → ℕ → ConsoleState =
    λ l w. record c { lines = c.lines ++ l ∷ []; unfinished = printed (b ∷ bs); wanted = w } in
    let less : c.wanted - 1 - length bs ≡ c.wanted - length (b ∷ bs) = omega arith in
    let full : length c.unfinished ≡ 132 = omega arith in
    let small : 1 + length bs ≤ 132 = omega arith in
    let left : length bs ≤ c.wanted - 1 = omega arith in
    ap (λ q. after_taking console_machine q bs) (console_took_after_full c b full (omega arith))
    ∙ console_took_all (record
    c { lines = c.lines ++ c.unfinished ∷ []; unfinished = printable_of b ∷ []; wanted = c.wanted - 1 }) bs small
    left
    ∙ ap (λ w. with c.unfinished w) less
    ∙ ap (λ l. with l (c.wanted - length (b ∷ bs))) (sym (append-nil c.unfinished))
console_took_over (suc fitting) c (b ∷ bs) fits few over wants =
    let with : List ℕ → ℕ → ConsoleState =
    λ l w. record c { lines = c.lines ++ l ∷ []; unfinished = printed (drop fitting bs); wanted = w } in
    let less : c.wanted - 1 - length bs ≡ c.wanted - length (b ∷ bs) = omega arith in
    let more : length (c.unfinished ++ printable_of b ∷ []) ≡ length c.unfinished + 1 =
    one_more c.unfinished (printable_of b) in
    ap (λ q. after_taking console_machine q bs) (console_took_one c b (omega arith) (omega arith))
    ∙ console_took_over fitting (record c { unfinished = c.unfinished ++ printable_of b ∷ []; wanted = c.wanted - 1 })
    bs (omega arith) (omega arith) (omega arith) (omega arith)
    ∙ ap (λ w. with ((c.unfinished ++ printable_of b ∷ []) ++ printed (take fitting bs)) w) less
    ∙ ap (λ l. with l (c.wanted - length (b ∷ bs)))
    (append_assoc c.unfinished (printable_of b ∷ []) (printed (take fitting bs)))
