use Rattle.std.proofs.Common.{◌≡◌, ◌∙◌, ◌+◌, ◌-◌, ◌++◌, ◌∷◌, [], ℕ, List, length, get_or, ap, sym, arith, append_assoc}
use Rattle.std.specs.List.{remove}
use Rattle.std.specs.Vec.{vec_len}
use Rattle.std.proofs.Math.Seq.{get_or-append_seam}
use Rattle.std.proofs.lemmas.List.Edits.{remove-append_right}
use Rattle.cp_frames.proofs.order.FrameOrder.move_to_end.Goals as goal

-- the number that ends the first part ends the order
moved_last : (xs ys : List ℕ) (x turn : ℕ) (order : List ℕ) → (xs ++ x ∷ []) ++ ys ≡ order → length xs ≡ turn
    → xs ++ (ys ++ x ∷ []) ≡ remove order turn ++ get_or order turn 0 ∷ []
moved_last xs ys x turn order e long =
    let is : order ≡ xs ++ (x ∷ ys) = sym e ∙ append_assoc xs (x ∷ []) ys in
    let none : turn - turn ≡ 0 = omega arith in
    let gone : remove order turn ≡ xs ++ ys =
    ap (λ (o : List ℕ). remove o turn) is ∙ remove-append_right xs (x ∷ ys) turn turn long (omega arith)
    ∙ ap (λ k. xs ++ remove (x ∷ ys) k) none in
    let here : get_or order turn 0 ≡ x =
    ap (λ (o : List ℕ). get_or o turn 0) is ∙ ap (λ k. get_or (xs ++ x ∷ ys) k 0) (sym long)
    ∙ get_or-append_seam xs x ys 0 in
    sym (append_assoc xs ys (x ∷ [])) ∙ ap (λ (o : List ℕ). o ++ x ∷ []) (sym gone)
    ∙ ap (λ k. remove order turn ++ k ∷ []) (sym here)

pub returns : goal.returns
returns c =
    let front = c.pop.new.self.items in
    let frame = c.in-Some.frame in
    let rest = c.shorten.new.rest.items in
    let popped : c.shorten.new.first.items ≡ front ++ frame ∷ [] = c.in-Some.ensures.items in
    let all : (front ++ frame ∷ []) ++ rest ≡ c.args.self.now =
    ap (λ (xs : List ℕ). xs ++ rest) (sym popped) ∙ c.shorten.ensures.same ∙ c.lengthen.ensures.same ∙ c.self.view_is in
    let count : vec_len c.shorten.new.first ≡ c.args.turn + 1 = c.shorten.ensures.count c.lengthen.ensures.count in
    let long : length front ≡ c.args.turn = omega (arith, count, c.in-Some.ensures.cases, c.pop.new.self.ok.0) in
    rw c.push_back_reserved.ensures.items (moved_last front rest frame c.args.turn c.args.self.now all long)
