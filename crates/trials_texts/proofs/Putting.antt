-- One more operand in words.
use Rattle.std.proofs.Common.{◌≡◌, ℕ, ◌-◌, ◌≤◌, ℤ, List, [], ◌∷◌, length, take, drop, take_all, get_or, Option, sym, ap, ◌∙◌, subst, arith}
use Rattle.turn_code.specs.declared.value.Value.{Value}
use Rattle.turn_code.specs.Bare.{Bare, pushed}
use Rattle.turn_code.specs.Meant.{word_of, AreWordsOf}
use Rattle.turn_code.proofs.Standing.{one_more}

pub put_one : (ops : List Value) (d : Value) (old new : Bare) (z : ℤ) (vs : List (Option Value)) (ps : List Value) → 1 ≤ length ops
    → AreWordsOf old (take (length ops - 1) (drop 1 ops)) vs ps → new ≡ pushed old z → z ≡ word_of (get_or ops 0 d) → AreWordsOf new ops vs ps
put_one [] d old new z vs ps some h e w = absurd (omega arith)
put_one (y ∷ os) d old new z vs ps some h e w =
    let all : take (length (y ∷ os) - 1) os ≡ os = take_all (length (y ∷ os) - 1) os (omega arith) in
    let below : AreWordsOf old os vs ps = subst (λ (u : List Value). AreWordsOf old u vs ps) all h in
    subst (λ (u : Bare). AreWordsOf u (y ∷ os) vs ps) (sym (e ∙ ap (pushed old) w)) (one_more old y os vs ps below)
