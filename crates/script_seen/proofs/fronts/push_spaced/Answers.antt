use Rattle.std.proofs.Common.{◌≡◌, ℕ, ◌+◌, ◌<◌, List, [], ◌∷◌, ◌++◌, length, drop, get_or, sym, ap, ◌∙◌, append_assoc, append-nil}
use Rattle.std.specs.Borrow.{Bor}
use Rattle.std.specs.List.{flat_map}
use Rattle.std.proofs.lemmas.List.{at_drop_more, at_drop_all}
use Rattle.script_lines.specs.Lines.{texts}
use Rattle.script_seen.proofs.fronts.push_spaced.Goals as goal

abbrev behind : List (Bor (List ℕ)) → List ℕ
behind ws = flat_map (λ w. 32 ∷ w) (texts ws)

-- a space and one more word
one_word : (ws : List (Bor (List ℕ))) (i : ℕ) (w : Bor (List ℕ)) (before spaced after word all : List ℕ) → i < length ws
    → spaced ≡ before ++ 32 ∷ [] → after ≡ spaced ++ word → word ≡ (get_or ws i w).now → before ++ behind (drop i ws) ≡ all → after ++ behind (drop (i + 1) ws) ≡ all
one_word ws i w before spaced after word all within space more is had =
    let rest : List ℕ = behind (drop (i + 1) ws) in
    let here : behind (drop i ws) ≡ 32 ∷ ((get_or ws i w).now ++ rest) = at_drop_more behind ws i w within in
    let joined : after ++ rest ≡ before ++ (32 ∷ (word ++ rest)) =
    ap (λ t. t ++ rest) (more ∙ ap (λ t. t ++ word) space)
    ∙ (append_assoc (before ++ 32 ∷ []) word rest ∙ append_assoc before (32 ∷ []) (word ++ rest)) in
    joined ∙ (ap (λ (t : List ℕ). before ++ (32 ∷ (t ++ rest))) is ∙ (ap (λ t. before ++ t) (sym here) ∙ had))

pub loop-word-preserved : goal.loop-word-preserved
loop-word-preserved c =
    one_word c.args.words.now c.loop-word.word-index _ c.loop-word.text.items _ _ _ _ c.loop-word-test.true c.in_ok-push.ensures.items
    c.in_ok-extend_from_slice.ensures.items c.as_bytes.ensures.value c.loop-word.invariant

pub returns : goal.returns
returns c =
    sym (append-nil c.loop-word.text.items)
    ∙ (ap (λ t. c.loop-word.text.items ++ t) (sym (at_drop_all behind c.args.words.now c.loop-word.word-index c.loop-word-test.false)) ∙ c.loop-word.invariant)
