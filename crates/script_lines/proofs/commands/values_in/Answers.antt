use Rattle.std.proofs.Common.{◌≡◌, ℕ, ◌+◌, ◌<◌, ◌&&◌, Bool, List, [], ◌∷◌, ◌++◌, length, drop, get_or, Option, Some, None, is_some, sym, ap, ◌∙◌, append_assoc, append-nil, if◌then◌else◌}
use Rattle.std.specs.Borrow.{Bor}
use Rattle.std.specs.List.{list_all, filter_map, cons_option}
use Rattle.std.proofs.lemmas.List.{at_drop_more, at_drop_all}
use Rattle.turn_code.specs.declared.value.Value.{Value}
use Rattle.script_lines.specs.Lines.{texts}
use Rattle.script_lines.specs.Numbers.{value_of}
use Rattle.script_lines.proofs.commands.values_in.Goals as goal

abbrev all_good : List (Bor (List ℕ)) → Bool
all_good ws = list_all (λ w. is_some (value_of w)) (texts ws)

abbrev values : List (Bor (List ℕ)) → List Value
values ws = filter_map value_of (texts ws)

-- The words from index i on are all values, split at word i.
good_here : (ws : List (Bor (List ℕ))) (i : ℕ) (w : Bor (List ℕ)) (o : Option Value) → i < length ws → o ≡ value_of (get_or ws i w).now
    → all_good (drop i ws) ≡ (is_some o && all_good (drop (i + 1) ws))
good_here ws i w o within is = at_drop_more all_good ws i w within ∙ ap (λ (p : Option Value). is_some p && all_good (drop (i + 1) ws)) (sym is)

values_here : (ws : List (Bor (List ℕ))) (i : ℕ) (w : Bor (List ℕ)) (o : Option Value) → i < length ws → o ≡ value_of (get_or ws i w).now
    → values (drop i ws) ≡ cons_option o (values (drop (i + 1) ws))
values_here ws i w o within is = at_drop_more values ws i w within ∙ ap (λ (p : Option Value). cons_option p (values (drop (i + 1) ws))) (sym is)

pub loop-word-preserved : goal.loop-word-preserved
loop-word-preserved c =
    let here = sym c.in-Some.is ∙ c.value.ensures in
    record {
      good = sym (good_here c.args.words.now c.loop-word.word-index _ (Some c.in-Some.value) c.loop-word-test.true here) ∙ c.loop-word.invariant.good;
      values = ap (λ vs. vs ++ values (drop (c.loop-word.word-index + 1) c.args.words.now)) c.in_ok-push-in-Some.ensures.items
          ∙ (append_assoc c.loop-word.values.items (c.in-Some.value ∷ []) (values (drop (c.loop-word.word-index + 1) c.args.words.now))
          ∙ (ap (λ vs. c.loop-word.values.items ++ vs) (sym (values_here c.args.words.now c.loop-word.word-index _ (Some c.in-Some.value) c.loop-word-test.true here))
          ∙ c.loop-word.invariant.values));
    }

pub returns-in-None : goal.returns-in-None
returns-in-None c =
    let here = sym c.in-None.is ∙ c.value.ensures in
    sym (ap (λ (b : Bool). if b then Some (values c.args.words.now) else None)
    (sym c.loop-word.invariant.good ∙ good_here c.args.words.now c.loop-word.word-index _ None c.loop-word-test.true here))

pub returns : goal.returns
returns c =
    let none = at_drop_all all_good c.args.words.now c.loop-word.word-index c.loop-word-test.false in
    let no_more = at_drop_all values c.args.words.now c.loop-word.word-index c.loop-word-test.false in
    ap Some (sym (append-nil c.loop-word.values.items) ∙ (ap (λ vs. c.loop-word.values.items ++ vs) (sym no_more) ∙ c.loop-word.invariant.values))
    ∙ sym (ap (λ (b : Bool). if b then Some (values c.args.words.now) else None) (sym c.loop-word.invariant.good ∙ none))
