-- For transitions, reading with marks is reading the whole transition and then marking it.
use Rattle.std.proofs.Common.{◌≡◌, ℕ, suc, zero, ◌<◌, ◌≤◌, Bool, true, false, List, [], ◌∷◌, ◌++◌, Option, Some, None, length, map, refl, sym, ap, subst, ◌∙◌, arith}
use Rattle.std.specs.Prelude.{nat_lt, if◌then◌else◌}
use borrow.Author.Tests.{ltb-true, ltb-false}
use Rattle.sdl_lex.specs.declared.lexemes.Word.TheVariants as words
use Rattle.sdl_ast.specs.Limits.{GREATEST_HEIGHT}
use Rattle.sdl_ast.specs.declared.tree.End.{End}
use Rattle.sdl_ast.specs.Plain.{Tree, Text, Choice, nothing_else, otherwise, PlainAction, PlainStatement, act, decide, PlainAnswer, PlainQuestion, PlainHead, before, all_before, all_answers}
use Rattle.sdl_ast.specs.Views.{end_text}
use Rattle.sdl_ast.specs.Heights.{tree_height, decision_height, or_first, first_of, high_in_action, high_in_decision, high_in_statement, high_in_answer, high_in_text, high_in_choice}
use Rattle.sdl_ast.proofs.HeightLemmas.{none_inside}
use Rattle.sdl_productions.specs.Tokens.{a_word, an_action, an_end, a_choice}
use Rattle.sdl_productions.specs.Readings.{read, At, choice, optional, give}
use Rattle.sdl_productions.specs.Machine.{whole_trees, low_trees, lowered, expression_at}
use Rattle.sdl_productions.proofs.Lowering.{mapped, Lowers, give_lowers, then_lowers, next_lowers, choice_lowers}
use Rattle.sdl_productions.specs.Marks.{Marked, kept, by_place, marked, more, decided}
use Rattle.sdl_productions.specs.Bodies.{whole_texts, marked_texts, plain_answer_of, WholeBranching, WholeBody, WholeReached, WholeMove, MarkedBranching, MarkedBody, MarkedReached, MarkedMove, reaches, closes, with_answer}
use Rattle.sdl_productions.specs.Productions.{action_at, question_at, head_at, end_decision_at, end_at, head_step, closing_step, answer_step, body_step, behind_step, end_step, decision_step, action_step, step_at, after_move, steps_for, steps_from, at_first, text_at}
use Rattle.sdl_tree.proofs.LoweredActions.{lowered_action, lowered_question, action_lowers, question_lowers}
use Rattle.sdl_tree.proofs.LowHeights.{Keeps, keeps, action_stays}
use Rattle.sdl_productions.proofs.MarkLemmas.{one_marked, list_more, or_first-assoc, or_first-none}

abbrev marked_statements : List PlainStatement → Marked (List PlainStatement)
marked_statements ss = marked (first_of high_in_statement) ss

abbrev marked_answers : List PlainAnswer → Marked (List PlainAnswer)
marked_answers xs = marked (first_of high_in_answer) xs

abbrev pub marked_text : Text → Marked Text
marked_text t = marked high_in_text t

abbrev marked_choice : Choice → Marked Choice
marked_choice c = marked high_in_choice c

marked_branching : WholeBranching → MarkedBranching
marked_branching d = record { before = marked_statements d.before; asked = lowered_question d.asked; answers = marked_answers d.answers }

marked_body : WholeBody → MarkedBody
marked_body b = record { branching = marked_branching b.branching; head = b.head }

marked_reached : WholeReached → MarkedReached
marked_reached s = record { outer = map marked_body s.outer; here = marked_statements s.here }

marked_move : WholeMove → MarkedMove
marked_move (reaches s) = reaches (marked_reached s)
marked_move (closes text) = closes (marked_text text)

-- Statements followed by an end.

high_before : (s : PlainStatement) (rest : Text) → high_in_text (before s rest) ≡ or_first (high_in_statement s) (high_in_text rest)
high_before (act a) rest = refl
high_before (decide at question choice) rest = none_inside at question choice (high_in_text rest)

high_all : (ss : List PlainStatement) (rest : Text) → high_in_text (all_before ss rest) ≡ or_first (first_of high_in_statement ss) (high_in_text rest)
high_all [] rest = refl
high_all (s ∷ ss) rest =
    high_before s (all_before ss rest) ∙ ap (or_first (high_in_statement s)) (high_all ss rest)
    ∙ or_first-assoc (high_in_statement s) (first_of high_in_statement ss) (high_in_text rest)

end_low : (last : Option End) → high_in_text (end_text last) ≡ None
end_low None = refl
end_low (Some e) = refl

ended_marked : (ss : List PlainStatement) (last : Option End) → marked_texts.ended (marked_statements ss) last ≡ marked_text (all_before ss (end_text last))
ended_marked ss last =
    let place : high_in_text (all_before ss (end_text last)) ≡ first_of high_in_statement ss =
    high_all ss (end_text last) ∙ ap (or_first (first_of high_in_statement ss)) (end_low last) ∙ or_first-none (first_of high_in_statement ss) in
    sym (ap (λ p. by_place p (all_before ss (end_text last))) place ∙ one_marked (λ xs. all_before xs (end_text last)) (first_of high_in_statement ss) ss)

-- One more action.

test_of : (p : Option ℕ) (b : PlainAction) (a : PlainAction) (q : Option ℕ) → q ≡ p → (p ≡ None → b ≡ a) → by_place q (act b) ≡ by_place p (act a)
test_of None b a q e h = ap (λ r. by_place r (act b)) e ∙ ap (λ x. kept (act x)) (h refl)
test_of (Some at) b a q e h = ap (λ r. by_place r (act b)) e

action_marked : (a : PlainAction) → marked high_in_statement (act (lowered_action a)) ≡ marked high_in_statement (act a)
action_marked a = let s = action_stays a in test_of (high_in_action a) (lowered_action a) a (high_in_action (lowered_action a)) s.place s.same

-- One more DECISION.

high_all_answers : (xs : List PlainAnswer) (others : Choice) → high_in_choice (all_answers xs others) ≡ or_first (first_of high_in_answer xs) (high_in_choice others)
high_all_answers [] others = refl
high_all_answers (x ∷ xs) others =
    ap (or_first (high_in_answer x)) (high_all_answers xs others) ∙ or_first-assoc (high_in_answer x) (first_of high_in_answer xs) (high_in_choice others)

-- A DECISION that contains a part that is too high is too high itself.

inside_by : (at p : ℕ) (b : Bool) (i : Option ℕ) → i ≡ Some p → or_first (if b then Some at else None) (or_first i None) ≡ or_first (if b then Some at else None) None
    → (if b then Some at else None) ≡ Some at
inside_by at p true i e h = refl
inside_by at p false i e h = let k : Some p ≡ None = ap (λ j. or_first j None) (sym e) ∙ h in cc

inside : (at p : ℕ) (q : Tree) (c : Choice) → high_in_choice c ≡ Some p → high_in_decision at q c ≡ Some at
inside at p q c e = inside_by at p (nat_lt GREATEST_HEIGHT (decision_height q c)) (high_in_choice c) e (none_inside at q c None)

-- A DECISION with the lowered question has the same result: unchanged if it isn't too high, else marked.
question_test : (at : ℕ) (q p : Tree) (c : Choice) → Keeps q p → (b d : Bool) → nat_lt GREATEST_HEIGHT (decision_height q c) ≡ b → nat_lt GREATEST_HEIGHT (decision_height p c) ≡ d
    → by_place (if d then Some at else None) (decide at p c) ≡ by_place (if b then Some at else None) (decide at q c)
question_test at q p c k true true e f = refl
question_test at q p c k false false e f =
    let low : decision_height q c ≤ GREATEST_HEIGHT = ltb-false GREATEST_HEIGHT (decision_height q c) e in
    ap (λ x. kept (decide at x c)) (k.low (omega arith))
question_test at q p c k false true e f =
    let low : decision_height q c ≤ GREATEST_HEIGHT = ltb-false GREATEST_HEIGHT (decision_height q c) e in
    let high : GREATEST_HEIGHT < decision_height p c = ltb-true GREATEST_HEIGHT (decision_height p c) f in
    let same : tree_height p ≡ tree_height q = ap tree_height (k.low (omega arith)) in
    absurd (omega arith)
question_test at q p c k true false e f = by_height (nat_lt GREATEST_HEIGHT (tree_height q)) refl
  where
    by_height : (t : Bool) → nat_lt GREATEST_HEIGHT (tree_height q) ≡ t → by_place None (decide at p c) ≡ by_place (Some at) (decide at q c)
    by_height true g =
        let low : decision_height p c ≤ GREATEST_HEIGHT = ltb-false GREATEST_HEIGHT (decision_height p c) f in
        let above : GREATEST_HEIGHT < tree_height p = k.high (ltb-true GREATEST_HEIGHT (tree_height q) g) in
        absurd (omega arith)
    by_height false g =
        let high : GREATEST_HEIGHT < decision_height q c = ltb-true GREATEST_HEIGHT (decision_height q c) e in
        let low : decision_height p c ≤ GREATEST_HEIGHT = ltb-false GREATEST_HEIGHT (decision_height p c) f in
        let same : tree_height p ≡ tree_height q = ap tree_height (k.low (ltb-false GREATEST_HEIGHT (tree_height q) g)) in
        absurd (omega arith)

question_marked : (at : ℕ) (q : Tree) (c : Choice) → marked high_in_statement (decide at (lowered q) c) ≡ marked high_in_statement (decide at q c)
question_marked at q c =
    question_test at q (lowered q) c (keeps q) (nat_lt GREATEST_HEIGHT (decision_height q c)) (nat_lt GREATEST_HEIGHT (decision_height (lowered q) c)) refl refl

decided_by : (asked : PlainQuestion) (xs : List PlainAnswer) (others : Choice) (p q : Option ℕ) → high_in_choice (all_answers xs others) ≡ or_first p q
    → decided (lowered_question asked) (by_place p xs) (by_place q others) ≡ marked high_in_statement (decide asked.at asked.question (all_answers xs others))
unfolding lowered_question
decided_by asked xs others None None e = question_marked asked.at asked.question (all_answers xs others)
decided_by asked xs others None (Some p) e =
    sym (ap (λ r. by_place r (decide asked.at asked.question (all_answers xs others))) (inside asked.at p asked.question (all_answers xs others) e))
decided_by asked xs others (Some p) q e =
    sym (ap (λ r. by_place r (decide asked.at asked.question (all_answers xs others))) (inside asked.at p asked.question (all_answers xs others) e))

decided_marked : (asked : PlainQuestion) (xs : List PlainAnswer) (others : Choice)
    → decided (lowered_question asked) (marked_answers xs) (marked_choice others) ≡ marked high_in_statement (decide asked.at asked.question (all_answers xs others))
decided_marked asked xs others = decided_by asked xs others (first_of high_in_answer xs) (high_in_choice others) (high_all_answers xs others)

closed_marked : (d : WholeBranching) (others : Choice)
    → marked_texts.decides (marked_statements d.before) (lowered_question d.asked) (marked_answers d.answers) (marked_choice others)
    ≡ marked_statements (d.before ++ decide d.asked.at d.asked.question (all_answers d.answers others) ∷ [])
closed_marked d others =
    ap (more (marked_statements d.before)) (decided_marked d.asked d.answers others)
    ∙ sym (list_more high_in_statement d.before (decide d.asked.at d.asked.question (all_answers d.answers others)))

-- One more answer.

answers_marked : (xs : List PlainAnswer) (h : PlainHead) (text : Text)
    → marked_texts.answers (marked_answers xs) h (marked_text text) ≡ marked_answers (xs ++ plain_answer_of h text ∷ [])
answers_marked xs h text =
    ap (more (marked_answers xs)) (sym (one_marked (plain_answer_of h) (high_in_text text) text))
    ∙ sym (list_more high_in_answer xs (plain_answer_of h text))

branching_with : MarkedBranching → Marked (List PlainAnswer) → MarkedBranching
branching_with d answers = record { before = d.before; asked = d.asked; answers = answers }

answered_marked : (d : WholeBranching) (h : PlainHead) (text : Text) → with_answer marked_texts (marked_branching d) h (marked_text text) ≡ marked_branching (with_answer whole_texts d h text)
unfolding marked_branching branching_with
answered_marked d h text = ap (branching_with (marked_branching d)) (answers_marked d.answers h text)

-- The steps, one by one.

head_step_lowers : (outer : List WholeBody) (d : WholeBranching) → Lowers marked_move (head_step whole_texts outer d) (head_step marked_texts (map marked_body outer) (marked_branching d))
unfolding head_step marked_move marked_reached marked_body
head_step_lowers outer d =
    next_lowers marked_move head_at _ _ λ head.
    give_lowers marked_move (reaches (record { outer = record { branching = d; head = head } ∷ outer; here = [] }))

reached_with : List MarkedBody → Marked (List PlainStatement) → MarkedMove
reached_with outer here = reaches (record { outer = outer; here = here })

give_closed_lowers : (outer : List WholeBody) (d : WholeBranching) (others : Choice)
    → Lowers marked_move (give (reaches (record { outer = outer; here = whole_texts.decides d.before d.asked d.answers others })))
    (give (reaches (record { outer = map marked_body outer; here = marked_texts.decides (marked_statements d.before) (lowered_question d.asked) (marked_answers d.answers) (marked_choice others) })))
unfolding Lowers mapped marked_move marked_reached reached_with
give_closed_lowers outer d others ts = ap (λ here. read (reached_with (map marked_body outer) here) ts) (closed_marked d others)

closing_step_lowers : (outer : List WholeBody) (d : WholeBranching) (others : Choice)
    → Lowers marked_move (closing_step whole_texts outer d others) (closing_step marked_texts (map marked_body outer) (marked_branching d) (marked_choice others))
unfolding closing_step marked_branching
closing_step_lowers outer d others = next_lowers marked_move end_decision_at _ _ λ _. give_closed_lowers outer d others

answer_step_lowers : (outer : List WholeBody) (d : WholeBranching) → Lowers marked_move (answer_step whole_texts outer d) (answer_step marked_texts (map marked_body outer) (marked_branching d))
unfolding answer_step
answer_step_lowers outer d =
    choice_lowers marked_move a_choice (head_step whole_texts outer d) (closing_step whole_texts outer d nothing_else)
    (head_step marked_texts (map marked_body outer) (marked_branching d)) (closing_step marked_texts (map marked_body outer) (marked_branching d) (kept nothing_else))
    (head_step_lowers outer d) (closing_step_lowers outer d nothing_else)

else_marked : (text : Text) → marked_texts.with_else (marked_text text) ≡ marked_choice (otherwise text)
else_marked text = sym (one_marked (λ t. otherwise t) (high_in_text text) text)

body_step_lowers : (outer : List WholeBody) (d : WholeBranching) (head : Option PlainHead) (text : Text)
    → Lowers marked_move (body_step whole_texts outer d head text) (body_step marked_texts (map marked_body outer) (marked_branching d) head (marked_text text))
body_step_lowers outer d (Some h) text =
    subst (λ x. Lowers marked_move (answer_step whole_texts outer (with_answer whole_texts d h text)) (answer_step marked_texts (map marked_body outer) x)) (sym (answered_marked d h text))
    (answer_step_lowers outer (with_answer whole_texts d h text))
body_step_lowers outer d None text =
    subst (λ x. Lowers marked_move (closing_step whole_texts outer d (otherwise text)) (closing_step marked_texts (map marked_body outer) (marked_branching d) x)) (sym (else_marked text))
    (closing_step_lowers outer d (otherwise text))

behind_step_lowers : (outer : List WholeBody) (text : Text) → Lowers marked_move (behind_step whole_texts outer text) (behind_step marked_texts (map marked_body outer) (marked_text text))
unfolding marked_move marked_body
behind_step_lowers [] text = give_lowers marked_move (closes text)
behind_step_lowers (body ∷ outer) text = body_step_lowers outer body.branching body.head text

end_step_lowers : (s : WholeReached) → Lowers marked_move (end_step whole_texts s) (end_step marked_texts (marked_reached s))
unfolding end_step marked_reached
end_step_lowers s =
    next_lowers marked_move (optional an_end end_at) _ _ λ last.
    subst (λ t. Lowers marked_move (behind_step whole_texts s.outer (all_before s.here (end_text last))) (behind_step marked_texts (map marked_body s.outer) t)) (sym (ended_marked s.here last))
    (behind_step_lowers s.outer (all_before s.here (end_text last)))

decision_step_lowers : (s : WholeReached) → Lowers marked_move (decision_step whole_texts s) (decision_step marked_texts (marked_reached s))
unfolding decision_step marked_reached marked_branching
decision_step_lowers s =
    then_lowers lowered_question marked_move (question_at (expression_at whole_trees)) _ (question_at (expression_at low_trees)) _ question_lowers λ asked.
    head_step_lowers s.outer (record { before = s.here; asked = asked; answers = [] })

acts_marked : (ss : List PlainStatement) (a : PlainAction) → marked_texts.acts (marked_statements ss) (lowered_action a) ≡ marked_statements (ss ++ act a ∷ [])
acts_marked ss a = ap (more (marked_statements ss)) (action_marked a) ∙ sym (list_more high_in_statement ss (act a))

give_action_lowers : (s : WholeReached) (action : PlainAction)
    → Lowers marked_move (give (reaches (record { outer = s.outer; here = s.here ++ act action ∷ [] })))
    (give (reaches (record { outer = map marked_body s.outer; here = marked_texts.acts (marked_statements s.here) (lowered_action action) })))
unfolding Lowers mapped marked_move marked_reached reached_with
give_action_lowers s action ts = ap (λ here. read (reached_with (map marked_body s.outer) here) ts) (acts_marked s.here action)

action_step_lowers : (s : WholeReached) → Lowers marked_move (action_step whole_texts s) (action_step marked_texts (marked_reached s))
unfolding action_step marked_reached
action_step_lowers s =
    then_lowers lowered_action marked_move (action_at (expression_at whole_trees)) _ (action_at (expression_at low_trees)) _ action_lowers λ action.
    give_action_lowers s action

step_lowers : (s : WholeReached) → Lowers marked_move (step_at whole_texts s) (step_at marked_texts (marked_reached s))
unfolding step_at
step_lowers s =
    choice_lowers marked_move an_action (action_step whole_texts s) (choice (a_word words.Decision) (decision_step whole_texts s) (end_step whole_texts s))
    (action_step marked_texts (marked_reached s)) (choice (a_word words.Decision) (decision_step marked_texts (marked_reached s)) (end_step marked_texts (marked_reached s)))
    (action_step_lowers s)
    (choice_lowers marked_move (a_word words.Decision) (decision_step whole_texts s) (end_step whole_texts s)
    (decision_step marked_texts (marked_reached s)) (end_step marked_texts (marked_reached s)) (decision_step_lowers s) (end_step_lowers s))

move_lowers : (go_on : WholeReached → At Text) (low : MarkedReached → At (Marked Text)) → ((s : WholeReached) → Lowers marked_text (go_on s) (low (marked_reached s)))
    → (m : WholeMove) → Lowers marked_text (after_move go_on m) (after_move low (marked_move m))
unfolding marked_move
move_lowers go_on low each (reaches s) = each s
move_lowers go_on low each (closes text) = give_lowers marked_text text

steps_for_lowers : (n : ℕ) (s : WholeReached) → Lowers marked_text (steps_for whole_texts n s) (steps_for marked_texts n (marked_reached s))
unfolding steps_for Lowers mapped
steps_for_lowers zero s ts = refl
steps_for_lowers (suc n) s ts =
    then_lowers marked_move marked_text (step_at whole_texts s) (after_move (steps_for whole_texts n)) (step_at marked_texts (marked_reached s)) (after_move (steps_for marked_texts n))
    (step_lowers s) (move_lowers (steps_for whole_texts n) (steps_for marked_texts n) (steps_for_lowers n)) ts

pub text_lowers : Lowers marked_text (text_at whole_texts) (text_at marked_texts)
unfolding text_at steps_from Lowers marked_reached
text_lowers ts = steps_for_lowers (suc (length ts)) (at_first whole_texts) ts
