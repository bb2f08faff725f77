-- A walk along a path: one more statement, one more answer, and the ends.
use Rattle.std.proofs.Common.{◌≡◌, ◌∙◌, ℕ, suc, ◌+◌, ◌<◌, ◌≤◌, Bool, true, false, cond, List, [], ◌∷◌, ◌++◌, append_assoc, append-nil, length, drop, get_or, Option, None, Some, refl, sym, ap, subst}
use Rattle.std.specs.Option.{option_map}
use Rattle.std.proofs.lemmas.List.{drop_more, drop_all}
use Rattle.sdl_ast.specs.declared.expression.Identifier.{Identifier}
use Rattle.sdl_ast.specs.declared.tree.Answer.{Answer}
use Rattle.sdl_ast.specs.declared.tree.Decision.{Decision, out-Decision}
use Rattle.sdl_ast.specs.declared.tree.End.{End}
use Rattle.sdl_ast.specs.declared.tree.Statement.{Statement}
use Rattle.sdl_ast.specs.declared.tree.Statement.TheVariants.{Act, Decide}
use Rattle.sdl_ast.specs.declared.tree.Action.{Action}
use Rattle.sdl_ast.specs.declared.tree.Transition.{Transition}
use Rattle.sdl_ast.specs.Plain.{Text, falls, Choice, PlainStatement, act, decide, PlainAnswer, PlainConnection, PlainProcess, before, all_answers}
use Rattle.sdl_ast.specs.Views.{plain_statement, tree_of, action_of, text_of, statement_of, decision_of, statements_before, answers_before, end_text, else_choice, choice_of}
use Rattle.sdl_ast.proofs.Views.{text_of-is, plain_answer-is, plain_decides, decision_of-is, statement_of-act}
use Rattle.sdl_tables.specs.Names.{variable_names}
use Rattle.turn_code.specs.declared.value.Value.{Value}
use Rattle.script_covered.specs.Ways.{Taken, at, else_of, end_place, Way, stands, behind, goes_with, then_way, is_for, with_value, way_of, chosen_way, behind_action, action_place, joined_at, joined_way, way_on, whole_way, through}
use Rattle.sdl_meaning.specs.Valued.{valued}
use Rattle.script_covered.specs.Covered.{HasTaken}
use Rattle.script_covered.specs.OnWay.{IsOnWay}
use Rattle.script_covered.specs.declared.coverage.Counts.{Counts}

abbrev Values : Type 0
Values = List (Option Value)

-- ---- paths put together

behind_behind : (xs ys : List Taken) (w : Way) → behind xs (behind ys w) ≡ behind (xs ++ ys) w
behind_behind xs ys w = ap (λ (l : List Taken). record { taken = l; end = w.end; values = w.values }) (sym (append_assoc xs ys w.taken))

with_end : (e : Option End) (xs ys : List Taken) (vs : Values) (f : Values → Way) → goes_with e (xs ++ ys) vs f ≡ behind xs (goes_with e ys vs f)
with_end None xs ys vs f = sym (behind_behind xs ys (f vs))
with_end (Some e) xs ys vs f = refl

then_behind : (xs : List Taken) (w : Way) (f : Values → Way) → then_way (behind xs w) f ≡ behind xs (then_way w f)
then_behind xs w f = with_end w.end xs w.taken w.values f

ends_so : (e : Option End) (xs : List Taken) (vs : Values) → goes_with e xs vs (stands None) ≡ record { taken = xs; end = e; values = vs }
ends_so None xs vs = ap (λ (l : List Taken). record { taken = l; end = None; values = vs }) (append-nil xs)
ends_so (Some e) xs vs = refl

then_none : (w : Way) → then_way w (stands None) ≡ w
then_none w = ends_so w.end w.taken w.values

-- a statement and the text that follows it
stated : (ids : List Identifier) (s : PlainStatement) (rest : Text) (vs : Values) → way_of ids (before s rest) vs ≡ then_way (way_of ids (before s falls) vs) (way_of ids rest)
stated ids (act a) rest vs = refl
stated ids (decide k q choice) rest vs =
    let w = behind (at k ∷ []) (with_value (valued ids q vs) vs (λ x. chosen_way ids k choice x vs)) in
    ap (λ (u : Way). then_way u (way_of ids rest)) (sym (then_none w))

-- ---- partial walks

pub on_start : (w v : Way) (c : Counts) → w ≡ v → IsOnWay w v c c
on_start w v c is = record { taken = []; is = is; counts = λ xs has. subst (λ (l : List Taken). HasTaken l c) (sym (append-nil xs)) has }

pub on_part : (whole part left : Way) (old mid new : Counts) → IsOnWay whole part old mid → IsOnWay part left mid new → IsOnWay whole left old new
on_part whole part left old mid new h k = record {
  taken = h.taken ++ k.taken;
  is = h.is ∙ (ap (behind h.taken) k.is ∙ behind_behind h.taken k.taken left);
  counts = λ xs has. subst (λ (l : List Taken). HasTaken l new) (append_assoc xs h.taken k.taken) (k.counts (xs ++ h.taken) (h.counts xs has));
}

pub on_taken : (x : Taken) (left : Way) (old new : Counts) → ((xs : List Taken) → HasTaken xs old → HasTaken (xs ++ x ∷ []) new) → IsOnWay (behind (x ∷ []) left) left old new
on_taken x left old new counts = record { taken = x ∷ []; is = refl; counts = counts }

-- a part of a path, and what is left after it
on_then : (part : Way) (f : Values → Way) (left : Way) (old new : Counts) → IsOnWay part left old new → IsOnWay (then_way part f) (then_way left f) old new
on_then part f left old new h = record {
  taken = h.taken;
  is = ap (λ (w : Way). then_way w f) h.is ∙ then_behind h.taken left f;
  counts = h.counts;
}

as_left : (whole a b : Way) (old new : Counts) → a ≡ b → IsOnWay whole a old new → IsOnWay whole b old new
as_left whole a b old new is h = subst (λ (w : Way). IsOnWay whole w old new) is h

pub as_whole : (a b left : Way) (old new : Counts) → a ≡ b → IsOnWay a left old new → IsOnWay b left old new
as_whole a b left old new is h = subst (λ (w : Way). IsOnWay w left old new) is h

-- ---- statements

pub first_statement : (ids : List Identifier) (t : Transition) (ss : List Statement) (vs : Values) (c : Counts) → ss ≡ t.statements.items
    → IsOnWay (way_of ids (text_of t) vs) (way_of ids (statements_before ss (end_text t.end)) vs) c c
first_statement ids t ss vs c is =
    on_start _ _ c
    (ap (λ (u : Text). way_of ids u vs) (text_of-is t) ∙ ap (λ (l : List Statement). way_of ids (statements_before l (end_text t.end)) vs) (sym is))

pub statement_on : (whole : Way) (ids : List Identifier) (ss : List Statement) (i : ℕ) (s : Statement) (last : Text) (e : Option End) (vs ws : Values) (old mid new : Counts)
    → i < length ss → s ≡ get_or ss i s → IsOnWay whole (way_of ids (statements_before (drop i ss) last) vs) old mid
    → IsOnWay (way_of ids (statement_of s falls) vs) (stands e ws) mid new
    → IsOnWay whole (then_way (stands e ws) (way_of ids (statements_before (drop (i + 1) ss) last))) old new
statement_on whole ids ss i s last e vs ws old mid new lt is h k =
    let rest = statements_before (drop (i + 1) ss) last in
    let first : drop i ss ≡ s ∷ drop (i + 1) ss = drop_more ss i s lt ∙ ap (λ x. x ∷ drop (i + 1) ss) (sym is) in
    let there : way_of ids (statements_before (drop i ss) last) vs ≡ then_way (way_of ids (statement_of s falls) vs) (way_of ids rest) =
    ap (λ (l : List Statement). way_of ids (statements_before l last) vs) first ∙ stated ids (plain_statement s) rest vs in
    on_part whole _ _ old mid new (as_left whole _ _ old mid there h) (on_then (way_of ids (statement_of s falls) vs) (way_of ids rest) (stands e ws) mid new k)

-- the statement came to an end of the transition
pub statement_ends : (whole : Way) (ids : List Identifier) (ss : List Statement) (i : ℕ) (s : Statement) (last : Text) (r : Option End) (e : End) (vs ws : Values) (old mid new : Counts)
    → i < length ss → s ≡ get_or ss i s → r ≡ Some e → IsOnWay whole (way_of ids (statements_before (drop i ss) last) vs) old mid
    → IsOnWay (way_of ids (statement_of s falls) vs) (stands r ws) mid new → IsOnWay whole (stands (Some e) ws) old new
statement_ends whole ids ss i s last r e vs ws old mid new lt is so h k =
    statement_on whole ids ss i s last (Some e) vs ws old mid new lt is h
    (subst (λ (o : Option End). IsOnWay (way_of ids (statement_of s falls) vs) (stands o ws) mid new) so k)

-- the statement didn't come to an end of the transition
pub statement_goes : (whole : Way) (ids : List Identifier) (ss : List Statement) (i : ℕ) (s : Statement) (last : Text) (r : Option End) (vs ws : Values) (old mid new : Counts)
    → i < length ss → s ≡ get_or ss i s → r ≡ None → IsOnWay whole (way_of ids (statements_before (drop i ss) last) vs) old mid
    → IsOnWay (way_of ids (statement_of s falls) vs) (stands r ws) mid new → IsOnWay whole (way_of ids (statements_before (drop (i + 1) ss) last) ws) old new
statement_goes whole ids ss i s last r vs ws old mid new lt is so h k =
    statement_on whole ids ss i s last None vs ws old mid new lt is h
    (subst (λ (o : Option End). IsOnWay (way_of ids (statement_of s falls) vs) (stands o ws) mid new) so k)

-- all statements were walked
pub statements_past : (whole : Way) (ids : List Identifier) (ss : List Statement) (i : ℕ) (o r : Option End) (vs : Values) (old new : Counts) → length ss ≤ i → o ≡ r
    → IsOnWay whole (way_of ids (statements_before (drop i ss) (end_text o)) vs) old new → IsOnWay whole (way_of ids (end_text r) vs) old new
statements_past whole ids ss i o r vs old new past is h =
    as_left whole _ _ old new
    (ap (λ (l : List Statement). way_of ids (statements_before l (end_text o)) vs) (drop_all i ss past) ∙ ap (λ (e : Option End). way_of ids (end_text e) vs) is) h

pub statement_acts : (ids : List Identifier) (a : Action) (vs ws : Values) (k : ℕ) (old new : Counts) → k ≡ action_place (action_of a) → ws ≡ behind_action ids (action_of a) vs
    → ((xs : List Taken) → HasTaken xs old → HasTaken (xs ++ at k ∷ []) new) → IsOnWay (way_of ids (statement_of (Act a) falls) vs) (stands None ws) old new
statement_acts ids a vs ws k old new is are counts =
    as_whole (behind (at k ∷ []) (stands None ws)) _ _ old new
    (ap (λ (n : ℕ). behind (at n ∷ []) (stands None ws)) is
    ∙ (ap (λ (us : Values). behind (at (action_place (action_of a)) ∷ []) (stands None us)) are
    ∙ ap (λ (t : Text). way_of ids t vs) (sym (statement_of-act a falls))))
    (on_taken (at k) (stands None ws) old new counts)

pub statement_decides : (ids : List Identifier) (d : Decision) (vs : Values) (left : Way) (old new : Counts) → IsOnWay (way_of ids (decision_of d falls) vs) left old new
    → IsOnWay (way_of ids (statement_of (Decide d) falls) vs) left old new
statement_decides ids d vs left old new h =
    as_whole _ _ left old new (ap (λ (s : PlainStatement). way_of ids (before s falls) vs) (sym (plain_decides d))) h

-- ---- DECISIONs

asked_way : (ids : List Identifier) (d : Decision) (vs : Values)
    → way_of ids (decision_of d falls) vs
    ≡ behind (at (out-Decision d).at ∷ []) (with_value (valued ids (tree_of (out-Decision d).question) vs) vs (λ x. chosen_way ids (out-Decision d).at (choice_of d) x vs))
asked_way ids d vs =
    ap (λ (t : Text). way_of ids t vs) (decision_of-is d falls)
    ∙ then_none (behind (at (out-Decision d).at ∷ []) (with_value (valued ids (tree_of (out-Decision d).question) vs) vs (λ x. chosen_way ids (out-Decision d).at (choice_of d) x vs)))

pub decision_asked : (ids : List Identifier) (d : Decision) (vs : Values) (o : Option Value) (left : Way) (old mid new : Counts) → o ≡ valued ids (tree_of (out-Decision d).question) vs
    → ((xs : List Taken) → HasTaken xs old → HasTaken (xs ++ at (out-Decision d).at ∷ []) mid)
    → IsOnWay (with_value o vs (λ x. chosen_way ids (out-Decision d).at (choice_of d) x vs)) left mid new → IsOnWay (way_of ids (decision_of d falls) vs) left old new
decision_asked ids d vs o left old mid new is counts h =
    let there : Option Value → Way = λ p. with_value p vs (λ x. chosen_way ids (out-Decision d).at (choice_of d) x vs) in
    as_whole (behind (at (out-Decision d).at ∷ []) (there o)) _ left old new
    (ap (λ (p : Option Value). behind (at (out-Decision d).at ∷ []) (there p)) is ∙ sym (asked_way ids d vs))
    (on_part _ (there o) left old mid new (on_taken (at (out-Decision d).at) (there o) old mid counts) h)

-- ---- answers

answer_on : (whole : Way) (ids : List Identifier) (k : ℕ) (xs : List Answer) (i : ℕ) (a : Answer) (others : Choice) (x : Value) (b : Bool) (vs : Values) (old new : Counts) → i < length xs
    → a ≡ get_or xs i a → b ≡ is_for a.ranges.items x → IsOnWay whole (chosen_way ids k (answers_before (drop i xs) others) x vs) old new
    → IsOnWay whole (cond b (behind (at a.at ∷ []) (way_of ids (text_of a.body) vs)) (chosen_way ids k (answers_before (drop (i + 1) xs) others) x vs)) old new
answer_on whole ids k xs i a others x b vs old new lt is for h =
    let rest = answers_before (drop (i + 1) xs) others in
    let first : drop i xs ≡ a ∷ drop (i + 1) xs = drop_more xs i a lt ∙ ap (λ y. y ∷ drop (i + 1) xs) (sym is) in
    as_left whole _ _ old new
    (ap (λ (l : List Answer). chosen_way ids k (answers_before l others) x vs) first
    ∙ (ap (λ (p : PlainAnswer). chosen_way ids k (all_answers (p ∷ []) rest) x vs) (plain_answer-is a)
    ∙ ap (λ (t : Bool). cond t (behind (at a.at ∷ []) (way_of ids (text_of a.body) vs)) (chosen_way ids k rest x vs)) (sym for))) h

pub answer_taken : (whole : Way) (ids : List Identifier) (k : ℕ) (xs : List Answer) (i : ℕ) (a : Answer) (others : Choice) (x : Value) (b : Bool) (vs ws : Values) (e : Option End)
    (old now mid new : Counts) → i < length xs → a ≡ get_or xs i a → b ≡ is_for a.ranges.items x → b ≡ true
    → IsOnWay whole (chosen_way ids k (answers_before (drop i xs) others) x vs) old now → ((ys : List Taken) → HasTaken ys now → HasTaken (ys ++ at a.at ∷ []) mid)
    → IsOnWay (way_of ids (text_of a.body) vs) (stands e ws) mid new → IsOnWay whole (stands e ws) old new
answer_taken whole ids k xs i a others x b vs ws e old now mid new lt is for so h counts walked =
    let body = way_of ids (text_of a.body) vs in
    let rest = chosen_way ids k (answers_before (drop (i + 1) xs) others) x vs in
    on_part whole body (stands e ws) old mid new
    (on_part whole (behind (at a.at ∷ []) body) body old now mid
    (as_left whole _ _ old now (ap (λ (t : Bool). cond t (behind (at a.at ∷ []) body) rest) so) (answer_on whole ids k xs i a others x b vs old now lt is for h))
    (on_taken (at a.at) body now mid counts))
    walked

pub answer_passed : (whole : Way) (ids : List Identifier) (k : ℕ) (xs : List Answer) (i : ℕ) (a : Answer) (others : Choice) (x : Value) (b : Bool) (vs : Values) (old new : Counts)
    → i < length xs → a ≡ get_or xs i a → b ≡ is_for a.ranges.items x → b ≡ false → IsOnWay whole (chosen_way ids k (answers_before (drop i xs) others) x vs) old new
    → IsOnWay whole (chosen_way ids k (answers_before (drop (i + 1) xs) others) x vs) old new
answer_passed whole ids k xs i a others x b vs old new lt is for so h =
    as_left whole _ _ old new
    (ap (λ (t : Bool). cond t (behind (at a.at ∷ []) (way_of ids (text_of a.body) vs)) (chosen_way ids k (answers_before (drop (i + 1) xs) others) x vs)) so)
    (answer_on whole ids k xs i a others x b vs old new lt is for h)

pub first_answer : (ids : List Identifier) (d : Decision) (xs : List Answer) (x : Value) (vs : Values) (c : Counts) → xs ≡ (out-Decision d).answers.items
    → IsOnWay (chosen_way ids (out-Decision d).at (choice_of d) x vs) (chosen_way ids (out-Decision d).at (answers_before xs (else_choice (out-Decision d).otherwise)) x vs) c c
first_answer ids d xs x vs c is =
    on_start _ _ c (ap (λ (l : List Answer). chosen_way ids (out-Decision d).at (answers_before l (else_choice (out-Decision d).otherwise)) x vs) (sym is))

pub answers_past : (whole : Way) (ids : List Identifier) (k : ℕ) (xs : List Answer) (i : ℕ) (o r : Option Transition) (x : Value) (vs : Values) (old new : Counts) → length xs ≤ i → o ≡ r
    → IsOnWay whole (chosen_way ids k (answers_before (drop i xs) (else_choice o)) x vs) old new → IsOnWay whole (chosen_way ids k (else_choice r) x vs) old new
answers_past whole ids k xs i o r x vs old new past is h =
    as_left whole _ _ old new
    (ap (λ (l : List Answer). chosen_way ids k (answers_before l (else_choice o)) x vs) (drop_all i xs past)
    ∙ ap (λ (p : Option Transition). chosen_way ids k (else_choice p) x vs) is) h

pub end_taken : (ids : List Identifier) (o : Option End) (k : ℕ) (vs : Values) (old new : Counts) → Some k ≡ option_map end_place o
    → ((xs : List Taken) → HasTaken xs old → HasTaken (xs ++ at k ∷ []) new) → IsOnWay (way_of ids (end_text o) vs) (stands o vs) old new
end_taken ids None k vs old new is counts = absurd (let f : ⊥ = cc in f)
end_taken ids (Some e) k vs old new is counts =
    let same : k ≡ end_place e = cc in
    as_whole (behind (at k ∷ []) (stands (Some e) vs)) _ _ old new (ap (λ (n : ℕ). behind (at n ∷ []) (stands (Some e) vs)) same) (on_taken (at k) (stands (Some e) vs) old new counts)

pub none_taken : (ids : List Identifier) (o : Option End) (vs : Values) (c : Counts) → None ≡ option_map end_place o → IsOnWay (way_of ids (end_text o) vs) (stands o vs) c c
none_taken ids None vs c is = on_start _ _ c refl
none_taken ids (Some e) vs c is = absurd (let f : ⊥ = cc in f)

pub else_taken : (whole : Way) (ids : List Identifier) (k : ℕ) (body : Transition) (x : Value) (vs : Values) (left : Way) (old now mid new : Counts)
    → IsOnWay whole (chosen_way ids k (else_choice (Some body)) x vs) old now → ((ys : List Taken) → HasTaken ys now → HasTaken (ys ++ else_of k ∷ []) mid)
    → IsOnWay (way_of ids (text_of body) vs) left mid new → IsOnWay whole left old new
else_taken whole ids k body x vs left old now mid new h counts walked =
    let inside = way_of ids (text_of body) vs in
    on_part whole inside left old mid new (on_part whole (behind (else_of k ∷ []) inside) inside old now mid h (on_taken (else_of k) inside now mid counts)) walked

-- ---- JOINs

-- a path that was walked to its end
gone : (w : Way) (e : Option End) (ws : Values) (old new : Counts) (h : IsOnWay w (stands e ws) old new) → w ≡ record { taken = h.taken; end = e; values = ws }
gone w e ws old new h = h.is ∙ ap (λ (l : List Taken). record { taken = l; end = e; values = ws }) (append-nil h.taken)

pub goes_alone : (p : PlainProcess) (n : ℕ) (t : Text) (e : Option End) (vs ws : Values) (old new : Counts) → n ≡ 0
    → IsOnWay (way_of (variable_names p) t vs) (stands e ws) old new → (xs : List Taken) → HasTaken xs old → HasTaken (xs ++ through p n t vs) new
goes_alone p n t e vs ws old new none h xs has =
    subst (λ (l : List Taken). HasTaken (xs ++ l) new)
    (ap (λ (w : Way). w.taken) (sym (gone _ e ws old new h)) ∙ ap (λ (m : ℕ). through p m t vs) (sym none)) (h.counts xs has)

joined : (p : PlainProcess) (n : ℕ) (t : Text) (e : Option End) (k : Option PlainConnection) (vs ws : Values) (old new : Counts) (h : IsOnWay (way_of (variable_names p) t vs) (stands e ws) old new)
    → joined_at p e ≡ k → through p (suc n) t vs ≡ (joined_way k (record { taken = h.taken; end = e; values = ws }) (λ u. whole_way p n u ws)).taken
joined p n t e k vs ws old new h to =
    let f : Text → Values → Way = λ u us. whole_way p n u us in
    ap (λ (w : Way). (way_on p w f).taken) (gone _ e ws old new h)
    ∙ ap (λ (o : Option PlainConnection). (joined_way o (record { taken = h.taken; end = e; values = ws }) (λ u. f u ws)).taken) to

pub goes_on_by : (p : PlainProcess) (n m : ℕ) (t : Text) (e : Option End) (k : PlainConnection) (vs ws : Values) (old mid new : Counts) → n ≡ suc m → joined_at p e ≡ Some k
    → IsOnWay (way_of (variable_names p) t vs) (stands e ws) old mid → ((ys : List Taken) → HasTaken ys mid → HasTaken (ys ++ through p m k.text ws) new)
    → (xs : List Taken) → HasTaken xs old → HasTaken (xs ++ through p n t vs) new
goes_on_by p n m t e k vs ws old mid new more to h counts xs has =
    subst (λ (l : List Taken). HasTaken l new)
    (append_assoc xs h.taken (through p m k.text ws)
    ∙ ap (λ (l : List Taken). xs ++ l) (sym (joined p m t e (Some k) vs ws old mid h to) ∙ ap (λ (j : ℕ). through p j t vs) (sym more)))
    (counts (xs ++ h.taken) (h.counts xs has))

pub goes_no_further : (p : PlainProcess) (n m : ℕ) (t : Text) (e : Option End) (vs ws : Values) (old new : Counts) → n ≡ suc m → joined_at p e ≡ None
    → IsOnWay (way_of (variable_names p) t vs) (stands e ws) old new → (xs : List Taken) → HasTaken xs old → HasTaken (xs ++ through p n t vs) new
goes_no_further p n m t e vs ws old new more to h xs has =
    subst (λ (l : List Taken). HasTaken (xs ++ l) new) (sym (joined p m t e None vs ws old new h to) ∙ ap (λ (j : ℕ). through p j t vs) (sym more)) (h.counts xs has)

pub with_names : (p : PlainProcess) (ids : List Identifier) (t : Text) (vs : Values) (left : Way) (old new : Counts) → ids ≡ variable_names p → IsOnWay (way_of ids t vs) left old new
    → IsOnWay (way_of (variable_names p) t vs) left old new
with_names p ids t vs left old new is h = subst (λ (l : List Identifier). IsOnWay (way_of l t vs) left old new) is h

-- with the parameters in their variables, and at most as many JOINs as there are connections
pub goes_as : (p : PlainProcess) (n k : ℕ) (t : Text) (vs ws : Values) (xs : List Taken) (c : Counts) → n ≡ k → vs ≡ ws → HasTaken (xs ++ through p n t vs) c → HasTaken (xs ++ through p k t ws) c
goes_as p n k t vs ws xs c is same has =
    subst (λ (us : Values). HasTaken (xs ++ through p k t us) c) same (subst (λ (m : ℕ). HasTaken (xs ++ through p m t vs) c) is has)
