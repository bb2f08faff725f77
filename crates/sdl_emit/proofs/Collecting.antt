-- The JOINs of a DECISION, collected part by part.
use Rattle.std.proofs.Common.{◌≡◌, ℕ, ◌+◌, ◌<◌, ◌≤◌, Bool, true, false, cond, List, [], ◌∷◌, ◌++◌, length, drop, get_or, map, Option, Some, None, refl, sym, ap, ◌∙◌, append_assoc, append-nil}
use Rattle.std.proofs.lemmas.List.{drop_all}
use Rattle.sdl_ast.specs.declared.tree.Join.{Join}
use Rattle.sdl_ast.specs.declared.tree.Transition.{Transition}
use Rattle.sdl_ast.specs.declared.tree.Statement.{Statement}
use Rattle.sdl_ast.specs.declared.tree.Statement.TheVariants.{Decide}
use Rattle.sdl_ast.specs.declared.tree.Answer.{Answer}
use Rattle.sdl_ast.specs.declared.tree.Decision.{Decision, out-Decision}
use Rattle.sdl_ast.specs.Plain.{Text, Choice, nothing_else, otherwise, answer, PlainAnswer, all_answers}
use Rattle.sdl_ast.specs.Views.{plain_answer, text_of, choice_of, else_choice, statement_of, statements_before, answers_before}
use Rattle.sdl_meaning.specs.Act.{is_truth}
use Rattle.sdl_meaning.specs.Outcomes.{Scope}
use Rattle.sdl_emit.specs.Scopes.{question_in}
use Rattle.sdl_emit.specs.Placing.{decision_joins}
use Rattle.sdl_meaning.specs.Code.{code_joins, else_joins, answers_joins, bodies_joins}
use Rattle.sdl_ast.proofs.Views.{statement_of-decide}
use Rattle.sdl_emit.proofs.Emitting.{one_statement}
use Rattle.sdl_emit.proofs.Picking.{one_answer}

module _ (c : Scope) where
  bodies_split : (choice : Choice) → bodies_joins c choice ≡ answers_joins c choice ++ else_joins c choice
  bodies_split nothing_else = refl
  bodies_split (otherwise body) = refl
  bodies_split (answer at rs body others) = ap (λ l. code_joins c body ++ l) (bodies_split others) ∙ sym (append_assoc (code_joins c body) (answers_joins c others) (else_joins c others))

  else_by : (list : List PlainAnswer) (o : Option Transition) → else_joins c (all_answers list (else_choice o)) ≡ else_joins c (else_choice o)
  else_by [] o = refl
  else_by (a ∷ list) o = else_by list o

  pub else_alone : (list : List Answer) (o : Option Transition) → else_joins c (answers_before list (else_choice o)) ≡ else_joins c (else_choice o)
  else_alone list o = else_by (map plain_answer list) o

  pub decided : (s : Statement) (d : Decision) → s ≡ Decide d → (old new : List Join) → new ≡ old ++ decision_joins c d → (rest : Text) → new ++ code_joins c rest ≡ old ++ code_joins c (statement_of s rest)
  decided s d e old new h rest =
      let x = out-Decision d in
      let else_is = else_alone x.answers.items x.otherwise in
      ap (λ l. l ++ code_joins c rest) h ∙ append_assoc old (decision_joins c d) (code_joins c rest)
      ∙ ap (λ l. old ++ l) (ap (λ l. l ++ code_joins c rest) (by_sort (is_truth c (question_in d)) else_is) ∙ sym (ap (code_joins c) (ap (λ s. statement_of s rest) e ∙ statement_of-decide d rest)))
    where
      by_sort : (b : Bool) → else_joins c (choice_of d) ≡ else_joins c (else_choice (out-Decision d).otherwise)
          → cond b (answers_joins c (choice_of d) ++ else_joins c (else_choice (out-Decision d).otherwise)) (else_joins c (else_choice (out-Decision d).otherwise) ++ answers_joins c (choice_of d))
          ≡ cond b (bodies_joins c (choice_of d)) (else_joins c (choice_of d) ++ answers_joins c (choice_of d))
      by_sort true f = ap (λ l. answers_joins c (choice_of d) ++ l) (sym f) ∙ sym (bodies_split (choice_of d))
      by_sort false f = ap (λ l. l ++ answers_joins c (choice_of d)) (sym f)

  -- ---- one more statement, one more answer

  pub statement_on : (start old new : List Join) (ss : List Statement) (i : ℕ) (s : Statement) (last : Text) → i < length ss → s ≡ get_or ss i s
      → ((rest : Text) → new ++ code_joins c rest ≡ old ++ code_joins c (statement_of s rest)) → old ++ code_joins c (statements_before (drop i ss) last) ≡ start
      → new ++ code_joins c (statements_before (drop (i + 1) ss) last) ≡ start
  statement_on start old new ss i s last lt is step before =
      step (statements_before (drop (i + 1) ss) last) ∙ (ap (λ t. old ++ code_joins c t) (sym (one_statement ss i s last lt is)) ∙ before)

  pub statements_past : (start now : List Join) (ss : List Statement) (i : ℕ) (last : Text) → length ss ≤ i → now ++ code_joins c (statements_before (drop i ss) last) ≡ start
      → now ++ code_joins c last ≡ start
  statements_past start now ss i last past before = ap (λ l. now ++ code_joins c (statements_before l last)) (sym (drop_all i ss past)) ∙ before

  pub answer_on : (start old new : List Join) (xs : List Answer) (i : ℕ) (x : Answer) (others : Choice) → i < length xs → x ≡ get_or xs i x
      → new ≡ old ++ code_joins c (text_of x.body) → old ++ answers_joins c (answers_before (drop i xs) others) ≡ start
      → new ++ answers_joins c (answers_before (drop (i + 1) xs) others) ≡ start
  answer_on start old new xs i x others lt is body before =
      let rest = answers_before (drop (i + 1) xs) others in
      ap (λ l. l ++ answers_joins c rest) body ∙ (append_assoc old (code_joins c (text_of x.body)) (answers_joins c rest)
      ∙ (ap (λ k. old ++ answers_joins c k) (sym (one_answer xs i x others lt is)) ∙ before))

  none_of_else : (o : Option Transition) → answers_joins c (else_choice o) ≡ []
  none_of_else None = refl
  none_of_else (Some body) = refl

  pub answers_past : (start now : List Join) (xs : List Answer) (i : ℕ) (o : Option Transition) → length xs ≤ i → now ++ answers_joins c (answers_before (drop i xs) (else_choice o)) ≡ start
      → now ≡ start
  answers_past start now xs i o past before =
      sym (append-nil now) ∙ (ap (λ l. now ++ l) (sym (none_of_else o)) ∙ (ap (λ l. now ++ answers_joins c (answers_before l (else_choice o))) (sym (drop_all i xs past)) ∙ before))
