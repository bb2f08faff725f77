-- A copy of a transition or a DECISION with values in place of synonyms.
use Rattle.std.proofs.Common.{Vec, ◌≡◌, ℕ, List, [], ◌∷◌, Option, None, Some, map, refl, sym, ap, ◌∙◌}
use Rattle.sdl_ast.specs.Plain.{Text, does, decides, Choice, answer, PlainStatement, act, decide, PlainAnswer, all_before, all_answers}
use Rattle.sdl_ast.specs.Views.{action_of, plain_statement, plain_answer, plain_decision, text_of, end_text, else_choice, choice_of, answers_before, tree_of, statement_step, answer_step, decision_step, transition_step}
use Rattle.sdl_ast.specs.declared.tree.Transition.{Transition}
use Rattle.sdl_ast.specs.declared.tree.Action.{Action}
use Rattle.sdl_ast.specs.declared.tree.Range.{Range}
use Rattle.sdl_ast.specs.declared.tree.Statement.{Statement}
use Rattle.sdl_ast.specs.declared.tree.Statement.TheVariants.{Act, Decide}
use Rattle.sdl_ast.specs.declared.tree.Decision.{Decision, out-Decision, roll-Decision}
use Rattle.sdl_ast.specs.declared.tree.Statement.TheFolds.{fold-roll-Decision}
use Rattle.sdl_ast.specs.declared.expression.Expression.{Expression}
use Rattle.std.specs.declared.alloc.Global.{Global}
use Rattle.sdl_ast.specs.declared.tree.Answer.{Answer}
use Rattle.sdl_ast.specs.declared.tree.End.{End}
use Rattle.sdl_ast.proofs.Views.{text_of-is, plain_act, plain_decides, plain_decision-is, plain_answer-is, decision_layer}
use Rattle.sdl_rules.specs.Synonyms.{Sight, expanded_tree}
use Rattle.sdl_rules.specs.Expansion.{expanded_action, expanded_text, expanded_choice, expanded_statement, expanded_answer, expanded_range}

module _ (s : Sight) where
  end_expanded : (e : Option End) → expanded_text s (end_text e) ≡ end_text e
  end_expanded None = refl
  end_expanded (Some e) = refl

  -- the part before a rest
  all_expanded : (ss : List PlainStatement) (rest : Text) → all_before (map (expanded_statement s) ss) (expanded_text s rest) ≡ expanded_text s (all_before ss rest)
  all_expanded [] rest = refl
  all_expanded (act a ∷ ss) rest = ap (does (expanded_action s a)) (all_expanded ss rest)
  all_expanded (decide at q choice ∷ ss) rest = ap (decides at (expanded_tree s q) (expanded_choice s choice)) (all_expanded ss rest)

  answers_expanded : (xs : List PlainAnswer) (others : Choice) → all_answers (map (expanded_answer s) xs) (expanded_choice s others) ≡ expanded_choice s (all_answers xs others)
  answers_expanded [] others = refl
  answers_expanded (x ∷ xs) others = ap (answer x.at (map (expanded_range s) x.ranges) (expanded_text s x.text)) (answers_expanded xs others)

  -- the whole of a transition
  pub transition_expanded : (given copy : Transition) (list : List Statement) → given.statements.items ≡ list
      → map plain_statement copy.statements.items ≡ map (expanded_statement s) (map plain_statement list) → copy.end ≡ given.end → text_of copy ≡ expanded_text s (text_of given)
  transition_expanded given copy list is made end =
      let all = map (expanded_statement s) (map plain_statement list) in
      text_of-is copy
      ∙ (ap (λ l. all_before l (end_text copy.end)) made
      ∙ (ap (λ o. all_before all (end_text o)) end
      ∙ (ap (λ t. all_before all t) (sym (end_expanded given.end))
      ∙ (all_expanded (map plain_statement list) (end_text given.end)
      ∙ (ap (λ l. expanded_text s (all_before (map plain_statement l) (end_text given.end))) (sym is)
      ∙ ap (expanded_text s) (sym (text_of-is given)))))))

  decision_is : (at : ℕ) (q : Expression) (answers : Vec Answer Global) (o : Option Transition) →
      plain_decision (roll-Decision (record { at = at; question = q; answers = answers; otherwise = o })) ≡ decide at (tree_of q) (answers_before answers.items (else_choice o))
  decision_is at q answers o =
      fold-roll-Decision PlainStatement PlainAnswer PlainStatement Text statement_step answer_step decision_step transition_step (record { at = at; question = q; answers = answers; otherwise = o })
      ∙ decision_layer at q answers o

  pub decision_expanded : (given : Decision) (list : List Answer) (q : Expression) (answers : Vec Answer Global) (o : Option Transition) → (out-Decision given).answers.items ≡ list
      → tree_of q ≡ expanded_tree s (tree_of (out-Decision given).question) → map plain_answer answers.items ≡ map (expanded_answer s) (map plain_answer list)
      → else_choice o ≡ expanded_choice s (else_choice (out-Decision given).otherwise)
      → plain_decision (roll-Decision (record { at = (out-Decision given).at; question = q; answers = answers; otherwise = o })) ≡ expanded_statement s (plain_decision given)
  decision_expanded given list q answers o is question made others =
      let choice : answers_before answers.items (else_choice o) ≡ expanded_choice s (choice_of given) =
      ap (λ l. all_answers l (else_choice o)) made
      ∙ (ap (λ x. all_answers (map (expanded_answer s) (map plain_answer list)) x) others
      ∙ (answers_expanded (map plain_answer list) (else_choice (out-Decision given).otherwise)
      ∙ ap (λ l. expanded_choice s (all_answers (map plain_answer l) (else_choice (out-Decision given).otherwise))) (sym is))) in
      decision_is (out-Decision given).at q answers o
      ∙ (ap (λ x. decide (out-Decision given).at x (answers_before answers.items (else_choice o))) question
      ∙ (ap (λ c. decide (out-Decision given).at (expanded_tree s (tree_of (out-Decision given).question)) c) choice
      ∙ ap (expanded_statement s) (sym (plain_decision-is given))))

  -- ---- a single statement and a single answer

  pub act_expanded : (given : Statement) (a b : Action) → given ≡ Act a → action_of b ≡ expanded_action s (action_of a) → plain_statement (Act b) ≡ expanded_statement s (plain_statement given)
  act_expanded given a b is made = plain_act b ∙ (ap act made ∙ ap (expanded_statement s) (sym (ap plain_statement is ∙ plain_act a)))

  pub decide_expanded : (given : Statement) (d e : Decision) → given ≡ Decide d → plain_decision e ≡ expanded_statement s (plain_decision d)
      → plain_statement (Decide e) ≡ expanded_statement s (plain_statement given)
  decide_expanded given d e is made = plain_decides e ∙ (made ∙ ap (expanded_statement s) (sym (ap plain_statement is ∙ plain_decides d)))

  pub answer_expanded : (given copy : Answer) → copy.at ≡ given.at → copy.ranges.items ≡ map (expanded_range s) given.ranges.items → text_of copy.body ≡ expanded_text s (text_of given.body)
      → plain_answer copy ≡ expanded_answer s (plain_answer given)
  answer_expanded given copy at ranges body =
      let make : ℕ → List Range → Text → PlainAnswer = λ n rs t. record { at = n; ranges = rs; text = t } in
      plain_answer-is copy
      ∙ (ap (λ n. make n copy.ranges.items (text_of copy.body)) at
      ∙ (ap (λ rs. make given.at rs (text_of copy.body)) ranges
      ∙ (ap (make given.at (map (expanded_range s) given.ranges.items)) body ∙ ap (expanded_answer s) (sym (plain_answer-is given)))))
