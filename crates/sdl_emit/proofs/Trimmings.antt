-- A copy of a transition without its quoted TASKs, and of a DECISION.
use Rattle.std.proofs.Common.{Vec, ◌≡◌, ℕ, List, [], ◌∷◌, ◌++◌, Option, None, Some, if◌then◌else◌, map, refl, sym, ap, ◌∙◌}
use Rattle.std.specs.List.{flat_map}
use Rattle.sdl_ast.specs.Plain.{PlainAction, task, output, set_timer, reset_timer, Text, does, decides, Choice, answer, PlainStatement, act, decide, PlainAnswer, all_before, all_answers}
use Rattle.sdl_ast.specs.Views.{plain_statement, plain_answer, plain_decision, text_of, end_text, else_choice, choice_of, answers_before, tree_of, statement_step, answer_step, decision_step, transition_step}
use Rattle.sdl_ast.specs.declared.tree.Transition.{Transition}
use Rattle.sdl_ast.specs.declared.tree.Statement.{Statement}
use Rattle.sdl_ast.specs.declared.tree.Decision.{Decision, out-Decision, roll-Decision}
use Rattle.sdl_ast.specs.declared.tree.Statement.TheFolds.{fold-roll-Decision}
use Rattle.sdl_ast.specs.declared.expression.Expression.{Expression}
use Rattle.std.specs.declared.alloc.Global.{Global}
use Rattle.sdl_ast.specs.declared.tree.Answer.{Answer}
use Rattle.sdl_ast.specs.declared.tree.End.{End}
use Rattle.sdl_ast.proofs.Views.{text_of-is, plain_decision-is, decision_layer}
use Rattle.sdl_emit.specs.Trimmed.{kept, trimmed, trimmed_choice, is_quoted, trimmed_statement, trimmed_decision, trimmed_answer}

end_trimmed : (e : Option End) → trimmed (end_text e) ≡ end_text e
end_trimmed None = refl
end_trimmed (Some e) = refl

act_trimmed : (a : PlainAction) (more : List PlainStatement) (rest t : Text) → all_before more rest ≡ t
    → all_before ((if is_quoted a then [] else act a ∷ []) ++ more) rest ≡ kept a t
act_trimmed (task at []) more rest t e = e
act_trimmed (task at (x ∷ xs)) more rest t e = ap (does (task at (x ∷ xs))) e
act_trimmed (output at xs to) more rest t e = ap (does (output at xs to)) e
act_trimmed (set_timer at x n) more rest t e = ap (does (set_timer at x n)) e
act_trimmed (reset_timer at n) more rest t e = ap (does (reset_timer at n)) e

-- Statements before a rest.
all_trimmed : (ss : List PlainStatement) (rest : Text) → all_before (flat_map trimmed_statement ss) (trimmed rest) ≡ trimmed (all_before ss rest)
all_trimmed [] rest = refl
all_trimmed (act a ∷ ss) rest = act_trimmed a (flat_map trimmed_statement ss) (trimmed rest) (trimmed (all_before ss rest)) (all_trimmed ss rest)
all_trimmed (decide at q choice ∷ ss) rest = ap (decides at q (trimmed_choice choice)) (all_trimmed ss rest)

answers_trimmed : (xs : List PlainAnswer) (others : Choice) → all_answers (map trimmed_answer xs) (trimmed_choice others) ≡ trimmed_choice (all_answers xs others)
answers_trimmed [] others = refl
answers_trimmed (x ∷ xs) others = ap (answer x.at x.ranges (trimmed x.text)) (answers_trimmed xs others)

-- A whole transition.
pub transition_trimmed : (given copy : Transition) (list : List Statement) → given.statements.items ≡ list
    → map plain_statement copy.statements.items ≡ flat_map trimmed_statement (map plain_statement list) → copy.end ≡ given.end → text_of copy ≡ trimmed (text_of given)
transition_trimmed given copy list is made end =
    let all = flat_map trimmed_statement (map plain_statement list) in
    text_of-is copy
    ∙ (ap (λ l. all_before l (end_text copy.end)) made
    ∙ (ap (λ o. all_before all (end_text o)) end
    ∙ (ap (λ t. all_before all t) (sym (end_trimmed given.end))
    ∙ (all_trimmed (map plain_statement list) (end_text given.end)
    ∙ (ap (λ l. trimmed (all_before (map plain_statement l) (end_text given.end))) (sym is)
    ∙ ap trimmed (sym (text_of-is given)))))))

decision_is : (at : ℕ) (q : Expression) (answers : Vec Answer Global) (o : Option Transition) →
    plain_decision (roll-Decision (record { at = at; question = q; answers = answers; otherwise = o })) ≡ decide at (tree_of q) (answers_before answers.items (else_choice o))
decision_is at q answers o =
    fold-roll-Decision PlainStatement PlainAnswer PlainStatement Text statement_step answer_step decision_step transition_step (record { at = at; question = q; answers = answers; otherwise = o })
    ∙ decision_layer at q answers o

pub decision_trimmed : (given : Decision) (list : List Answer) (q : Expression) (answers : Vec Answer Global) (o : Option Transition) → (out-Decision given).answers.items ≡ list
    → tree_of q ≡ tree_of (out-Decision given).question → map plain_answer answers.items ≡ map trimmed_answer (map plain_answer list)
    → else_choice o ≡ trimmed_choice (else_choice (out-Decision given).otherwise)
    → plain_decision (roll-Decision (record { at = (out-Decision given).at; question = q; answers = answers; otherwise = o })) ≡ trimmed_decision (plain_decision given)
decision_trimmed given list q answers o is question made others =
    let choice : answers_before answers.items (else_choice o) ≡ trimmed_choice (choice_of given) =
    ap (λ l. all_answers l (else_choice o)) made
    ∙ (ap (λ x. all_answers (map trimmed_answer (map plain_answer list)) x) others
    ∙ (answers_trimmed (map plain_answer list) (else_choice (out-Decision given).otherwise)
    ∙ ap (λ l. trimmed_choice (all_answers (map plain_answer l) (else_choice (out-Decision given).otherwise))) (sym is))) in
    decision_is (out-Decision given).at q answers o
    ∙ (ap (λ x. decide (out-Decision given).at x (answers_before answers.items (else_choice o))) question
    ∙ (ap (λ c. decide (out-Decision given).at (tree_of (out-Decision given).question) c) choice
    ∙ ap trimmed_decision (sym (plain_decision-is given))))
