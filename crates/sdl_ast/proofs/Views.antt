-- The views of the tree, unfolded one layer at a time.
use Rattle.std.proofs.Common.{ℕ, Vec, ◌≡◌, ◌∙◌, ap, refl, List, [], ◌∷◌, ◌++◌, Option, None, Some}
use Rattle.sdl_ast.specs.Plain.{Text, does, decides, Choice, answer, PlainStatement, act, decide, PlainAnswer, before, all_before, all_answers}
use Rattle.sdl_ast.specs.Views.{plain_statement, plain_decision, plain_answer, tree_of, action_of, text_of, statement_of, answer_of, decision_of, statements_before, answers_before, end_text, else_choice, choice_of, statement_step, answer_step, decision_step, transition_step}
use Rattle.sdl_ast.specs.declared.tree.Transition.{Transition}
use Rattle.sdl_ast.specs.declared.tree.Statement.{Statement, out-Statement}
use Rattle.sdl_ast.specs.declared.tree.Statement.TheVariants.{Act, Decide}
use Rattle.sdl_ast.specs.declared.tree.Statement.TheFolds.{fold_out-Transition, fold_out-Statement, fold_out-Answer, fold_out-Decision}
use Rattle.sdl_ast.specs.declared.tree.Decision.{Decision, out-Decision, map-Decision}
use Rattle.sdl_ast.specs.declared.tree.Answer.{Answer}
use Rattle.sdl_ast.specs.declared.tree.Action.{Action}
use Rattle.sdl_ast.specs.declared.expression.Expression.{Expression}
use Rattle.std.specs.declared.alloc.Global.{Global}

pub text_of-is : (t : Transition) → text_of t ≡ statements_before t.statements.items (end_text t.end)
text_of-is t = fold_out-Transition PlainStatement PlainAnswer PlainStatement Text statement_step answer_step decision_step transition_step t

-- The views of single statements, DECISIONs and answers.

pub plain_act : (a : Action) → plain_statement (Act a) ≡ act (action_of a)
unfolding out-Statement denote.Hole.Carrier.out
plain_act a = fold_out-Statement PlainStatement PlainAnswer PlainStatement Text statement_step answer_step decision_step transition_step (Act a)

pub decision_layer : (at : ℕ) (q : Expression) (answers : Vec Answer Global) (o : Option Transition) →
    decision_step (map-Decision Statement Answer Decision Transition PlainStatement PlainAnswer PlainStatement Text plain_statement plain_answer plain_decision text_of (record { at = at; question = q; answers = answers; otherwise = o }))
    ≡ decide at (tree_of q) (answers_before answers.items (else_choice o))
decision_layer at q answers None = refl
decision_layer at q answers (Some t) = refl

pub plain_decision-is : (d : Decision) → plain_decision d ≡ decide (out-Decision d).at (tree_of (out-Decision d).question) (choice_of d)
plain_decision-is d = fold_out-Decision PlainStatement PlainAnswer PlainStatement Text statement_step answer_step decision_step transition_step d
    ∙ decision_layer (out-Decision d).at (out-Decision d).question (out-Decision d).answers (out-Decision d).otherwise

pub plain_decides : (d : Decision) → plain_statement (Decide d) ≡ plain_decision d
unfolding out-Statement denote.Hole.Carrier.out
plain_decides d = fold_out-Statement PlainStatement PlainAnswer PlainStatement Text statement_step answer_step decision_step transition_step (Decide d)

pub plain_answer-is : (a : Answer) → plain_answer a ≡ record { at = a.at; ranges = a.ranges.items; text = text_of a.body }
plain_answer-is a = fold_out-Answer PlainStatement PlainAnswer PlainStatement Text statement_step answer_step decision_step transition_step a

-- The views of statements, DECISIONs and answers, with the statements or answers that follow them.

pub statement_of-act : (a : Action) (rest : Text) → statement_of (Act a) rest ≡ does (action_of a) rest
statement_of-act a rest = ap (λ s. before s rest) (plain_act a)

pub decision_of-is : (d : Decision) (rest : Text) → decision_of d rest ≡ decides (out-Decision d).at (tree_of (out-Decision d).question) (choice_of d) rest
decision_of-is d rest = ap (λ s. before s rest) (plain_decision-is d)

pub statement_of-decide : (d : Decision) (rest : Text) → statement_of (Decide d) rest ≡ decides (out-Decision d).at (tree_of (out-Decision d).question) (choice_of d) rest
statement_of-decide d rest = ap (λ s. before s rest) (plain_decides d ∙ plain_decision-is d)

pub answer_of-is : (a : Answer) (others : Choice) → answer_of a others ≡ answer a.at a.ranges.items (text_of a.body) others
answer_of-is a others = ap (λ x. all_answers (x ∷ []) others) (plain_answer-is a)

-- Lists with one more statement or one more answer at the end.

pub all_before-more : (ss : List PlainStatement) (s : PlainStatement) (text : Text) → all_before (ss ++ s ∷ []) text ≡ all_before ss (before s text)
all_before-more [] s text = refl
all_before-more (x ∷ ss) s text = ap (before x) (all_before-more ss s text)

pub all_answers-more : (xs : List PlainAnswer) (x : PlainAnswer) (others : Choice) → all_answers (xs ++ x ∷ []) others ≡ all_answers xs (answer x.at x.ranges x.text others)
all_answers-more [] x others = refl
all_answers-more (y ∷ xs) x others = ap (answer y.at y.ranges y.text) (all_answers-more xs x others)
