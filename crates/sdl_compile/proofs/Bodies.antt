-- The sets of a text statement by statement, and those of a DECISION answer by answer.
use Rattle.std.proofs.Common.{◌≡◌, ℕ, ◌≤◌, Bool, true, false, cond, ◌||◌, List, [], ◌∷◌, ◌++◌, length, drop, Option, Some, None, refl, sym, ap, ◌∙◌, append_assoc, append-nil}
use Rattle.std.proofs.lemmas.List.{drop_all}
use Rattle.sdl_ast.specs.declared.tree.Action.{Action}
use Rattle.sdl_ast.specs.declared.tree.Answer.{Answer}
use Rattle.sdl_ast.specs.declared.tree.Decision.{Decision, out-Decision}
use Rattle.sdl_ast.specs.declared.tree.Range.{Range}
use Rattle.sdl_ast.specs.declared.tree.Statement.{Statement}
use Rattle.sdl_ast.specs.declared.tree.Statement.TheVariants.{Act, Decide}
use Rattle.sdl_ast.specs.declared.tree.Transition.{Transition}
use Rattle.sdl_ast.specs.Plain.{Text, falls, does, decides, Choice, answer, PlainStatement, act, decide, before}
use Rattle.sdl_ast.specs.Views.{tree_of, action_of, choice_of, plain_statement, statement_of, statements_before, answers_before, else_choice}
use Rattle.sdl_ast.proofs.Views.{statement_of-act, statement_of-decide}
use Rattle.turn_code.specs.declared.variable_set.VariableSet.{VariableSet}
use Rattle.sdl_sound.specs.Going.{goes_on, choice_goes_on}
use Rattle.sdl_meaning.specs.Outcomes.{Scope}
use Rattle.sdl_compile.specs.Reads.{action_set, meet, left, answers_left, choice_left}
use Rattle.sdl_compile.specs.Entries.{met, answers_met}
use Rattle.sdl_compile.specs.Facts.{action_sets, leave_sets, text_sets, answers_sets, decision_sets}

-- ---- after the last item of a list

pub statements_past : {A : Type 0} (f : Text → A) (all : A) (ss : List Statement) (i : ℕ) (last : Text) → length ss ≤ i → f (statements_before (drop i ss) last) ≡ all → f last ≡ all
statements_past f all ss i last past h = ap (λ l. f (statements_before l last)) (sym (drop_all i ss past)) ∙ h

pub answers_past : {A : Type 0} (f : Choice → A) (all : A) (xs : List Answer) (i : ℕ) (others : Choice) → length xs ≤ i → f (answers_before (drop i xs) others) ≡ all → f others ≡ all
answers_past f all xs i others past h = ap (λ l. f (answers_before l others)) (sym (drop_all i xs past)) ∙ h

-- ---- one statement

pub acted : (s : Statement) (a : Action) → s ≡ Act a → (rest : Text) → statement_of s rest ≡ does (action_of a) rest
acted s a e rest = ap (λ s. statement_of s rest) e ∙ statement_of-act a rest

pub decided : (s : Statement) (d : Decision) → s ≡ Decide d → (rest : Text) → statement_of s rest ≡ decides (out-Decision d).at (tree_of (out-Decision d).question) (choice_of d) rest
decided s d e rest = ap (λ s. statement_of s rest) e ∙ statement_of-decide d rest

or_three : (a b k : Bool) → ((a || b) || k) ≡ (a || (b || k))
or_three true b k = refl
or_three false b k = refl

module _ (c : Scope) where
  -- ---- a statement, and what follows it

  before_sets : (p : PlainStatement) (m : VariableSet) (rest : Text) → text_sets c m (before p rest) ≡ text_sets c m (before p falls) ++ text_sets c (left c m (before p falls)) rest
  before_sets (act a) m rest = ap (λ l. l ++ text_sets c (action_set c m a) rest) (sym (append-nil (action_sets c m a)))
  before_sets (decide at q choice) m rest = ap (λ l. l ++ text_sets c (choice_left c m choice) rest) (sym (append-nil (decision_sets c m q choice)))

  before_met : (p : PlainStatement) (m : VariableSet) (rest : Text) (es : List VariableSet) → met c m (before p rest) es ≡ met c (left c m (before p falls)) rest (met c m (before p falls) es)
  before_met (act a) m rest es = refl
  before_met (decide at q choice) m rest es = refl

  before_left : (p : PlainStatement) (m : VariableSet) (rest : Text) → left c m (before p rest) ≡ left c (left c m (before p falls)) rest
  before_left (act a) m rest = refl
  before_left (decide at q choice) m rest = refl

  module _ (s : Statement) (t rest : Text) (is : t ≡ statement_of s rest) (m n : VariableSet) (behind : n ≡ left c m (statement_of s falls)) where
    pub rest_sets : (old new all : List VariableSet) → new ≡ old ++ text_sets c m (statement_of s falls) → old ++ text_sets c m t ≡ all → new ++ text_sets c n rest ≡ all
    rest_sets old new all made e =
        let one = text_sets c m (statement_of s falls) in
        ap (λ l. l ++ text_sets c n rest) made ∙ append_assoc old one (text_sets c n rest)
        ∙ ap (λ k. old ++ (one ++ text_sets c k rest)) behind
        ∙ ap (λ l. old ++ l) (sym (before_sets (plain_statement s) m rest))
        ∙ ap (λ t. old ++ text_sets c m t) (sym is) ∙ e

    pub rest_met : (old new all : List VariableSet) → new ≡ met c m (statement_of s falls) old → met c m t old ≡ all → met c n rest new ≡ all
    rest_met old new all made e =
        ap (met c n rest) made ∙ ap (λ k. met c k rest (met c m (statement_of s falls) old)) behind
        ∙ sym (before_met (plain_statement s) m rest old) ∙ ap (λ t. met c m t old) (sym is) ∙ e

    pub rest_left : (all : VariableSet) → left c m t ≡ all → left c n rest ≡ all
    rest_left all e = ap (λ k. left c k rest) behind ∙ sym (before_left (plain_statement s) m rest) ∙ ap (left c m) (sym is) ∙ e

  -- ---- an answer, and the answers after it

  module _ (at : ℕ) (rs : List Range) (body : Text) (choice others : Choice) (is : choice ≡ answer at rs body others) (m : VariableSet) where
    pub others_sets : (old new all : List VariableSet) → new ≡ old ++ (text_sets c m body ++ leave_sets (left c m body) body) → old ++ answers_sets c m choice ≡ all → new ++ answers_sets c m others ≡ all
    others_sets old new all made e =
        ap (λ l. l ++ answers_sets c m others) made ∙ append_assoc old (text_sets c m body ++ leave_sets (left c m body) body) (answers_sets c m others)
        ∙ ap (λ k. old ++ answers_sets c m k) (sym is) ∙ e

    pub others_met : (old new all : List VariableSet) → new ≡ met c m body old → answers_met c m choice old ≡ all → answers_met c m others new ≡ all
    others_met old new all made e = ap (answers_met c m others) made ∙ ap (λ k. answers_met c m k old) (sym is) ∙ e

    pub others_left : (now next one all : VariableSet) → next ≡ meet now one → one ≡ left c m body → answers_left c m now choice ≡ all → answers_left c m next others ≡ all
    others_left now next one all e f h = ap (λ k. answers_left c m k others) (e ∙ ap (meet now) f) ∙ ap (answers_left c m now) (sym is) ∙ h

    pub others_go : (now next one all : Bool) → next ≡ (now || one) → one ≡ goes_on body → (now || choice_goes_on choice) ≡ all → (next || choice_goes_on others) ≡ all
    others_go now next one all e f h =
        ap (λ b. b || choice_goes_on others) e ∙ or_three now one (choice_goes_on others) ∙ ap (λ b. now || (b || choice_goes_on others)) f
        ∙ ap (λ k. now || choice_goes_on k) (sym is) ∙ h

  -- ELSE is no answer
  pub no_sets : (o : Option Transition) (m : VariableSet) → answers_sets c m (else_choice o) ≡ []
  no_sets None m = refl
  no_sets (Some body) m = refl

  pub none_met : (o : Option Transition) (m : VariableSet) (es : List VariableSet) → answers_met c m (else_choice o) es ≡ es
  none_met None m es = refl
  none_met (Some body) m es = refl

  pub none_left : (o : Option Transition) (m all : VariableSet) → answers_left c m all (else_choice o) ≡ all
  none_left None m all = refl
  none_left (Some body) m all = refl

  -- ---- a body, and its jump if it goes on

  module _ (m n : VariableSet) (t : Text) (old one two : List VariableSet) (b : Bool) (first : one ≡ old ++ text_sets c m t) (goes : b ≡ goes_on t) where
    pub body_goes : n ≡ left c m t → b ≡ true → two ≡ one ++ n ∷ [] → two ≡ old ++ (text_sets c m t ++ leave_sets (left c m t) t)
    body_goes behind on made =
        let x = text_sets c m t in
        made ∙ ap (λ l. l ++ n ∷ []) first ∙ append_assoc old x (n ∷ []) ∙ ap (λ k. old ++ (x ++ k ∷ [])) behind
        ∙ ap (λ b. old ++ (x ++ cond b (left c m t ∷ []) [])) (sym on ∙ goes)

    pub body_ends : b ≡ false → two ≡ one → two ≡ old ++ (text_sets c m t ++ leave_sets (left c m t) t)
    body_ends off made =
        let x = text_sets c m t in
        made ∙ first ∙ ap (λ l. old ++ l) (sym (append-nil x)) ∙ ap (λ b. old ++ (x ++ cond b (left c m t ∷ []) [])) (sym off ∙ goes)
