-- The end of a body, the code of one statement, and what follows the last item of a list.
use Rattle.std.proofs.Common.{◌≡◌, ℕ, ◌+◌, ◌≤◌, Bool, List, [], ◌++◌, length, drop, Option, Some, None, refl, sym, ap, ◌∙◌, append_assoc, length-append}
use Rattle.std.proofs.lemmas.List.{drop_all}
use Rattle.sdl_ast.specs.declared.tree.Action.{Action}
use Rattle.sdl_ast.specs.declared.tree.Answer.{Answer}
use Rattle.sdl_ast.specs.declared.tree.Decision.{Decision, out-Decision}
use Rattle.sdl_ast.specs.declared.tree.Statement.{Statement}
use Rattle.sdl_ast.specs.declared.tree.Statement.TheVariants.{Act, Decide}
use Rattle.sdl_ast.specs.declared.tree.Transition.{Transition}
use Rattle.sdl_ast.specs.Plain.{Text, does, decides, Choice, before}
use Rattle.sdl_ast.specs.Views.{tree_of, action_of, decision_of, choice_of, statement_of, statements_before, answers_before, else_choice}
use Rattle.sdl_ast.proofs.Views.{plain_decides, statement_of-act, statement_of-decide}
use Rattle.turn_code.specs.declared.instruction.Instruction.{Instruction}
use Rattle.sdl_sound.specs.Going.{goes_on}
use Rattle.sdl_meaning.specs.Outcomes.{Scope}
use Rattle.sdl_meaning.specs.Code.{leave_code, text_code, answers_code}
use Rattle.sdl_emit.specs.Landing.{left_jump, left_place, leave_place, answers_leave, starts_from}

-- ---- after the last item

pub statements_past : {A : Type 0} (f : Text → A) (all : A) (ss : List Statement) (i : ℕ) (last : Text) → length ss ≤ i → f (statements_before (drop i ss) last) ≡ all → f last ≡ all
statements_past f all ss i last past h = ap (λ l. f (statements_before l last)) (sym (drop_all i ss past)) ∙ h

pub answers_past : {A : Type 0} (f : Choice → A) (all : A) (xs : List Answer) (i : ℕ) (others : Choice) → length xs ≤ i → f (answers_before (drop i xs) others) ≡ all → f others ≡ all
answers_past f all xs i others past h = ap (λ l. f (answers_before l others)) (sym (drop_all i xs past)) ∙ h

-- ---- one statement

pub acted : (s : Statement) (a : Action) → s ≡ Act a → (rest : Text) → statement_of s rest ≡ does (action_of a) rest
acted s a e rest = ap (λ s. statement_of s rest) e ∙ statement_of-act a rest

pub decided : (s : Statement) (d : Decision) → s ≡ Decide d → (rest : Text) → statement_of s rest ≡ decides (out-Decision d).at (tree_of (out-Decision d).question) (choice_of d) rest
decided s d e rest = ap (λ s. statement_of s rest) e ∙ statement_of-decide d rest

pub is_decision : (s : Statement) (d : Decision) → s ≡ Decide d → (rest : Text) → statement_of s rest ≡ decision_of d rest
is_decision s d e rest = ap (λ s. statement_of s rest) e ∙ ap (λ p. before p rest) (plain_decides d)

-- ---- ELSE is no answer

module _ (c : Scope) (n : ℕ) where
  pub no_code : (to : ℕ → ℕ) (after : ℕ) (o : Option Transition) → answers_code c to n after (else_choice o) ≡ []
  no_code to after None = refl
  no_code to after (Some body) = refl

  pub no_leave : (to : ℕ → ℕ) (o : Option Transition) → answers_leave c to n (else_choice o) ≡ []
  no_leave to None = refl
  no_leave to (Some body) = refl

  pub no_starts : (o : Option Transition) → starts_from c n (else_choice o) ≡ []
  no_starts None = refl
  no_starts (Some body) = refl

-- ---- a body, and its jump if it goes on

module _ (c : Scope) (to : ℕ → ℕ) (t : Text) (old one : List Instruction) (b : Bool) (made : one ≡ old ++ text_code c to (length old) t) (goes : b ≡ goes_on t) where
  text_end : length one ≡ length old + length (text_code c to (length old) t)
  text_end = ap length made ∙ length-append old (text_code c to (length old) t)

  pub left_code : (two : List Instruction) → two ≡ one ++ left_jump b → two ≡ old ++ (text_code c to (length old) t ++ leave_code 0 t)
  left_code two put = put ∙ ap (λ b. one ++ left_jump b) goes ∙ ap (λ l. l ++ leave_code 0 t) made ∙ append_assoc old (text_code c to (length old) t) (leave_code 0 t)

  pub left_told : (js ks : List ℕ) → ks ≡ js ++ left_place b (length one) → ks ≡ js ++ leave_place c to (length old) t
  left_told js ks push =
      push ∙ ap (λ n. js ++ left_place b n) text_end ∙ ap (λ b. js ++ left_place b (length old + length (text_code c to (length old) t))) goes
