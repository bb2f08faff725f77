-- The state kept while a transition is read statement by statement. Each open DECISION keeps the
-- statements before it and the part of it that was read.
use Rattle.std.specs.Prelude.{[], ◌∷◌, ◌++◌, List, Option}
use Rattle.sdl_ast.specs.declared.tree.End.{End}
use Rattle.sdl_ast.specs.Plain.{Text, Choice, nothing_else, otherwise, PlainAction, PlainStatement}
use Rattle.sdl_ast.specs.Plain.{act, decide, PlainAnswer, PlainQuestion, PlainHead, all_before}
use Rattle.sdl_ast.specs.Plain.{all_answers}
use Rattle.sdl_ast.specs.Views.{end_text}
use Rattle.sdl_ast.specs.Heights.{high_in_statement}
use Rattle.sdl_productions.specs.Machine.{Build, whole_trees, low_trees}
use Rattle.sdl_productions.specs.Marks.{Marked, kept, marked, map_marked, more, decided}

-- How parts are kept: S the statements so far, A the answers so far, C the ELSE of a DECISION or
-- none, T a transition.
pub record Keeping (S A C T : Type 0) : Type 0 where
  pub trees : Build
  pub no_statement : S
  pub no_answer : A
  -- appends an action, or a DECISION
  pub acts : S → PlainAction → S
  pub decides : S → PlainQuestion → A → C → S
  -- appends an answer
  pub answers : A → PlainHead → T → A
  pub no_else : C
  pub with_else : T → C
  -- the statements, with the end after them
  pub ended : S → Option End → T

abbrev pub plain_answer_of : PlainHead → Text → PlainAnswer
plain_answer_of h text = record { at = h.at; ranges = h.ranges; text = text }

-- keeps all of the text, as the grammar defines it
abbrev pub whole_texts : Keeping (List PlainStatement) (List PlainAnswer) Choice Text
whole_texts = record {
  trees = whole_trees;
  no_statement = [];
  no_answer = [];
  acts = λ ss action. ss ++ act action ∷ [];
  decides = λ ss asked answers others. ss
      ++ decide asked.at asked.question (all_answers answers others) ∷ [];
  answers = λ answers h text. answers ++ plain_answer_of h text ∷ [];
  no_else = nothing_else;
  with_else = λ text. otherwise text;
  ended = λ ss last. all_before ss (end_text last);
}

-- keeps the text up to the first statement that is too high, and from there on only its place
abbrev pub marked_texts :
    Keeping (Marked (List PlainStatement)) (Marked (List PlainAnswer)) (Marked Choice) (Marked Text)
marked_texts = record {
  trees = low_trees;
  no_statement = kept [];
  no_answer = kept [];
  acts = λ ss action. more ss (marked high_in_statement (act action));
  decides = λ ss asked answers others. more ss (decided asked answers others);
  answers = λ answers h text. more answers (map_marked (plain_answer_of h) text);
  no_else = kept nothing_else;
  with_else = λ text. map_marked (λ t. otherwise t) text;
  ended = λ ss last. map_marked (λ xs. all_before xs (end_text last)) ss;
}

-- An open DECISION: the statements before it, its question, and the answers read completely.
pub record Branching (S A : Type 0) : Type 0 where
  pub before : S
  pub asked : PlainQuestion
  pub answers : A

-- appends an answer that was read completely
abbrev pub with_answer :
    {S A C T : Type 0} → Keeping S A C T → Branching S A → PlainHead → T → Branching S A
with_answer k d h text =
    record { before = d.before; asked = d.asked; answers = k.answers d.answers h text }

-- an open body, with the head of its answer, or none for ELSE
pub record Body (S A : Type 0) : Type 0 where
  pub branching : Branching S A
  pub head : Option PlainHead

-- the open bodies, innermost first, and the statements so far in the innermost
pub record Reached (S A : Type 0) : Type 0 where
  pub outer : List (Body S A)
  pub here : S

-- the result of one step: a further state, or the whole transition
pub data Move (S A T : Type 0) : Type 0 where
  reaches : Reached S A → Move S A T
  closes : T → Move S A T

-- the types for a text kept completely
abbrev pub WholeBranching : Type 0
WholeBranching = Branching (List PlainStatement) (List PlainAnswer)

abbrev pub WholeBody : Type 0
WholeBody = Body (List PlainStatement) (List PlainAnswer)

abbrev pub WholeReached : Type 0
WholeReached = Reached (List PlainStatement) (List PlainAnswer)

abbrev pub WholeMove : Type 0
WholeMove = Move (List PlainStatement) (List PlainAnswer) Text

-- the types for a text kept up to the first mark, as the code keeps it
abbrev pub MarkedBranching : Type 0
MarkedBranching = Branching (Marked (List PlainStatement)) (Marked (List PlainAnswer))

abbrev pub MarkedBody : Type 0
MarkedBody = Body (Marked (List PlainStatement)) (Marked (List PlainAnswer))

abbrev pub MarkedReached : Type 0
MarkedReached = Reached (Marked (List PlainStatement)) (Marked (List PlainAnswer))

abbrev pub MarkedMove : Type 0
MarkedMove = Move (Marked (List PlainStatement)) (Marked (List PlainAnswer)) (Marked Text)
