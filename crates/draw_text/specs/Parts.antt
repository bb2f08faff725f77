-- The parts of a drawing, in the order of the text: its symbols, and where branches begin and meet.
use Rattle.std.specs.Prelude.{ℕ, Bool, true, false, List, [], ◌∷◌, ◌++◌, map, codes, Option}
use Rattle.sdl_tables.specs.Names.{connector_names, states_of}
use Rattle.sdl_ast.specs.Plain.{Text, falls, ends, does, decides, Choice, nothing_else, otherwise}
use Rattle.sdl_ast.specs.Plain.{answer, PlainAction, task, output, set_timer, reset_timer}
use Rattle.sdl_ast.specs.Plain.{PlainBlock, PlainProcess, PlainSending, PlainAssignment, Tree}
use Rattle.sdl_ast.specs.declared.expression.Identifier.{Identifier}
use Rattle.sdl_ast.specs.declared.tree.End.{End}
use Rattle.sdl_ast.specs.declared.tree.End.TheVariants as the_ends
use Rattle.sdl_ast.specs.declared.tree.Destination.{Destination}
use Rattle.sdl_ast.specs.declared.tree.Range.{Range}
use Rattle.draw_text.specs.Written.{spelled, row_text}
use Rattle.draw_text.specs.Statements.{assignment_text, value_text, timer_text, sending_text}
use Rattle.draw_text.specs.Statements.{receiver_text, ranges_text}
use Rattle.draw_text.specs.declared.parts.Kind.{Kind}
use Rattle.draw_text.specs.declared.parts.Kind.TheVariants as kinds
use Rattle.draw_text.specs.declared.parts.Part.{Part}

-- A part: its kind, the place of its first byte in the text, and the words written in it.
pub record PlainPart : Type 0 where
  pub kind : Kind
  pub at : ℕ
  pub text : List ℕ

abbrev pub part_of : Part → PlainPart
part_of p = record { kind = p.kind; at = p.at; text = p.text.items }

abbrev pub symbol : Kind → ℕ → List ℕ → PlainPart
symbol kind at text = record { kind = kind; at = at; text = text }

-- a part that is no symbol
abbrev pub mark : Kind → PlainPart
mark kind = record { kind = kind; at = 0; text = [] }

abbrev pub is_symbol : Kind → Bool
is_symbol kinds.Start = true
is_symbol kinds.State = true
is_symbol kinds.Connector = true
is_symbol kinds.Input = true
is_symbol kinds.Save = true
is_symbol kinds.Task = true
is_symbol kinds.Output = true
is_symbol kinds.Question = true
is_symbol kinds.Answer = true
is_symbol kinds.NextState = true
is_symbol kinds.Join = true
is_symbol kinds.Stop = true
is_symbol kinds.Fork = false
is_symbol kinds.Branch = false
is_symbol kinds.Meet = false

-- ---- actions

-- the symbol of one signal of an OUTPUT: the signal and its receiver
abbrev pub sending_part : PlainBlock → PlainProcess → Option Destination → PlainSending → PlainPart
sending_part b p to s = record {
  kind = kinds.Output;
  at = s.signal.at;
  text = sending_text b p s ++ codes "\nTO " ++ receiver_text b p to s.signal;
}

-- the assignments of a TASK, each on its own line
abbrev pub task_text : PlainProcess → List PlainAssignment → List ℕ
task_text p assignments = row_text (assignment_text p) (codes "\n") assignments

abbrev pub set_text : PlainProcess → Tree → Identifier → List ℕ
set_text p delay timer =
    codes "SET(NOW + " ++ value_text p delay ++ codes ", " ++ timer_text p timer ++ codes ")"

abbrev pub reset_text : PlainProcess → Identifier → List ℕ
reset_text p timer = codes "RESET(" ++ timer_text p timer ++ codes ")"

-- the symbol of a TASK, SET or RESET; for an OUTPUT one symbol for each signal
abbrev pub action_parts : PlainBlock → PlainProcess → PlainAction → List PlainPart
action_parts b p (task at assignments) = symbol kinds.Task at (task_text p assignments) ∷ []
action_parts b p (output at sendings to) = map (sending_part b p to) sendings
action_parts b p (set_timer at delay timer) = symbol kinds.Task at (set_text p delay timer) ∷ []
action_parts b p (reset_timer at timer) = symbol kinds.Task at (reset_text p timer) ∷ []

-- the symbol that a transition ends with
abbrev pub end_part : PlainProcess → End → PlainPart
end_part p (the_ends.NextState n) =
    record { kind = kinds.NextState; at = n.at; text = spelled (states_of p) n.state.name }
end_part p (the_ends.Stop at) = record { kind = kinds.Stop; at = at; text = [] }
end_part p (the_ends.Join j) =
    record { kind = kinds.Join; at = j.at; text = spelled (connector_names p) j.connector.name }

-- ---- transitions

abbrev pub question_part : PlainProcess → ℕ → Tree → PlainPart
question_part p at question = symbol kinds.Question at (value_text p question)

-- the values that select an answer, in parentheses
abbrev pub answer_text : List Range → List ℕ
answer_text ranges = codes "(" ++ ranges_text ranges ++ codes ")"

abbrev pub else_part : PlainPart
else_part = record { kind = kinds.Answer; at = 0; text = codes "ELSE" }

abbrev mutual
  -- each statement in order; a DECISION is its question, then its answers as branches that meet
  pub text_parts : PlainBlock → PlainProcess → Text → List PlainPart
  text_parts b p falls = []
  text_parts b p (ends e) = end_part p e ∷ []
  text_parts b p (does a rest) = action_parts b p a ++ text_parts b p rest
  text_parts b p (decides at question choice rest) =
      question_part p at question ∷ mark kinds.Fork ∷ choice_parts b p choice
      ++ (mark kinds.Meet ∷ text_parts b p rest)

  -- a branch for each answer, headed by the values that select it; ELSE last
  pub choice_parts : PlainBlock → PlainProcess → Choice → List PlainPart
  choice_parts b p nothing_else = []
  choice_parts b p (otherwise t) = mark kinds.Branch ∷ else_part ∷ text_parts b p t
  choice_parts b p (answer at ranges t others) =
      mark kinds.Branch
      ∷ symbol kinds.Answer at (answer_text ranges)
      ∷ text_parts b p t ++ choice_parts b p others
