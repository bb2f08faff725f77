-- A text without TASKs that hold only quoted text: these have neither effects nor instructions.
use Rattle.std.specs.Prelude.{◌≡◌, map, Option, None, Some, Bool, true, false, List, [], ◌∷◌}
use Rattle.std.specs.Prelude.{if◌then◌else◌}
use Rattle.sdl_ast.specs.Plain.{PlainAction, task, output, set_timer, reset_timer, Text, falls}
use Rattle.sdl_ast.specs.Plain.{ends, does, decides, Choice, nothing_else, otherwise, answer}
use Rattle.sdl_ast.specs.Plain.{PlainStatement, act, decide, PlainAnswer, PlainConnection}
use Rattle.sdl_ast.specs.declared.tree.Transition.{Transition}
use Rattle.sdl_ast.specs.declared.tree.Statement.{Statement}
use Rattle.sdl_ast.specs.Views.{text_of, plain_statement}

-- An action before a text, unless it is such a TASK.
abbrev pub kept : PlainAction → Text → Text
kept (task at []) t = t
kept (task at (a ∷ rest)) t = does (task at (a ∷ rest)) t
kept (output at xs to) t = does (output at xs to) t
kept (set_timer at x n) t = does (set_timer at x n) t
kept (reset_timer at n) t = does (reset_timer at n) t

abbrev mutual
  pub trimmed : Text → Text
  trimmed falls = falls
  trimmed (ends e) = ends e
  trimmed (does a rest) = kept a (trimmed rest)
  trimmed (decides at q choice rest) = decides at q (trimmed_choice choice) (trimmed rest)

  pub trimmed_choice : Choice → Choice
  trimmed_choice nothing_else = nothing_else
  trimmed_choice (otherwise body) = otherwise (trimmed body)
  trimmed_choice (answer at rs body others) = answer at rs (trimmed body) (trimmed_choice others)

-- ---- the same for statements without a rest

-- Whether an action is a TASK that holds only quoted text.
abbrev pub is_quoted : PlainAction → Bool
is_quoted (task at []) = true
is_quoted (task at (a ∷ rest)) = false
is_quoted (output at xs to) = false
is_quoted (set_timer at x n) = false
is_quoted (reset_timer at n) = false

abbrev pub trimmed_decision : PlainStatement → PlainStatement
trimmed_decision (act a) = act a
trimmed_decision (decide at q choice) = decide at q (trimmed_choice choice)

abbrev pub trimmed_statement : PlainStatement → List PlainStatement
trimmed_statement (act a) = if is_quoted a then [] else act a ∷ []
trimmed_statement (decide at q choice) = decide at q (trimmed_choice choice) ∷ []

-- A statement, if it is kept.
abbrev pub kept_statement : Option Statement → List PlainStatement
kept_statement None = []
kept_statement (Some s) = plain_statement s ∷ []

abbrev pub trimmed_answer : PlainAnswer → PlainAnswer
trimmed_answer a = record { at = a.at; ranges = a.ranges; text = trimmed a.text }

-- The copies are the trimmed texts of the connections.
abbrev pub AreTrimmed : List PlainConnection → List Transition → Type 0
AreTrimmed connections copies =
    map text_of copies ≡ map (λ (c : PlainConnection). trimmed c.text) connections
