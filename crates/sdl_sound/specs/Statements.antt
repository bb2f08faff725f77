-- The statements of a transition in text order, including those in the answers of its DECISIONs.
-- (Z.100: transitions, decisions.)
use Rattle.std.specs.Prelude.{ℕ, List, [], ◌∷◌, ◌++◌}
use Rattle.std.specs.List.{flat_map}
use Rattle.sdl_tables.specs.sdl_ast_types.tree.Range.{Range}
use Rattle.sdl_tables.specs.sdl_ast_types.tree.Join.{Join}
use Rattle.sdl_tables.specs.sdl_ast_types.tree.End.{End}
use Rattle.sdl_tables.specs.sdl_ast_types.tree.End.TheVariants as how
use Rattle.sdl_tables.specs.Plain.{Tree, PlainAction, Text, falls, ends, does, decides, Choice}
use Rattle.sdl_tables.specs.Plain.{nothing_else, otherwise, answer}

pub data Statement : Type 0 where
  acts : PlainAction → Statement
  -- a DECISION: its place, the question, and the answers
  asks : ℕ → Tree → Choice → Statement
  -- an answer: the question, and the values that the answer matches
  covers : Tree → List Range → Statement
  -- a NEXTSTATE, STOP or JOIN
  finishes : End → Statement

abbrev mutual
  pub statements_of : Text → List Statement
  statements_of falls = []
  statements_of (ends e) = finishes e ∷ []
  statements_of (does a rest) = acts a ∷ statements_of rest
  statements_of (decides at q c rest) = asks at q c ∷ (choice_statements q c ++ statements_of rest)

  -- the answers to a question, and the statements in their bodies
  pub choice_statements : Tree → Choice → List Statement
  choice_statements q nothing_else = []
  choice_statements q (otherwise body) = statements_of body
  choice_statements q (answer at ranges body others) =
      covers q ranges ∷ (statements_of body ++ choice_statements q others)

-- ---- the JOINs

abbrev pub end_joins : End → List Join
end_joins (how.NextState n) = []
end_joins (how.Stop at) = []
end_joins (how.Join j) = j ∷ []

abbrev pub statement_joins : Statement → List Join
statement_joins (acts a) = []
statement_joins (asks at q c) = []
statement_joins (covers q ranges) = []
statement_joins (finishes e) = end_joins e

abbrev pub joins_of : Text → List Join
joins_of t = flat_map statement_joins (statements_of t)
