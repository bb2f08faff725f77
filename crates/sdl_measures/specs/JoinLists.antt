-- The JOINs of a text in text order, defined by cases on its first statement.
use Rattle.std.specs.Prelude.{List, [], ◌++◌}
use Rattle.sdl_ast.specs.declared.tree.Join.{Join}
use Rattle.sdl_ast.specs.Plain.{Text, falls, ends, does, decides, Choice, nothing_else, otherwise}
use Rattle.sdl_ast.specs.Plain.{answer}
use Rattle.sdl_sound.specs.Statements.{end_joins}

abbrev mutual
  pub text_joins : Text → List Join
  text_joins falls = []
  text_joins (ends e) = end_joins e
  text_joins (does a rest) = text_joins rest
  text_joins (decides at q c rest) = choice_joins c ++ text_joins rest

  -- the JOINs in the answers of a DECISION
  pub choice_joins : Choice → List Join
  choice_joins nothing_else = []
  choice_joins (otherwise body) = text_joins body
  choice_joins (answer at ranges body others) = text_joins body ++ choice_joins others
