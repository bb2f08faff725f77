-- The statements in the parts of a transition, in the form in which the code visits them.
use Rattle.std.specs.Prelude.{List, [], ◌∷◌, Option, None, Some}
use Rattle.sdl_tables.specs.sdl_ast_types.tree.End.{End}
use Rattle.sdl_tables.specs.sdl_ast_types.tree.Statement as the_statement
use Rattle.sdl_tables.specs.sdl_ast_types.tree.Decision.{Decision, out-Decision}
use Rattle.sdl_tables.specs.sdl_ast_types.tree.Answer.{Answer}
use Rattle.sdl_tables.specs.Plain.{Tree, falls}
use Rattle.sdl_tables.specs.Views.{tree_of, text_of, statement_of, choice_of}
use Rattle.sdl_sound.specs.Statements.{Statement, asks, covers, finishes, statements_of}
use Rattle.sdl_sound.specs.Statements.{choice_statements}

abbrev pub statement_parts : the_statement.Statement → List Statement
statement_parts s = statements_of (statement_of s falls)

-- a DECISION as a statement
abbrev pub question_of : Decision → Statement
question_of d = asks (out-Decision d).at (tree_of (out-Decision d).question) (choice_of d)

abbrev pub decision_parts : Decision → List Statement
decision_parts d =
    question_of d ∷ choice_statements (tree_of (out-Decision d).question) (choice_of d)

abbrev pub answer_parts : Tree → Answer → List Statement
answer_parts q a = covers q a.ranges.items ∷ statements_of (text_of a.body)

abbrev pub end_parts : Option End → List Statement
end_parts None = []
end_parts (Some e) = finishes e ∷ []
