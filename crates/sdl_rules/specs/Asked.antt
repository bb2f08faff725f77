-- What each rule on statements checks in a single one.
use Rattle.std.specs.Prelude.{ℕ, Bool, true, false, List, [], ◌∷◌, Option, None, Some}
use Rattle.std.specs.List.{flat_map}
use Rattle.sdl_ast.specs.declared.tree.Destination.{Destination}
use Rattle.sdl_ast.specs.declared.tree.Destination.TheVariants.{Sender, Process}
use Rattle.sdl_ast.specs.Plain.{PlainAction, task, output, set_timer, reset_timer, PlainProcess}
use Rattle.sdl_ast.specs.Plain.{PlainBlock}
use Rattle.sdl_tables.specs.Names.{variables_of}
use Rattle.sdl_sound.specs.Statements.{Statement, acts, asks, covers, finishes}
use Rattle.sdl_sound.specs.Actions.{Origin}
use Rattle.sdl_sound.specs.Names.{statement_unknown}
use Rattle.sdl_sound.specs.Sorts.{wrong_statement}
use Rattle.sdl_sound.specs.Divisors.{statement_divisors}
use Rattle.sdl_sound.specs.Receivers.{lost_statement, doubtful_statement}
use Rattle.sdl_sound.specs.Decisions.{statement_unanswered}
use Rattle.sdl_rules.specs.declared.statements.StatementRule.{StatementRule}
use Rattle.sdl_rules.specs.declared.statements.StatementRule.TheVariants.{Names, Sorts, Receivers}
use Rattle.sdl_rules.specs.declared.statements.StatementRule.TheVariants.{OneReceiver, Answers}
use Rattle.sdl_rules.specs.declared.statements.StatementRule.TheVariants.{Divisors, NothingBack}

-- The place of TO SENDER, if this is the destination of an OUTPUT.
abbrev pub back_destination : Option Destination → List ℕ
back_destination None = []
back_destination (Some (Sender at)) = at ∷ []
back_destination (Some (Process id)) = []

abbrev pub back_action : PlainAction → List ℕ
back_action (task at assignments) = []
back_action (output at sendings to) = back_destination to
back_action (set_timer at delay timer) = []
back_action (reset_timer at timer) = []

abbrev pub back_statement : Statement → List ℕ
back_statement (acts a) = back_action a
back_statement (asks at q c) = []
back_statement (covers q ranges) = []
back_statement (finishes e) = []

abbrev pub asked : StatementRule → PlainBlock → PlainProcess → List Origin → Statement → List ℕ
asked Names b p from s = statement_unknown b p s
asked Sorts b p from s = wrong_statement b (variables_of p) s
asked Receivers b p from s = lost_statement b p from s
asked OneReceiver b p from s = doubtful_statement b p s
asked Answers b p from s = statement_unanswered (variables_of p) s
asked Divisors b p from s = statement_divisors s
asked NothingBack b p from s = back_statement s

-- What a rule checks in some statements.
abbrev pub asked_all :
    StatementRule → PlainBlock → PlainProcess → List Origin → List Statement → List ℕ
asked_all rule b p from statements = flat_map (asked rule b p from) statements

-- Whether a rule depends on what starts the transition.
abbrev pub asks_origin : StatementRule → Bool
asks_origin Names = false
asks_origin Sorts = false
asks_origin Receivers = true
asks_origin OneReceiver = false
asks_origin Answers = false
asks_origin Divisors = false
asks_origin NothingBack = false
