-- The mapping from the tree in the code to the plain tree.
use Rattle.std.specs.Prelude.{List, [], ◌∷◌, map, Option, None, Some}
use Rattle.sdl_ast.specs.Plain.{Tree, number, truth, variable, unary, binary, PlainAssignment}
use Rattle.sdl_ast.specs.Plain.{PlainSending, PlainAction, task, output, set_timer, reset_timer}
use Rattle.sdl_ast.specs.Plain.{Text, falls, ends, Choice, nothing_else, otherwise, PlainStatement}
use Rattle.sdl_ast.specs.Plain.{act, decide, PlainAnswer, before, all_before, all_answers}
use Rattle.sdl_ast.specs.Plain.{PlainConnection, PlainStimulus, PlainInput, PlainClause, input}
use Rattle.sdl_ast.specs.Plain.{save, PlainState, PlainStart, PlainGroup, PlainDeclaration}
use Rattle.sdl_ast.specs.Plain.{PlainSynonym, variables, timers, own_synonyms, PlainProcess}
use Rattle.sdl_ast.specs.Plain.{PlainPath, PlainRoute, PlainSignal, PlainEntity, signals, route}
use Rattle.sdl_ast.specs.Plain.{connect, synonyms, process, PlainBlock}
use Rattle.sdl_ast.specs.declared.expression.Expression.{Expression, Number, Truth, Variable}
use Rattle.sdl_ast.specs.declared.expression.Expression.{Unary', Binary'}
use Rattle.sdl_ast.specs.declared.tree.Assignment.{Assignment}
use Rattle.sdl_ast.specs.declared.tree.Action.{Action}
use Rattle.sdl_ast.specs.declared.tree.Action.TheVariants.{Task, Output, Set, Reset}
use Rattle.sdl_ast.specs.declared.tree.Sending.{Sending}
use Rattle.sdl_ast.specs.declared.tree.End.{End}
use Rattle.sdl_ast.specs.declared.tree.Transition.{Transition}
use Rattle.sdl_ast.specs.declared.tree.Statement.{Statement}
use Rattle.sdl_ast.specs.declared.tree.Decision.{Decision, out-Decision}
use Rattle.sdl_ast.specs.declared.tree.Answer.{Answer}
use Rattle.sdl_ast.specs.declared.tree.Connection.{Connection}
use Rattle.sdl_ast.specs.declared.tree.Statement.TheOpen.{Answer-F, Decision-F, Statement-F}
use Rattle.sdl_ast.specs.declared.tree.Statement.TheOpen.{Transition-F}
use Rattle.sdl_ast.specs.declared.tree.Statement.TheFolds.{fold-Transition, fold-Statement}
use Rattle.sdl_ast.specs.declared.tree.Statement.TheFolds.{fold-Decision, fold-Answer}
use Rattle.sdl_ast.specs.declared.tree.Stimulus.{Stimulus}
use Rattle.sdl_ast.specs.declared.tree.InputPart.{InputPart}
use Rattle.sdl_ast.specs.declared.tree.StateClause.{StateClause}
use Rattle.sdl_ast.specs.declared.tree.StateClause.TheVariants.{Input, Save}
use Rattle.sdl_ast.specs.declared.tree.StatePart.{StatePart}
use Rattle.sdl_ast.specs.declared.tree.Start.{Start}
use Rattle.sdl_ast.specs.declared.tree.Group.{Group}
use Rattle.sdl_ast.specs.declared.tree.Declaration.{Declaration}
use Rattle.sdl_ast.specs.declared.tree.Declaration.TheVariants as declarations
use Rattle.sdl_ast.specs.declared.tree.Synonym.{Synonym}
use Rattle.sdl_ast.specs.declared.tree.Process as the_process
use Rattle.sdl_ast.specs.declared.tree.Path as the_path
use Rattle.sdl_ast.specs.declared.tree.Route as the_route
use Rattle.sdl_ast.specs.declared.tree.SignalDeclaration.{SignalDeclaration}
use Rattle.sdl_ast.specs.declared.tree.Entity.{Entity}
use Rattle.sdl_ast.specs.declared.tree.Entity.TheVariants as entities
use Rattle.sdl_ast.specs.declared.tree.Block.{Block}

abbrev pub tree_of : Expression → Tree
tree_of (Number at value) = number at value
tree_of (Truth at value) = truth at value
tree_of (Variable at name) = variable at name
tree_of (Unary' at operator p operand) = unary at operator (tree_of operand)
tree_of (Binary' at operator p left q right) = binary at operator (tree_of left) (tree_of right)

abbrev pub assignment_of : Assignment → PlainAssignment
assignment_of a = record { variable = a.variable; value = tree_of a.value }

abbrev pub sending_of : Sending → PlainSending
sending_of s = record { signal = s.signal; parameters = map tree_of s.parameters.items }

abbrev pub action_of : Action → PlainAction
action_of (Task t) = task t.at (map assignment_of t.assignments.items)
action_of (Output o) = output o.at (map sending_of o.sendings.items) o.to
action_of (Set s) = set_timer s.at (tree_of s.delay) s.timer
action_of (Reset r) = reset_timer r.at r.timer

-- ---- transitions

abbrev pub end_text : Option End → Text
end_text None = falls
end_text (Some e) = ends e

abbrev pub else_text : Option Text → Choice
else_text None = nothing_else
else_text (Some body) = otherwise body

-- one layer of the tree, given the views of its parts
abbrev pub answer_step : Answer-F PlainStatement PlainAnswer PlainStatement Text → PlainAnswer
answer_step a = record { at = a.at; ranges = a.ranges.items; text = a.body }

abbrev pub decision_step :
    Decision-F PlainStatement PlainAnswer PlainStatement Text → PlainStatement
decision_step d =
    decide d.at (tree_of d.question) (all_answers d.answers.items (else_text d.otherwise))

abbrev pub statement_step :
    Statement-F PlainStatement PlainAnswer PlainStatement Text → PlainStatement
statement_step (Statement-F.Act a) = act (action_of a)
statement_step (Statement-F.Decide d) = d

abbrev pub transition_step : Transition-F PlainStatement PlainAnswer PlainStatement Text → Text
transition_step t = all_before t.statements.items (end_text t.end)

abbrev pub text_of : Transition → Text
text_of = fold-Transition PlainStatement PlainAnswer PlainStatement Text statement_step answer_step
    decision_step transition_step

-- the views of one statement, one DECISION and one answer, without those that follow
abbrev pub plain_statement : Statement → PlainStatement
plain_statement =
    fold-Statement PlainStatement PlainAnswer PlainStatement Text statement_step answer_step
    decision_step transition_step

abbrev pub plain_decision : Decision → PlainStatement
plain_decision =
    fold-Decision PlainStatement PlainAnswer PlainStatement Text statement_step answer_step
    decision_step transition_step

abbrev pub plain_answer : Answer → PlainAnswer
plain_answer =
    fold-Answer PlainStatement PlainAnswer PlainStatement Text statement_step answer_step
    decision_step transition_step

-- the views of statements, DECISIONs and answers, with those that follow
abbrev pub statement_of : Statement → Text → Text
statement_of s rest = before (plain_statement s) rest

abbrev pub decision_of : Decision → Text → Text
decision_of d rest = before (plain_decision d) rest

abbrev pub answer_of : Answer → Choice → Choice
answer_of a others = all_answers (plain_answer a ∷ []) others

abbrev pub statements_before : List Statement → Text → Text
statements_before ss rest = all_before (map plain_statement ss) rest

abbrev pub answers_before : List Answer → Choice → Choice
answers_before answers others = all_answers (map plain_answer answers) others

abbrev pub else_choice : Option Transition → Choice
else_choice None = nothing_else
else_choice (Some body) = otherwise (text_of body)

-- the answers of a DECISION, including ELSE
abbrev pub choice_of : Decision → Choice
choice_of d = answers_before (out-Decision d).answers.items (else_choice (out-Decision d).otherwise)

abbrev pub stimulus_of : Stimulus → PlainStimulus
stimulus_of s = record { name = s.name; places = s.places.items }

abbrev pub input_of : InputPart → PlainInput
input_of i =
    record { at = i.at; stimuli = map stimulus_of i.stimuli.items; text = text_of i.transition }

abbrev pub clause_of : StateClause → PlainClause
clause_of (Input i) = input (input_of i)
clause_of (Save names) = save names.items

abbrev pub state_of : StatePart → PlainState
state_of s = record { names = s.names.items; clauses = map clause_of s.clauses.items }

abbrev pub connection_of : Connection → PlainConnection
connection_of c = record { at = c.at; name = c.name; text = text_of c.transition }

abbrev pub start_of : Start → PlainStart
start_of s = record { at = s.at; text = text_of s.transition }

abbrev pub group_of : Group → PlainGroup
group_of g = record { names = g.names.items; sort = g.sort; initial = g.initial }

abbrev pub synonym_of : Synonym → PlainSynonym
synonym_of s = record { name = s.name; sort = s.sort; value = tree_of s.value }

abbrev pub declaration_of : Declaration → PlainDeclaration
declaration_of (declarations.Variables groups) = variables (map group_of groups.items)
declaration_of (declarations.Timers names) = timers names.items
declaration_of (declarations.Synonyms list) = own_synonyms (map synonym_of list.items)

abbrev pub process_of : the_process.Process → PlainProcess
process_of p = record {
  name = p.name;
  instances = p.instances;
  declarations = map declaration_of p.declarations.items;
  start = start_of p.start;
  states = map state_of p.states.items;
  connections = map connection_of p.connections.items;
}

abbrev pub path_of : the_path.Path → PlainPath
path_of p = record { from = p.from; to = p.to; signals = p.signals.items }

abbrev pub route_of : the_route.Route → PlainRoute
route_of r = record { name = r.name; paths = map path_of r.paths.items }

abbrev pub signal_of : SignalDeclaration → PlainSignal
signal_of s = record { name = s.name; parameters = s.parameters.items }

abbrev pub entity_of : Entity → PlainEntity
entity_of (entities.Signals declared) = signals (map signal_of declared.items)
entity_of (entities.Route r) = route (route_of r)
entity_of (entities.Connect c) = connect c.channels.items c.routes.items
entity_of (entities.Synonyms list) = synonyms (map synonym_of list.items)
entity_of (entities.Process p) = process (process_of p)

abbrev pub block_of : Block → PlainBlock
block_of b = record { name = b.name; entities = map entity_of b.entities.items }
