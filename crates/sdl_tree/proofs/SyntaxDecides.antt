-- The reading of each production decides it. tools/productions writes the proofs from Syntax.
use Rattle.std.specs.Prelude.{ℕ, List, Some, None}
use Rattle.std.specs.List.{filter_map}
use Rattle.sdl_lex.specs.declared.lexemes.Word.TheVariants as words
use Rattle.sdl_lex.specs.declared.lexemes.Symbol.TheVariants.{Comma, Assign, Open, Close, Plus, Colon}
use Rattle.sdl_ast.specs.declared.tree.End.TheVariants.{NextState, Stop, Join}
use Rattle.sdl_ast.specs.declared.tree.Range.TheVariants.{Compared}
use Rattle.sdl_ast.specs.Plain.{task, output, set_timer, reset_timer, process, input, save, in_state, in_connection, process_head, process_from, from_to}
use Rattle.sdl_productions.specs.Tokens.{a_word, a_symbol, a_number, a_name, a_count, the_number, a_closing, a_quoted, a_destination, an_entity, a_declaration, a_clause, a_relation, a_section}
use Rattle.sdl_productions.specs.Bodies.{whole_texts}
use Rattle.sdl_tree.specs.Syntax.{place_syntax, stimulus_syntax, assignment_syntax, assigned_syntax, quoted_syntax, item_syntax, task_syntax, sending_syntax, destination_syntax, output_syntax, delay_syntax, set_syntax, reset_syntax, action_syntax, next_state_syntax, stop_syntax, end_syntax, text_syntax, input_syntax, save_syntax, clause_syntax, closing_syntax, end_state_syntax, state_syntax, start_syntax, second_number_syntax, instances_syntax, process_head_syntax, process_syntax, entity_syntax, block_syntax, compared_syntax, upper_syntax, value_syntax, range_syntax, answer_head_syntax, else_head_syntax, some_head_syntax, no_head_syntax, head_syntax, question_syntax, end_decision_syntax, join_syntax, end_connection_syntax, connection_syntax, state_section_syntax, connection_section_syntax, section_syntax}
use Rattle.sdl_productions.specs.Productions.{place_at, stimulus_at, assignment_at, assigned_at, quoted_at, item_at, task_at, sending_at, destination_at, output_at, delay_at, set_at, reset_at, action_at, next_state_at, stop_at, end_at, text_at, input_at, save_at, clause_at, closing_at, end_state_at, state_at, start_at, second_number_at, instances_at, process_head_at, process_at, entity_at, block_at, compared_at, upper_at, value_at, range_at, answer_head_at, else_head_at, some_head_at, no_head_at, head_at, question_at, end_decision_at, join_at, end_connection_at, connection_at, state_section_at, connection_section_at, section_at}
use Rattle.sdl_productions.proofs.Lengths.{declaration_takes, clause_takes, entity_takes, section_takes}
use Rattle.sdl_productions.proofs.Decides.{Decides, give_decides, token_decides, choice_decides, optional_decides, ◌>>=◌}
use Rattle.sdl_productions.proofs.Rows.{many_decides, separated_from_decides, separated_decides, list_decides}
use Rattle.sdl_productions.proofs.SoundLemmas.{expression_decides}
use Rattle.sdl_tree.proofs.TextDecides.{text_decides_from}
use Rattle.sdl_tree.proofs.DeclarationsDecide.{whole, names_decides, terminator_decides, signals_decides, route_decides, connect_decides, constant_decides, declaration_decides, block_synonyms_decides}

place_decides : Decides place_syntax place_at
unfolding place_syntax place_at
place_decides = optional_decides a_name (token_decides a_name)

pub stimulus_decides : Decides stimulus_syntax stimulus_at
unfolding stimulus_syntax stimulus_at
stimulus_decides = do
  name ← token_decides a_name
  places ← list_decides place_decides
  give_decides (record { name = name; places = places })

assignment_decides : Decides assignment_syntax (assignment_at whole)
unfolding assignment_syntax assignment_at
assignment_decides = do
  variable ← token_decides a_name
  _ ← token_decides (a_symbol Assign)
  value ← expression_decides
  give_decides (record { variable = variable; value = value })

assigned_decides : Decides assigned_syntax (assigned_at whole)
unfolding assigned_syntax assigned_at
assigned_decides = do
  assignment ← assignment_decides
  give_decides (Some assignment)

quoted_decides : Decides quoted_syntax quoted_at
unfolding quoted_syntax quoted_at
quoted_decides = do
  _ ← token_decides a_quoted
  give_decides None

item_decides : Decides item_syntax (item_at whole)
unfolding item_syntax item_at
item_decides = choice_decides a_quoted quoted_decides assigned_decides

task_decides : Decides task_syntax (task_at whole)
unfolding task_syntax task_at
task_decides = do
  at ← token_decides (a_word words.Task)
  items ← separated_decides item_decides
  _ ← terminator_decides
  give_decides (task at (filter_map (λ i. i) items))

sending_decides : Decides sending_syntax (sending_at whole)
unfolding sending_syntax sending_at
sending_decides = do
  signal ← token_decides a_name
  parameters ← list_decides expression_decides
  give_decides (record { signal = signal; parameters = parameters })

destination_decides : Decides destination_syntax destination_at
unfolding destination_syntax destination_at
destination_decides = do
  _ ← token_decides (a_word words.To)
  token_decides a_destination

output_decides : Decides output_syntax (output_at whole)
unfolding output_syntax output_at
output_decides = do
  at ← token_decides (a_word words.Output)
  sendings ← separated_decides sending_decides
  to ← optional_decides (a_word words.To) destination_decides
  _ ← terminator_decides
  give_decides (output at sendings to)

delay_decides : Decides delay_syntax (delay_at whole)
unfolding delay_syntax delay_at
delay_decides = do
  _ ← token_decides (a_symbol Open)
  _ ← token_decides (a_word words.Now)
  _ ← token_decides (a_symbol Plus)
  delay ← expression_decides
  _ ← token_decides (a_symbol Comma)
  give_decides delay

set_decides : Decides set_syntax (set_at whole)
unfolding set_syntax set_at
set_decides = do
  at ← token_decides (a_word words.Set)
  delay ← delay_decides
  timer ← token_decides a_name
  _ ← token_decides (a_symbol Close)
  _ ← terminator_decides
  give_decides (set_timer at delay timer)

reset_decides : Decides reset_syntax reset_at
unfolding reset_syntax reset_at
reset_decides = do
  at ← token_decides (a_word words.Reset)
  _ ← token_decides (a_symbol Open)
  timer ← token_decides a_name
  _ ← token_decides (a_symbol Close)
  _ ← terminator_decides
  give_decides (reset_timer at timer)

pub action_decides : Decides action_syntax (action_at whole)
unfolding action_syntax action_at
action_decides = choice_decides (a_word words.Task) task_decides (choice_decides (a_word words.Output) output_decides (choice_decides (a_word words.Set) set_decides reset_decides))

compared_decides : Decides compared_syntax compared_at
unfolding compared_syntax compared_at
compared_decides = do
  compared ← token_decides a_relation
  constant ← constant_decides
  give_decides (Compared compared.at compared.relation constant)

upper_decides : Decides upper_syntax upper_at
unfolding upper_syntax upper_at
upper_decides = do
  _ ← token_decides (a_symbol Colon)
  constant_decides

value_decides : Decides value_syntax value_at
unfolding value_syntax value_at
value_decides = do
  low ← constant_decides
  high ← optional_decides (a_symbol Colon) upper_decides
  give_decides (from_to low high)

range_decides : Decides range_syntax range_at
unfolding range_syntax range_at
range_decides = choice_decides a_relation compared_decides value_decides

pub answer_head_decides : Decides answer_head_syntax answer_head_at
unfolding answer_head_syntax answer_head_at
answer_head_decides = do
  at ← token_decides (a_symbol Open)
  ranges ← separated_decides range_decides
  _ ← token_decides (a_symbol Close)
  _ ← token_decides (a_symbol Colon)
  give_decides (record { at = at; ranges = ranges })

pub else_head_decides : Decides else_head_syntax else_head_at
unfolding else_head_syntax else_head_at
else_head_decides = do
  at ← token_decides (a_word words.Else)
  _ ← token_decides (a_symbol Colon)
  give_decides at

some_head_decides : Decides some_head_syntax some_head_at
unfolding some_head_syntax some_head_at
some_head_decides = do
  head ← answer_head_decides
  give_decides (Some head)

no_head_decides : Decides no_head_syntax no_head_at
unfolding no_head_syntax no_head_at
no_head_decides = do
  _ ← else_head_decides
  give_decides None

pub head_decides : Decides head_syntax head_at
unfolding head_syntax head_at
head_decides = choice_decides (a_symbol Open) some_head_decides no_head_decides

pub question_decides : Decides question_syntax (question_at whole)
unfolding question_syntax question_at
question_decides = do
  at ← token_decides (a_word words.Decision)
  question ← expression_decides
  _ ← terminator_decides
  give_decides (record { at = at; question = question })

pub end_decision_decides : Decides end_decision_syntax end_decision_at
unfolding end_decision_syntax end_decision_at
end_decision_decides = do
  at ← token_decides (a_word words.EndDecision)
  _ ← terminator_decides
  give_decides at

next_state_decides : Decides next_state_syntax next_state_at
unfolding next_state_syntax next_state_at
next_state_decides = do
  at ← token_decides (a_word words.NextState)
  state ← token_decides a_name
  _ ← terminator_decides
  give_decides (NextState (record { at = at; state = state }))

stop_decides : Decides stop_syntax stop_at
unfolding stop_syntax stop_at
stop_decides = do
  at ← token_decides (a_word words.Stop)
  _ ← terminator_decides
  give_decides (Stop at)

join_decides : Decides join_syntax join_at
unfolding join_syntax join_at
join_decides = do
  at ← token_decides (a_word words.Join)
  connector ← token_decides a_name
  _ ← terminator_decides
  give_decides (Join (record { at = at; connector = connector }))

pub end_decides : Decides end_syntax end_at
unfolding end_syntax end_at
end_decides = choice_decides (a_word words.NextState) next_state_decides (choice_decides (a_word words.Stop) stop_decides join_decides)

text_decides : Decides text_syntax (text_at whole_texts)
text_decides = text_decides_from (record { action = action_decides; question = question_decides; head = head_decides; closing = end_decision_decides; last = end_decides })

input_decides : Decides input_syntax input_at
unfolding input_syntax input_at
input_decides = do
  at ← token_decides (a_word words.Input)
  stimuli ← separated_decides stimulus_decides
  _ ← terminator_decides
  text ← text_decides
  give_decides (input (record { at = at; stimuli = stimuli; text = text }))

save_decides : Decides save_syntax save_at
unfolding save_syntax save_at
save_decides = do
  _ ← token_decides (a_word words.Save)
  names ← names_decides
  _ ← terminator_decides
  give_decides (save names)

clause_decides : Decides clause_syntax clause_at
unfolding clause_syntax clause_at
clause_decides = choice_decides (a_word words.Input) input_decides save_decides

pub closing_decides : (name : List ℕ) → Decides (closing_syntax name) (closing_at name)
unfolding closing_syntax closing_at
closing_decides name = do
  closing ← optional_decides a_name (token_decides (a_closing name))
  _ ← terminator_decides
  give_decides closing

pub end_state_decides : (name : List ℕ) → Decides (end_state_syntax name) (end_state_at name)
unfolding end_state_syntax end_state_at
end_state_decides name = do
  _ ← token_decides (a_word words.EndState)
  closing_decides name

state_decides : Decides state_syntax state_at
unfolding state_syntax state_at
state_decides = do
  _ ← token_decides (a_word words.State)
  name ← token_decides a_name
  names ← separated_from_decides name (token_decides a_name)
  _ ← terminator_decides
  clauses ← many_decides a_clause clause_takes clause_decides
  _ ← optional_decides (a_word words.EndState) (end_state_decides name.name)
  give_decides (record { names = names; clauses = clauses })

pub end_connection_decides : (name : List ℕ) → Decides (end_connection_syntax name) (end_connection_at name)
unfolding end_connection_syntax end_connection_at
end_connection_decides name = do
  _ ← token_decides (a_word words.EndConnection)
  closing_decides name

connection_decides : Decides connection_syntax connection_at
unfolding connection_syntax connection_at
connection_decides = do
  at ← token_decides (a_word words.Connection)
  name ← token_decides a_name
  _ ← token_decides (a_symbol Colon)
  text ← text_decides
  _ ← optional_decides (a_word words.EndConnection) (end_connection_decides name.name)
  give_decides (record { at = at; name = name; text = text })

state_section_decides : Decides state_section_syntax state_section_at
unfolding state_section_syntax state_section_at
state_section_decides = do
  state ← state_decides
  give_decides (in_state state)

connection_section_decides : Decides connection_section_syntax connection_section_at
unfolding connection_section_syntax connection_section_at
connection_section_decides = do
  connection ← connection_decides
  give_decides (in_connection connection)

section_decides : Decides section_syntax section_at
unfolding section_syntax section_at
section_decides = choice_decides (a_word words.State) state_section_decides connection_section_decides

start_decides : Decides start_syntax start_at
unfolding start_syntax start_at
start_decides = do
  at ← token_decides (a_word words.Start)
  _ ← terminator_decides
  text ← text_decides
  give_decides (record { at = at; text = text })

second_number_decides : (first : ℕ) → Decides (second_number_syntax first) (second_number_at first)
unfolding second_number_syntax second_number_at
second_number_decides first = do
  _ ← token_decides (a_symbol Comma)
  optional_decides a_number (token_decides (the_number first))

instances_decides : Decides instances_syntax instances_at
unfolding instances_syntax instances_at
instances_decides = do
  _ ← token_decides (a_symbol Open)
  first ← token_decides a_count
  _ ← optional_decides (a_symbol Comma) (second_number_decides first)
  _ ← token_decides (a_symbol Close)
  give_decides first

pub process_head_decides : Decides process_head_syntax process_head_at
unfolding process_head_syntax process_head_at
process_head_decides = do
  _ ← token_decides (a_word words.Process)
  name ← token_decides a_name
  instances ← optional_decides (a_symbol Open) instances_decides
  _ ← terminator_decides
  give_decides (process_head name instances)

process_decides : Decides process_syntax process_at
unfolding process_syntax process_at
process_decides = do
  head ← process_head_decides
  declarations ← many_decides a_declaration declaration_takes declaration_decides
  start ← start_decides
  sections ← many_decides a_section section_takes section_decides
  _ ← token_decides (a_word words.EndProcess)
  _ ← closing_decides head.name.name
  give_decides (process (process_from head declarations start sections))

entity_decides : Decides entity_syntax entity_at
unfolding entity_syntax entity_at
entity_decides = choice_decides (a_word words.Signal) signals_decides (choice_decides (a_word words.SignalRoute) route_decides (choice_decides (a_word words.Connect) connect_decides (choice_decides (a_word words.Synonym) block_synonyms_decides process_decides)))

pub block_decides : Decides block_syntax block_at
unfolding block_syntax block_at
block_decides = do
  _ ← token_decides (a_word words.Block)
  name ← token_decides a_name
  _ ← terminator_decides
  entities ← many_decides an_entity entity_takes entity_decides
  _ ← token_decides (a_word words.EndBlock)
  _ ← closing_decides name.name
  give_decides (record { name = name; entities = entities })
