-- The readings of productions, one step each. `e` reads an expression, `k` states how a transition
-- is kept. tools/productions writes them from Syntax, except the steps of a transition.
use Rattle.std.specs.Prelude.{ℕ, suc, zero, List, [], ◌∷◌, length, Option, Some, None}
use Rattle.std.specs.List.{filter_map}
use Rattle.sdl_lex.specs.declared.lexemes.Word.TheVariants as words
use Rattle.sdl_lex.specs.declared.lexemes.Symbol.TheVariants.{Comma, Assign, Open, Close, Plus}
use Rattle.sdl_lex.specs.declared.lexemes.Symbol.TheVariants.{Colon}
use Rattle.sdl_ast.specs.declared.expression.Identifier.{Identifier}
use Rattle.sdl_ast.specs.declared.tree.Constant.{Constant}
use Rattle.sdl_ast.specs.declared.tree.Destination.{Destination}
use Rattle.sdl_ast.specs.declared.tree.End.{End}
use Rattle.sdl_ast.specs.declared.tree.End.TheVariants.{NextState, Stop, Join}
use Rattle.sdl_ast.specs.declared.tree.Range.{Range}
use Rattle.sdl_ast.specs.declared.tree.Range.TheVariants.{Compared}
use Rattle.sdl_ast.specs.Plain.{Tree, PlainAssignment, PlainSending, PlainAction, task, output}
use Rattle.sdl_ast.specs.Plain.{set_timer, reset_timer, PlainQuestion, PlainHead, PlainStimulus}
use Rattle.sdl_ast.specs.Plain.{PlainClause, input, save, PlainState, PlainStart, PlainEntity}
use Rattle.sdl_ast.specs.Plain.{process, PlainBlock, PlainConnection, PlainSection, in_state}
use Rattle.sdl_ast.specs.Plain.{in_connection, PlainProcessHead, process_head, process_from}
use Rattle.sdl_ast.specs.Plain.{from_to}
use Rattle.sdl_productions.specs.Tokens.{a_word, a_symbol, a_number, a_name, a_count, the_number}
use Rattle.sdl_productions.specs.Tokens.{a_closing, a_quoted, a_destination, an_entity}
use Rattle.sdl_productions.specs.Tokens.{a_declaration, a_clause, an_action, an_end, a_choice}
use Rattle.sdl_productions.specs.Tokens.{a_relation, a_section}
use Rattle.sdl_productions.specs.Machine.{expression_at}
use Rattle.sdl_productions.specs.Bodies.{Keeping, whole_texts, Branching, Body, Reached, Move}
use Rattle.sdl_productions.specs.Bodies.{reaches, closes, with_answer}
use Rattle.sdl_productions.specs.Readings.{At, fails, give, token, ◌>>=◌, many, choice, optional}
use Rattle.sdl_productions.specs.Readings.{separated_from, separated, list_in_parentheses}
use Rattle.sdl_productions.specs.DeclarationProductions.{names_at, terminator_at, signals_at}
use Rattle.sdl_productions.specs.DeclarationProductions.{route_at, connect_at, constant_at}
use Rattle.sdl_productions.specs.DeclarationProductions.{declaration_at, block_synonyms_at}

unfoldable pub place_at : At (Option Identifier)
place_at = optional a_name (token a_name)

unfoldable pub stimulus_at : At PlainStimulus
stimulus_at = do
  name ← token a_name
  places ← list_in_parentheses place_at
  give (record { name = name; places = places })

unfoldable pub assignment_at : At Tree → At PlainAssignment
assignment_at e = do
  variable ← token a_name
  _ ← token (a_symbol Assign)
  value ← e
  give (record { variable = variable; value = value })

unfoldable pub assigned_at : At Tree → At (Option PlainAssignment)
assigned_at e = do
  assignment ← assignment_at e
  give (Some assignment)

unfoldable pub quoted_at : At (Option PlainAssignment)
quoted_at = do
  _ ← token a_quoted
  give None

unfoldable pub item_at : At Tree → At (Option PlainAssignment)
item_at e = choice a_quoted quoted_at (assigned_at e)

unfoldable pub task_at : At Tree → At PlainAction
task_at e = do
  at ← token (a_word words.Task)
  items ← separated (item_at e)
  _ ← terminator_at
  give (task at (filter_map (λ i. i) items))

unfoldable pub sending_at : At Tree → At PlainSending
sending_at e = do
  signal ← token a_name
  parameters ← list_in_parentheses e
  give (record { signal = signal; parameters = parameters })

unfoldable pub destination_at : At Destination
destination_at = do
  _ ← token (a_word words.To)
  token a_destination

unfoldable pub output_at : At Tree → At PlainAction
output_at e = do
  at ← token (a_word words.Output)
  sendings ← separated (sending_at e)
  to ← optional (a_word words.To) destination_at
  _ ← terminator_at
  give (output at sendings to)

unfoldable pub delay_at : At Tree → At Tree
delay_at e = do
  _ ← token (a_symbol Open)
  _ ← token (a_word words.Now)
  _ ← token (a_symbol Plus)
  delay ← e
  _ ← token (a_symbol Comma)
  give delay

unfoldable pub set_at : At Tree → At PlainAction
set_at e = do
  at ← token (a_word words.Set)
  delay ← delay_at e
  timer ← token a_name
  _ ← token (a_symbol Close)
  _ ← terminator_at
  give (set_timer at delay timer)

unfoldable pub reset_at : At PlainAction
reset_at = do
  at ← token (a_word words.Reset)
  _ ← token (a_symbol Open)
  timer ← token a_name
  _ ← token (a_symbol Close)
  _ ← terminator_at
  give (reset_timer at timer)

unfoldable pub action_at : At Tree → At PlainAction
action_at e =
    choice (a_word words.Task) (task_at e)
    (choice (a_word words.Output) (output_at e) (choice (a_word words.Set) (set_at e) reset_at))

unfoldable pub compared_at : At Range
compared_at = do
  compared ← token a_relation
  constant ← constant_at
  give (Compared compared.at compared.relation constant)

unfoldable pub upper_at : At Constant
upper_at = do
  _ ← token (a_symbol Colon)
  constant_at

unfoldable pub value_at : At Range
value_at = do
  low ← constant_at
  high ← optional (a_symbol Colon) upper_at
  give (from_to low high)

unfoldable pub range_at : At Range
range_at = choice a_relation compared_at value_at

unfoldable pub answer_head_at : At PlainHead
answer_head_at = do
  at ← token (a_symbol Open)
  ranges ← separated range_at
  _ ← token (a_symbol Close)
  _ ← token (a_symbol Colon)
  give (record { at = at; ranges = ranges })

unfoldable pub else_head_at : At ℕ
else_head_at = do
  at ← token (a_word words.Else)
  _ ← token (a_symbol Colon)
  give at

unfoldable pub some_head_at : At (Option PlainHead)
some_head_at = do
  head ← answer_head_at
  give (Some head)

unfoldable pub no_head_at : At (Option PlainHead)
no_head_at = do
  _ ← else_head_at
  give None

unfoldable pub head_at : At (Option PlainHead)
head_at = choice (a_symbol Open) some_head_at no_head_at

unfoldable pub question_at : At Tree → At PlainQuestion
question_at e = do
  at ← token (a_word words.Decision)
  question ← e
  _ ← terminator_at
  give (record { at = at; question = question })

unfoldable pub end_decision_at : At ℕ
end_decision_at = do
  at ← token (a_word words.EndDecision)
  _ ← terminator_at
  give at

unfoldable pub next_state_at : At End
next_state_at = do
  at ← token (a_word words.NextState)
  state ← token a_name
  _ ← terminator_at
  give (NextState (record { at = at; state = state }))

unfoldable pub stop_at : At End
stop_at = do
  at ← token (a_word words.Stop)
  _ ← terminator_at
  give (Stop at)

unfoldable pub join_at : At End
join_at = do
  at ← token (a_word words.Join)
  connector ← token a_name
  _ ← terminator_at
  give (Join (record { at = at; connector = connector }))

unfoldable pub end_at : At End
end_at = choice (a_word words.NextState) next_state_at (choice (a_word words.Stop) stop_at join_at)

-- DECISIONs can be nested to any depth, so a transition is read in steps. Each step reads one
-- action, or a question and the first head, or an end and the head or ENDDECISION after it.

-- the head of an answer or ELSE, whose body is read next
unfoldable pub head_step :
    {S A C T : Type 0} → Keeping S A C T → List (Body S A) → Branching S A → At (Move S A T)
head_step k outer d = do
  head ← head_at
  give (reaches
      (record { outer = record { branching = d; head = head } ∷ outer; here = k.no_statement }))

-- ENDDECISION, after which the statements after the DECISION are read
unfoldable pub closing_step :
    {S A C T : Type 0} → Keeping S A C T → List (Body S A) → Branching S A → C → At (Move S A T)
closing_step k outer d others = do
  _ ← end_decision_at
  give (reaches (record { outer = outer; here = k.decides d.before d.asked d.answers others }))

-- after the body of an answer: another head, or ENDDECISION
unfoldable pub answer_step :
    {S A C T : Type 0} → Keeping S A C T → List (Body S A) → Branching S A → At (Move S A T)
answer_step k outer d = choice a_choice (head_step k outer d) (closing_step k outer d k.no_else)

-- after a body; only ENDDECISION can follow the body of ELSE
abbrev pub body_step :
    {S A C T : Type 0} → Keeping S A C T → List (Body S A) → Branching S A → Option PlainHead → T
    → At (Move S A T)
body_step k outer d (Some h) text = answer_step k outer (with_answer k d h text)
body_step k outer d None text = closing_step k outer d (k.with_else text)

-- after a transition
abbrev pub behind_step :
    {S A C T : Type 0} → Keeping S A C T → List (Body S A) → T → At (Move S A T)
behind_step k [] text = give (closes text)
behind_step k (body ∷ outer) text = body_step k outer body.branching body.head text

unfoldable pub end_step : {S A C T : Type 0} → Keeping S A C T → Reached S A → At (Move S A T)
end_step k s = do
  last ← optional an_end end_at
  behind_step k s.outer (k.ended s.here last)

unfoldable pub decision_step : {S A C T : Type 0} → Keeping S A C T → Reached S A → At (Move S A T)
decision_step k s = do
  asked ← question_at (expression_at k.trees)
  head_step k s.outer (record { before = s.here; asked = asked; answers = k.no_answer })

unfoldable pub action_step : {S A C T : Type 0} → Keeping S A C T → Reached S A → At (Move S A T)
action_step k s = do
  action ← action_at (expression_at k.trees)
  give (reaches (record { outer = s.outer; here = k.acts s.here action }))

unfoldable pub step_at : {S A C T : Type 0} → Keeping S A C T → Reached S A → At (Move S A T)
step_at k s =
    choice an_action (action_step k s)
    (choice (a_word words.Decision) (decision_step k s) (end_step k s))

abbrev pub after_move : {S A T : Type 0} → (Reached S A → At T) → Move S A T → At T
after_move go_on (reaches s) = go_on s
after_move go_on (closes text) = give text

-- consecutive steps, at most n of them
unfoldable pub steps_for : {S A C T : Type 0} → Keeping S A C T → ℕ → Reached S A → At T
steps_for k zero s = λ ts. fails ts
steps_for k (suc n) s = step_at k s >>= after_move (steps_for k n)

-- all steps: each but the last consumes a token
unfoldable pub steps_from : {S A C T : Type 0} → Keeping S A C T → Reached S A → At T
steps_from k s = λ ts. steps_for k (suc (length ts)) s ts

abbrev pub at_first : {S A C T : Type 0} → Keeping S A C T → Reached S A
at_first k = record { outer = []; here = k.no_statement }

unfoldable pub text_at : {S A C T : Type 0} → Keeping S A C T → At T
text_at k = steps_from k (at_first k)

unfoldable pub input_at : At PlainClause
input_at = do
  at ← token (a_word words.Input)
  stimuli ← separated stimulus_at
  _ ← terminator_at
  text ← text_at whole_texts
  give (input (record { at = at; stimuli = stimuli; text = text }))

unfoldable pub save_at : At PlainClause
save_at = do
  _ ← token (a_word words.Save)
  names ← names_at
  _ ← terminator_at
  give (save names)

unfoldable pub clause_at : At PlainClause
clause_at = choice (a_word words.Input) input_at save_at

unfoldable pub closing_at : List ℕ → At (Option Identifier)
closing_at name = do
  closing ← optional a_name (token (a_closing name))
  _ ← terminator_at
  give closing

unfoldable pub end_state_at : List ℕ → At (Option Identifier)
end_state_at name = do
  _ ← token (a_word words.EndState)
  closing_at name

unfoldable pub state_at : At PlainState
state_at = do
  _ ← token (a_word words.State)
  name ← token a_name
  names ← separated_from name (token a_name)
  _ ← terminator_at
  clauses ← many a_clause clause_at
  _ ← optional (a_word words.EndState) (end_state_at name.name)
  give (record { names = names; clauses = clauses })

unfoldable pub end_connection_at : List ℕ → At (Option Identifier)
end_connection_at name = do
  _ ← token (a_word words.EndConnection)
  closing_at name

unfoldable pub connection_at : At PlainConnection
connection_at = do
  at ← token (a_word words.Connection)
  name ← token a_name
  _ ← token (a_symbol Colon)
  text ← text_at whole_texts
  _ ← optional (a_word words.EndConnection) (end_connection_at name.name)
  give (record { at = at; name = name; text = text })

unfoldable pub state_section_at : At PlainSection
state_section_at = do
  state ← state_at
  give (in_state state)

unfoldable pub connection_section_at : At PlainSection
connection_section_at = do
  connection ← connection_at
  give (in_connection connection)

unfoldable pub section_at : At PlainSection
section_at = choice (a_word words.State) state_section_at connection_section_at

unfoldable pub start_at : At PlainStart
start_at = do
  at ← token (a_word words.Start)
  _ ← terminator_at
  text ← text_at whole_texts
  give (record { at = at; text = text })

unfoldable pub second_number_at : ℕ → At (Option ℕ)
second_number_at first = do
  _ ← token (a_symbol Comma)
  optional a_number (token (the_number first))

unfoldable pub instances_at : At ℕ
instances_at = do
  _ ← token (a_symbol Open)
  first ← token a_count
  _ ← optional (a_symbol Comma) (second_number_at first)
  _ ← token (a_symbol Close)
  give first

unfoldable pub process_head_at : At PlainProcessHead
process_head_at = do
  _ ← token (a_word words.Process)
  name ← token a_name
  instances ← optional (a_symbol Open) instances_at
  _ ← terminator_at
  give (process_head name instances)

unfoldable pub process_at : At PlainEntity
process_at = do
  head ← process_head_at
  declarations ← many a_declaration declaration_at
  start ← start_at
  sections ← many a_section section_at
  _ ← token (a_word words.EndProcess)
  _ ← closing_at head.name.name
  give (process (process_from head declarations start sections))

unfoldable pub entity_at : At PlainEntity
entity_at =
    choice (a_word words.Signal) signals_at
    (choice (a_word words.SignalRoute) route_at
    (choice (a_word words.Connect) connect_at
    (choice (a_word words.Synonym) block_synonyms_at process_at)))

unfoldable pub block_at : At PlainBlock
block_at = do
  _ ← token (a_word words.Block)
  name ← token a_name
  _ ← terminator_at
  entities ← many an_entity entity_at
  _ ← token (a_word words.EndBlock)
  _ ← closing_at name.name
  give (record { name = name; entities = entities })
