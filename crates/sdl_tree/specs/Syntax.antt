-- The concrete syntax of process texts (Z.100, concrete textual grammar): which trees the tokens
-- read as.
use Rattle.std.specs.Prelude.{◌≡◌, ℕ, true, false, List, [], Option, Some, None}
use Rattle.std.specs.List.{filter_map}
use Rattle.sdl_lex.specs.declared.lexemes.Token.{Token}
use Rattle.sdl_lex.specs.declared.lexemes.Word.TheVariants as words
use Rattle.sdl_lex.specs.declared.lexemes.Symbol.TheVariants.{Comma, Assign, Open, Close, Plus}
use Rattle.sdl_lex.specs.declared.lexemes.Symbol.TheVariants.{Colon}
use Rattle.sdl_ast.specs.declared.expression.Identifier.{Identifier}
use Rattle.sdl_ast.specs.declared.tree.Constant.{Constant}
use Rattle.sdl_ast.specs.declared.tree.Destination.{Destination}
use Rattle.sdl_ast.specs.declared.tree.End.{End}
use Rattle.sdl_ast.specs.declared.tree.End.TheVariants.{NextState, Stop, Join}
use Rattle.sdl_ast.specs.declared.tree.Range.{Range}
use Rattle.sdl_ast.specs.declared.tree.Range.TheVariants.{Compared}
use Rattle.sdl_ast.specs.Plain.{PlainAssignment, PlainSending, PlainAction, task, output, set_timer}
use Rattle.sdl_ast.specs.Plain.{reset_timer, Text, falls, ends, does, decides, Choice, nothing_else}
use Rattle.sdl_ast.specs.Plain.{otherwise, answer, PlainQuestion, PlainHead, Tree, PlainStimulus}
use Rattle.sdl_ast.specs.Plain.{PlainClause, input, save, PlainState, PlainStart, PlainEntity}
use Rattle.sdl_ast.specs.Plain.{process, PlainBlock, PlainConnection, PlainSection, in_state}
use Rattle.sdl_ast.specs.Plain.{in_connection, PlainProcessHead, process_head, process_from}
use Rattle.sdl_ast.specs.Plain.{from_to}
use Rattle.sdl_productions.specs.Tokens.{begins, a_word, a_symbol, a_number, a_name, a_count}
use Rattle.sdl_productions.specs.Tokens.{the_number, a_closing, a_quoted, a_destination, an_entity}
use Rattle.sdl_productions.specs.Tokens.{a_declaration, a_clause, an_action, an_end, a_choice}
use Rattle.sdl_productions.specs.Tokens.{a_relation, a_section}
use Rattle.sdl_productions.specs.Grammar.{Grammar, give, token, ◌>>=◌, many, choice, optional}
use Rattle.sdl_productions.specs.Grammar.{separated_from, separated, list_in_parentheses}
use Rattle.sdl_productions.specs.Expressions.{expression_syntax}
use Rattle.sdl_tree.specs.DeclarationSyntax.{names_syntax, terminator_syntax, signals_syntax}
use Rattle.sdl_tree.specs.DeclarationSyntax.{route_syntax, connect_syntax, constant_syntax}
use Rattle.sdl_tree.specs.DeclarationSyntax.{declaration_syntax, block_synonyms_syntax}

-- [ name ]
unfoldable pub place_syntax : Grammar (Option Identifier)
place_syntax = optional a_name (token a_name)

-- name [ ( [name] { , [name] } ) ]
unfoldable pub stimulus_syntax : Grammar PlainStimulus
stimulus_syntax = do
  name ← token a_name
  places ← list_in_parentheses place_syntax
  give (record { name = name; places = places })

-- name := expression
unfoldable pub assignment_syntax : Grammar PlainAssignment
assignment_syntax = do
  variable ← token a_name
  _ ← token (a_symbol Assign)
  value ← expression_syntax
  give (record { variable = variable; value = value })

-- an assignment as an item of a TASK
unfoldable pub assigned_syntax : Grammar (Option PlainAssignment)
assigned_syntax = do
  assignment ← assignment_syntax
  give (Some assignment)

-- a quoted text, which is dropped
unfoldable pub quoted_syntax : Grammar (Option PlainAssignment)
quoted_syntax = do
  _ ← token a_quoted
  give None

-- a quoted text or an assignment
unfoldable pub item_syntax : Grammar (Option PlainAssignment)
item_syntax = choice a_quoted quoted_syntax assigned_syntax

-- TASK item {, item} ;
unfoldable pub task_syntax : Grammar PlainAction
task_syntax = do
  at ← token (a_word words.Task)
  items ← separated item_syntax
  _ ← terminator_syntax
  give (task at (filter_map (λ i. i) items))

-- name [ ( expression {, expression} ) ]
unfoldable pub sending_syntax : Grammar PlainSending
sending_syntax = do
  signal ← token a_name
  parameters ← list_in_parentheses expression_syntax
  give (record { signal = signal; parameters = parameters })

-- TO (SENDER | name)
unfoldable pub destination_syntax : Grammar Destination
destination_syntax = do
  _ ← token (a_word words.To)
  token a_destination

-- OUTPUT sending {, sending} [ TO (SENDER | name) ] ;
unfoldable pub output_syntax : Grammar PlainAction
output_syntax = do
  at ← token (a_word words.Output)
  sendings ← separated sending_syntax
  to ← optional (a_word words.To) destination_syntax
  _ ← terminator_syntax
  give (output at sendings to)

-- ( NOW + expression ,
unfoldable pub delay_syntax : Grammar Tree
delay_syntax = do
  _ ← token (a_symbol Open)
  _ ← token (a_word words.Now)
  _ ← token (a_symbol Plus)
  delay ← expression_syntax
  _ ← token (a_symbol Comma)
  give delay

-- SET ( NOW + expression , name ) ;
unfoldable pub set_syntax : Grammar PlainAction
set_syntax = do
  at ← token (a_word words.Set)
  delay ← delay_syntax
  timer ← token a_name
  _ ← token (a_symbol Close)
  _ ← terminator_syntax
  give (set_timer at delay timer)

-- RESET ( name ) ;
unfoldable pub reset_syntax : Grammar PlainAction
reset_syntax = do
  at ← token (a_word words.Reset)
  _ ← token (a_symbol Open)
  timer ← token a_name
  _ ← token (a_symbol Close)
  _ ← terminator_syntax
  give (reset_timer at timer)

-- a TASK, an OUTPUT, a SET or a RESET
unfoldable pub action_syntax : Grammar PlainAction
action_syntax =
    choice (a_word words.Task) task_syntax
    (choice (a_word words.Output) output_syntax (choice (a_word words.Set) set_syntax reset_syntax))

-- a relation, and a constant
unfoldable pub compared_syntax : Grammar Range
compared_syntax = do
  compared ← token a_relation
  constant ← constant_syntax
  give (Compared compared.at compared.relation constant)

-- : constant
unfoldable pub upper_syntax : Grammar Constant
upper_syntax = do
  _ ← token (a_symbol Colon)
  constant_syntax

-- constant [ : constant ]
unfoldable pub value_syntax : Grammar Range
value_syntax = do
  low ← constant_syntax
  high ← optional (a_symbol Colon) upper_syntax
  give (from_to low high)

-- [ = | /= | < | <= | > | >= ] constant | constant : constant
unfoldable pub range_syntax : Grammar Range
range_syntax = choice a_relation compared_syntax value_syntax

-- ( range {, range} ) :
unfoldable pub answer_head_syntax : Grammar PlainHead
answer_head_syntax = do
  at ← token (a_symbol Open)
  ranges ← separated range_syntax
  _ ← token (a_symbol Close)
  _ ← token (a_symbol Colon)
  give (record { at = at; ranges = ranges })

-- ELSE :
unfoldable pub else_head_syntax : Grammar ℕ
else_head_syntax = do
  at ← token (a_word words.Else)
  _ ← token (a_symbol Colon)
  give at

-- the head of an answer
unfoldable pub some_head_syntax : Grammar (Option PlainHead)
some_head_syntax = do
  head ← answer_head_syntax
  give (Some head)

-- the head of ELSE, which has no ranges
unfoldable pub no_head_syntax : Grammar (Option PlainHead)
no_head_syntax = do
  _ ← else_head_syntax
  give None

-- the head of an answer, or of ELSE
unfoldable pub head_syntax : Grammar (Option PlainHead)
head_syntax = choice (a_symbol Open) some_head_syntax no_head_syntax

-- DECISION expression ;
unfoldable pub question_syntax : Grammar PlainQuestion
question_syntax = do
  at ← token (a_word words.Decision)
  question ← expression_syntax
  _ ← terminator_syntax
  give (record { at = at; question = question })

-- ENDDECISION ;
unfoldable pub end_decision_syntax : Grammar ℕ
end_decision_syntax = do
  at ← token (a_word words.EndDecision)
  _ ← terminator_syntax
  give at

-- NEXTSTATE name ;
unfoldable pub next_state_syntax : Grammar End
next_state_syntax = do
  at ← token (a_word words.NextState)
  state ← token a_name
  _ ← terminator_syntax
  give (NextState (record { at = at; state = state }))

-- STOP ;
unfoldable pub stop_syntax : Grammar End
stop_syntax = do
  at ← token (a_word words.Stop)
  _ ← terminator_syntax
  give (Stop at)

-- JOIN name ;
unfoldable pub join_syntax : Grammar End
join_syntax = do
  at ← token (a_word words.Join)
  connector ← token a_name
  _ ← terminator_syntax
  give (Join (record { at = at; connector = connector }))

-- a NEXTSTATE, a STOP or a JOIN
unfoldable pub end_syntax : Grammar End
end_syntax =
    choice (a_word words.NextState) next_state_syntax
    (choice (a_word words.Stop) stop_syntax join_syntax)

-- A transition is { action | decision } [ NEXTSTATE name ; | STOP ; | JOIN name ; ]. The next token
-- decides which of them is read. A decision is DECISION expression ; { answer } [ ELSE : transition
-- ] ENDDECISION ; with at least one answer or ELSE. An answer is ( range {, range} ) : transition.
mutual
  pub data TextReads : List Token → Text → List Token → Type 0 where
    runs_off : (ts : List Token) → begins an_action ts ≡ false
        → begins (a_word words.Decision) ts ≡ false → begins an_end ts ≡ false
        → TextReads ts falls ts
    ends_there :
        (ts us : List Token) (e : End) → begins an_action ts ≡ false
        → begins (a_word words.Decision) ts ≡ false → begins an_end ts ≡ true
        → end_syntax ts e us → TextReads ts (ends e) us
    goes_on : (ts us vs : List Token) (action : PlainAction) (rest : Text)
        → begins an_action ts ≡ true → action_syntax ts action us
        → TextReads us rest vs → TextReads ts (does action rest) vs
    branches : (ts us vs ws zs : List Token) (asked : PlainQuestion) (choice : Choice) (closed : ℕ)
        (rest : Text)
        → begins an_action ts ≡ false → begins (a_word words.Decision) ts ≡ true
        → question_syntax ts asked us
        → begins a_choice us ≡ true → ChoiceReads us choice vs → end_decision_syntax vs closed ws
        → TextReads ws rest zs → TextReads ts (decides asked.at asked.question choice rest) zs

  -- answers, and ELSE after them, as long as the next token is a parenthesis or ELSE
  pub data ChoiceReads : List Token → Choice → List Token → Type 0 where
    no_more_answers :
        (ts : List Token) → begins a_choice ts ≡ false → ChoiceReads ts nothing_else ts
    else_follows :
        (ts us vs : List Token) (opened : ℕ) (text : Text) → begins a_choice ts ≡ true
        → begins (a_symbol Open) ts ≡ false
        → else_head_syntax ts opened us → TextReads us text vs → ChoiceReads ts (otherwise text) vs
    answer_follows :
        (ts us vs ws : List Token) (head : PlainHead) (text : Text) (others : Choice)
        → begins a_choice ts ≡ true
        → begins (a_symbol Open) ts ≡ true → answer_head_syntax ts head us → TextReads us text vs
        → ChoiceReads vs others ws → ChoiceReads ts (answer head.at head.ranges text others) ws

abbrev pub text_syntax : Grammar Text
text_syntax = λ tokens text rest. TextReads tokens text rest

-- INPUT stimulus {, stimulus} ; transition
unfoldable pub input_syntax : Grammar PlainClause
input_syntax = do
  at ← token (a_word words.Input)
  stimuli ← separated stimulus_syntax
  _ ← terminator_syntax
  text ← text_syntax
  give (input (record { at = at; stimuli = stimuli; text = text }))

-- SAVE name {, name} ;
unfoldable pub save_syntax : Grammar PlainClause
save_syntax = do
  _ ← token (a_word words.Save)
  names ← names_syntax
  _ ← terminator_syntax
  give (save names)

-- an INPUT or a SAVE
unfoldable pub clause_syntax : Grammar PlainClause
clause_syntax = choice (a_word words.Input) input_syntax save_syntax

-- [name] ; the name must be the given one, in upper or lower case
unfoldable pub closing_syntax : List ℕ → Grammar (Option Identifier)
closing_syntax name = do
  closing ← optional a_name (token (a_closing name))
  _ ← terminator_syntax
  give closing

-- ENDSTATE [name] ;
unfoldable pub end_state_syntax : List ℕ → Grammar (Option Identifier)
end_state_syntax name = do
  _ ← token (a_word words.EndState)
  closing_syntax name

-- STATE name {, name} ; { INPUT .. | SAVE .. } [ ENDSTATE [name] ; ]. The closing name must be the
-- first one.
unfoldable pub state_syntax : Grammar PlainState
state_syntax = do
  _ ← token (a_word words.State)
  name ← token a_name
  names ← separated_from name (token a_name)
  _ ← terminator_syntax
  clauses ← many a_clause clause_syntax
  _ ← optional (a_word words.EndState) (end_state_syntax name.name)
  give (record { names = names; clauses = clauses })

-- ENDCONNECTION [name] ;
unfoldable pub end_connection_syntax : List ℕ → Grammar (Option Identifier)
end_connection_syntax name = do
  _ ← token (a_word words.EndConnection)
  closing_syntax name

-- CONNECTION name : transition [ ENDCONNECTION [name] ; ], closed with the same name
unfoldable pub connection_syntax : Grammar PlainConnection
connection_syntax = do
  at ← token (a_word words.Connection)
  name ← token a_name
  _ ← token (a_symbol Colon)
  text ← text_syntax
  _ ← optional (a_word words.EndConnection) (end_connection_syntax name.name)
  give (record { at = at; name = name; text = text })

-- a STATE part in the body of a process
unfoldable pub state_section_syntax : Grammar PlainSection
state_section_syntax = do
  state ← state_syntax
  give (in_state state)

-- a CONNECTION in the body of a process
unfoldable pub connection_section_syntax : Grammar PlainSection
connection_section_syntax = do
  connection ← connection_syntax
  give (in_connection connection)

-- a STATE part or a CONNECTION
unfoldable pub section_syntax : Grammar PlainSection
section_syntax = choice (a_word words.State) state_section_syntax connection_section_syntax

-- START ; transition
unfoldable pub start_syntax : Grammar PlainStart
start_syntax = do
  at ← token (a_word words.Start)
  _ ← terminator_syntax
  text ← text_syntax
  give (record { at = at; text = text })

-- , [ number ]: the number must be equal to the first one
unfoldable pub second_number_syntax : ℕ → Grammar (Option ℕ)
second_number_syntax first = do
  _ ← token (a_symbol Comma)
  optional a_number (token (the_number first))

-- ( number [ , [number] ] ): the initial and the maximum number of instances
unfoldable pub instances_syntax : Grammar ℕ
instances_syntax = do
  _ ← token (a_symbol Open)
  first ← token a_count
  _ ← optional (a_symbol Comma) (second_number_syntax first)
  _ ← token (a_symbol Close)
  give first

-- the heading of a process after PROCESS: name [ ( number [, [number]] ) ] ;
unfoldable pub process_head_syntax : Grammar PlainProcessHead
process_head_syntax = do
  _ ← token (a_word words.Process)
  name ← token a_name
  instances ← optional (a_symbol Open) instances_syntax
  _ ← terminator_syntax
  give (process_head name instances)

-- PROCESS name [ ( number [, [number]] ) ] ; { DCL .. | SYNONYM .. | TIMER .. } START ..
-- { STATE .. | CONNECTION .. } ENDPROCESS [name] ;
unfoldable pub process_syntax : Grammar PlainEntity
process_syntax = do
  head ← process_head_syntax
  declarations ← many a_declaration declaration_syntax
  start ← start_syntax
  sections ← many a_section section_syntax
  _ ← token (a_word words.EndProcess)
  _ ← closing_syntax head.name.name
  give (process (process_from head declarations start sections))

-- a SIGNAL, a SIGNALROUTE, a CONNECT, a SYNONYM or a PROCESS
unfoldable pub entity_syntax : Grammar PlainEntity
entity_syntax =
    choice (a_word words.Signal) signals_syntax
    (choice (a_word words.SignalRoute) route_syntax
    (choice (a_word words.Connect) connect_syntax
    (choice (a_word words.Synonym) block_synonyms_syntax process_syntax)))

-- BLOCK name ; { SIGNAL .. | SIGNALROUTE .. | CONNECT .. | SYNONYM .. | PROCESS .. } ENDBLOCK
-- [name] ;
unfoldable pub block_syntax : Grammar PlainBlock
block_syntax = do
  _ ← token (a_word words.Block)
  name ← token a_name
  _ ← terminator_syntax
  entities ← many an_entity entity_syntax
  _ ← token (a_word words.EndBlock)
  _ ← closing_syntax name.name
  give (record { name = name; entities = entities })

-- the tokens of a whole text read as this block
unfoldable pub Reads : List Token → PlainBlock → Type 0
Reads tokens block = block_syntax tokens block []
