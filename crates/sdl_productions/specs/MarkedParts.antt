-- The readings of productions above transitions, as the code performs them. Each returns the mark
-- of the first part that is too high.
use Rattle.std.specs.Prelude.{Option, Some, None}
use Rattle.std.specs.List.{filter_map}
use Rattle.sdl_lex.specs.declared.lexemes.Word.TheVariants as words
use Rattle.sdl_lex.specs.declared.lexemes.Symbol.TheVariants.{Colon}
use Rattle.sdl_ast.specs.Plain.{PlainClause, input, PlainState, PlainConnection, PlainStart}
use Rattle.sdl_ast.specs.Plain.{PlainDeclaration, own_synonyms, PlainEntity, synonyms, process}
use Rattle.sdl_ast.specs.Plain.{PlainBlock}
use Rattle.sdl_ast.specs.Heights.{high_in_declaration, high_in_entity}
use Rattle.sdl_productions.specs.Tokens.{a_word, a_symbol, a_name, an_entity, a_declaration}
use Rattle.sdl_productions.specs.Tokens.{a_clause, a_section}
use Rattle.sdl_productions.specs.Readings.{At, give, token, ◌>>=◌, many, choice, optional}
use Rattle.sdl_productions.specs.Readings.{separated_from, separated}
use Rattle.sdl_productions.specs.Bodies.{marked_texts}
use Rattle.sdl_productions.specs.Marks.{Marked, kept, marked, map_marked, gathered, process_marked}
use Rattle.sdl_productions.specs.Machine.{low_trees, expression_at}
use Rattle.sdl_productions.specs.Productions.{stimulus_at, text_at, save_at, closing_at}
use Rattle.sdl_productions.specs.Productions.{end_state_at, end_connection_at, process_head_at}
use Rattle.sdl_productions.specs.DeclarationProductions.{terminator_at, signals_at, route_at}
use Rattle.sdl_productions.specs.DeclarationProductions.{connect_at, variables_at, timers_at}
use Rattle.sdl_productions.specs.DeclarationProductions.{synonyms_at}

-- a part without transitions is never marked
abbrev pub kept_at : {A : Type 0} → At A → At (Marked A)
kept_at p = p >>= λ x. give (kept x)

unfoldable pub marked_input : At (Marked PlainClause)
marked_input = do
  at ← token (a_word words.Input)
  stimuli ← separated stimulus_at
  _ ← terminator_at
  text ← text_at marked_texts
  give (map_marked (λ t. input (record { at = at; stimuli = stimuli; text = t })) text)

unfoldable pub marked_clause : At (Marked PlainClause)
marked_clause = choice (a_word words.Input) marked_input (kept_at save_at)

unfoldable pub marked_state : At (Marked PlainState)
marked_state = do
  _ ← token (a_word words.State)
  name ← token a_name
  names ← separated_from name (token a_name)
  _ ← terminator_at
  clauses ← many a_clause marked_clause
  _ ← optional (a_word words.EndState) (end_state_at name.name)
  give (map_marked (λ cs. record { names = names; clauses = cs }) (gathered clauses))

unfoldable pub marked_connection : At (Marked PlainConnection)
marked_connection = do
  at ← token (a_word words.Connection)
  name ← token a_name
  _ ← token (a_symbol Colon)
  text ← text_at marked_texts
  _ ← optional (a_word words.EndConnection) (end_connection_at name.name)
  give (map_marked (λ t. record { at = at; name = name; text = t }) text)

-- a part of the body of a process, marked separately for each kind
pub data MarkedSection : Type 0 where
  a_state : Marked PlainState → MarkedSection
  a_connection : Marked PlainConnection → MarkedSection

abbrev pub marked_state_in : MarkedSection → Option (Marked PlainState)
marked_state_in (a_state s) = Some s
marked_state_in (a_connection c) = None

abbrev pub marked_connection_in : MarkedSection → Option (Marked PlainConnection)
marked_connection_in (a_state s) = None
marked_connection_in (a_connection c) = Some c

unfoldable pub marked_section : At MarkedSection
marked_section =
    choice (a_word words.State) (marked_state >>= λ s. give (a_state s))
    (marked_connection >>= λ c. give (a_connection c))

unfoldable pub marked_start : At (Marked PlainStart)
marked_start = do
  at ← token (a_word words.Start)
  _ ← terminator_at
  text ← text_at marked_texts
  give (map_marked (λ t. record { at = at; text = t }) text)

unfoldable pub marked_own_synonyms : At (Marked PlainDeclaration)
marked_own_synonyms = do
  list ← synonyms_at (expression_at low_trees)
  give (marked high_in_declaration (own_synonyms list))

unfoldable pub marked_declaration : At (Marked PlainDeclaration)
marked_declaration =
    choice (a_word words.Dcl) (kept_at variables_at)
    (choice (a_word words.Synonym) marked_own_synonyms (kept_at timers_at))

unfoldable pub marked_process : At (Marked PlainEntity)
marked_process = do
  head ← process_head_at
  declarations ← many a_declaration marked_declaration
  start ← marked_start
  sections ← many a_section marked_section
  _ ← token (a_word words.EndProcess)
  _ ← closing_at head.name.name
  give (map_marked (λ p. process p)
      (process_marked head (gathered declarations) start
      (gathered (filter_map marked_state_in sections))
      (gathered (filter_map marked_connection_in sections))))

unfoldable pub marked_synonyms : At (Marked PlainEntity)
marked_synonyms = do
  list ← synonyms_at (expression_at low_trees)
  give (marked high_in_entity (synonyms list))

unfoldable pub marked_entity : At (Marked PlainEntity)
marked_entity =
    choice (a_word words.Signal) (kept_at signals_at)
    (choice (a_word words.SignalRoute) (kept_at route_at)
    (choice (a_word words.Connect) (kept_at connect_at)
    (choice (a_word words.Synonym) marked_synonyms marked_process)))

unfoldable pub marked_block : At (Marked PlainBlock)
marked_block = do
  _ ← token (a_word words.Block)
  name ← token a_name
  _ ← terminator_at
  entities ← many an_entity marked_entity
  _ ← token (a_word words.EndBlock)
  _ ← closing_at name.name
  give (map_marked (λ es. record { name = name; entities = es }) (gathered entities))
