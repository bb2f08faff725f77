-- The concrete syntax of declarations, signals and routes (Z.100, concrete textual grammar): which
-- trees the tokens read as.
use Rattle.std.specs.Prelude.{ℕ, List, ◌∷◌}
use Rattle.std.specs.Option.{option_to_list}
use Rattle.sdl_lex.specs.declared.lexemes.Word.TheVariants as words
use Rattle.sdl_lex.specs.declared.lexemes.Symbol.TheVariants.{Semicolon, Assign, Minus, Equal}
use Rattle.sdl_ast.specs.declared.expression.Identifier.{Identifier}
use Rattle.sdl_ast.specs.declared.tree.Constant.{Constant}
use Rattle.sdl_ast.specs.Plain.{PlainGroup, PlainSynonym, PlainDeclaration, variables, timers}
use Rattle.sdl_ast.specs.Plain.{own_synonyms, PlainPath, PlainSignal, PlainEntity, signals, route}
use Rattle.sdl_ast.specs.Plain.{connect, synonyms}
use Rattle.sdl_productions.specs.Expressions.{expression_syntax}
use Rattle.sdl_productions.specs.Tokens.{a_word, a_symbol, a_name, a_sort, a_party, a_constant}
use Rattle.sdl_productions.specs.Tokens.{a_negated, a_quoted}
use Rattle.sdl_productions.specs.Grammar.{Grammar, give, token, ◌>>=◌, choice, optional, separated}
use Rattle.sdl_productions.specs.Grammar.{list_in_parentheses}

-- name {, name}
abbrev pub names_syntax : Grammar (List Identifier)
names_syntax = separated (token a_name)

-- COMMENT quoted
unfoldable pub comment_syntax : Grammar ℕ
comment_syntax = do
  _ ← token (a_word words.Comment)
  token a_quoted

-- [ COMMENT quoted ] ;
unfoldable pub terminator_syntax : Grammar ℕ
terminator_syntax = do
  _ ← optional (a_word words.Comment) comment_syntax
  token (a_symbol Semicolon)

-- name [ ( sort {, sort} ) ]
unfoldable pub signal_syntax : Grammar PlainSignal
signal_syntax = do
  name ← token a_name
  parameters ← list_in_parentheses (token a_sort)
  give (record { name = name; parameters = parameters })

-- SIGNAL signal {, signal} ;
unfoldable pub signals_syntax : Grammar PlainEntity
signals_syntax = do
  _ ← token (a_word words.Signal)
  declared ← separated signal_syntax
  _ ← terminator_syntax
  give (signals declared)

-- FROM (name | ENV) TO (name | ENV) WITH name {, name} ;
unfoldable pub path_syntax : Grammar PlainPath
path_syntax = do
  _ ← token (a_word words.From)
  from ← token a_party
  _ ← token (a_word words.To)
  to ← token a_party
  _ ← token (a_word words.With)
  brought ← names_syntax
  _ ← terminator_syntax
  give (record { from = from; to = to; signals = brought })

-- SIGNALROUTE name path [path]
unfoldable pub route_syntax : Grammar PlainEntity
route_syntax = do
  _ ← token (a_word words.SignalRoute)
  name ← token a_name
  first ← path_syntax
  second ← optional (a_word words.From) path_syntax
  give (route (record { name = name; paths = first ∷ option_to_list second }))

-- CONNECT name {, name} AND name {, name} ;
unfoldable pub connect_syntax : Grammar PlainEntity
connect_syntax = do
  _ ← token (a_word words.Connect)
  channels ← names_syntax
  _ ← token (a_word words.And)
  routes ← names_syntax
  _ ← terminator_syntax
  give (connect channels routes)

-- - ( number | name )
unfoldable pub negative_syntax : Grammar Constant
negative_syntax = do
  at ← token (a_symbol Minus)
  token (a_negated at)

-- [ - ] ( number | name ) | TRUE | FALSE
unfoldable pub constant_syntax : Grammar Constant
constant_syntax = choice (a_symbol Minus) negative_syntax (token a_constant)

-- := constant
unfoldable pub initial_syntax : Grammar Constant
initial_syntax = do
  _ ← token (a_symbol Assign)
  constant_syntax

-- name {, name} sort [ := constant ]
unfoldable pub group_syntax : Grammar PlainGroup
group_syntax = do
  names ← names_syntax
  sort ← token a_sort
  initial ← optional (a_symbol Assign) initial_syntax
  give (record { names = names; sort = sort; initial = initial })

-- DCL group {, group} ;
unfoldable pub variables_syntax : Grammar PlainDeclaration
variables_syntax = do
  _ ← token (a_word words.Dcl)
  groups ← separated group_syntax
  _ ← terminator_syntax
  give (variables groups)

-- TIMER name {, name} ;
unfoldable pub timers_syntax : Grammar PlainDeclaration
timers_syntax = do
  _ ← token (a_word words.Timer)
  names ← names_syntax
  _ ← terminator_syntax
  give (timers names)

-- name [sort] = expression
unfoldable pub synonym_syntax : Grammar PlainSynonym
synonym_syntax = do
  name ← token a_name
  sort ← optional a_sort (token a_sort)
  _ ← token (a_symbol Equal)
  value ← expression_syntax
  give (record { name = name; sort = sort; value = value })

-- SYNONYM name [sort] = expression {, name [sort] = expression} ;
unfoldable pub synonyms_syntax : Grammar (List PlainSynonym)
synonyms_syntax = do
  _ ← token (a_word words.Synonym)
  list ← separated synonym_syntax
  _ ← terminator_syntax
  give list

-- the synonyms of a block
unfoldable pub block_synonyms_syntax : Grammar PlainEntity
block_synonyms_syntax = do
  list ← synonyms_syntax
  give (synonyms list)

-- the synonyms of a process
unfoldable pub own_synonyms_syntax : Grammar PlainDeclaration
own_synonyms_syntax = do
  list ← synonyms_syntax
  give (own_synonyms list)

-- a DCL, a SYNONYM or a TIMER
unfoldable pub declaration_syntax : Grammar PlainDeclaration
declaration_syntax =
    choice (a_word words.Dcl) variables_syntax
    (choice (a_word words.Synonym) own_synonyms_syntax timers_syntax)
