-- The readings of declarations, signals and routes, token by token. tools/productions writes them
-- from DeclarationSyntax.
use Rattle.std.specs.Prelude.{ℕ, List, ◌∷◌}
use Rattle.std.specs.Option.{option_to_list}
use Rattle.sdl_lex.specs.declared.lexemes.Word.TheVariants as words
use Rattle.sdl_lex.specs.declared.lexemes.Symbol.TheVariants.{Semicolon, Assign, Minus, Equal}
use Rattle.sdl_ast.specs.declared.expression.Identifier.{Identifier}
use Rattle.sdl_ast.specs.declared.tree.Constant.{Constant}
use Rattle.sdl_ast.specs.Plain.{Tree, PlainGroup, PlainSynonym, PlainDeclaration, variables}
use Rattle.sdl_ast.specs.Plain.{timers, own_synonyms, PlainPath, PlainSignal, PlainEntity}
use Rattle.sdl_ast.specs.Plain.{signals, route, connect, synonyms}
use Rattle.sdl_productions.specs.Machine.{whole_trees, expression_at}
use Rattle.sdl_productions.specs.Tokens.{a_word, a_symbol, a_name, a_sort, a_party, a_constant}
use Rattle.sdl_productions.specs.Tokens.{a_negated, a_quoted}
use Rattle.sdl_productions.specs.Readings.{At, give, token, ◌>>=◌, choice, optional, separated}
use Rattle.sdl_productions.specs.Readings.{list_in_parentheses}

abbrev pub names_at : At (List Identifier)
names_at = separated (token a_name)

unfoldable pub comment_at : At ℕ
comment_at = do
  _ ← token (a_word words.Comment)
  token a_quoted

unfoldable pub terminator_at : At ℕ
terminator_at = do
  _ ← optional (a_word words.Comment) comment_at
  token (a_symbol Semicolon)

unfoldable pub signal_at : At PlainSignal
signal_at = do
  name ← token a_name
  parameters ← list_in_parentheses (token a_sort)
  give (record { name = name; parameters = parameters })

unfoldable pub signals_at : At PlainEntity
signals_at = do
  _ ← token (a_word words.Signal)
  declared ← separated signal_at
  _ ← terminator_at
  give (signals declared)

unfoldable pub path_at : At PlainPath
path_at = do
  _ ← token (a_word words.From)
  from ← token a_party
  _ ← token (a_word words.To)
  to ← token a_party
  _ ← token (a_word words.With)
  brought ← names_at
  _ ← terminator_at
  give (record { from = from; to = to; signals = brought })

unfoldable pub route_at : At PlainEntity
route_at = do
  _ ← token (a_word words.SignalRoute)
  name ← token a_name
  first ← path_at
  second ← optional (a_word words.From) path_at
  give (route (record { name = name; paths = first ∷ option_to_list second }))

unfoldable pub connect_at : At PlainEntity
connect_at = do
  _ ← token (a_word words.Connect)
  channels ← names_at
  _ ← token (a_word words.And)
  routes ← names_at
  _ ← terminator_at
  give (connect channels routes)

unfoldable pub negative_at : At Constant
negative_at = do
  at ← token (a_symbol Minus)
  token (a_negated at)

unfoldable pub constant_at : At Constant
constant_at = choice (a_symbol Minus) negative_at (token a_constant)

unfoldable pub initial_at : At Constant
initial_at = do
  _ ← token (a_symbol Assign)
  constant_at

unfoldable pub group_at : At PlainGroup
group_at = do
  names ← names_at
  sort ← token a_sort
  initial ← optional (a_symbol Assign) initial_at
  give (record { names = names; sort = sort; initial = initial })

unfoldable pub variables_at : At PlainDeclaration
variables_at = do
  _ ← token (a_word words.Dcl)
  groups ← separated group_at
  _ ← terminator_at
  give (variables groups)

unfoldable pub timers_at : At PlainDeclaration
timers_at = do
  _ ← token (a_word words.Timer)
  names ← names_at
  _ ← terminator_at
  give (timers names)

unfoldable pub synonym_at : At Tree → At PlainSynonym
synonym_at e = do
  name ← token a_name
  sort ← optional a_sort (token a_sort)
  _ ← token (a_symbol Equal)
  value ← e
  give (record { name = name; sort = sort; value = value })

unfoldable pub synonyms_at : At Tree → At (List PlainSynonym)
synonyms_at e = do
  _ ← token (a_word words.Synonym)
  list ← separated (synonym_at e)
  _ ← terminator_at
  give list

unfoldable pub block_synonyms_at : At PlainEntity
block_synonyms_at = do
  list ← synonyms_at (expression_at whole_trees)
  give (synonyms list)

unfoldable pub own_synonyms_at : At PlainDeclaration
own_synonyms_at = do
  list ← synonyms_at (expression_at whole_trees)
  give (own_synonyms list)

unfoldable pub declaration_at : At PlainDeclaration
declaration_at =
    choice (a_word words.Dcl) variables_at
    (choice (a_word words.Synonym) own_synonyms_at timers_at)
