-- The reading of each declaration, signal and route decides its production. tools/productions writes the proofs.
use Rattle.std.specs.Prelude.{◌∷◌}
use Rattle.std.specs.Option.{option_to_list}
use Rattle.sdl_lex.specs.declared.lexemes.Word.TheVariants as words
use Rattle.sdl_lex.specs.declared.lexemes.Symbol.TheVariants.{Semicolon, Assign, Minus, Equal}
use Rattle.sdl_ast.specs.Plain.{Tree, signals, route, connect, synonyms, variables, timers, own_synonyms}
use Rattle.sdl_productions.specs.Tokens.{a_word, a_symbol, a_name, a_sort, a_party, a_constant, a_negated, a_quoted}
use Rattle.sdl_productions.specs.Readings.{At}
use Rattle.sdl_productions.specs.Machine.{whole_trees, expression_at}
use Rattle.sdl_tree.specs.DeclarationSyntax.{names_syntax, comment_syntax, terminator_syntax, signal_syntax, signals_syntax, path_syntax, route_syntax, connect_syntax, negative_syntax, constant_syntax, initial_syntax, group_syntax, variables_syntax, timers_syntax, synonym_syntax, synonyms_syntax, block_synonyms_syntax, own_synonyms_syntax, declaration_syntax}
use Rattle.sdl_productions.specs.DeclarationProductions.{names_at, comment_at, terminator_at, signal_at, signals_at, path_at, route_at, connect_at, negative_at, constant_at, initial_at, group_at, variables_at, timers_at, synonym_at, synonyms_at, block_synonyms_at, own_synonyms_at, declaration_at}
use Rattle.sdl_productions.proofs.Decides.{Decides, give_decides, token_decides, choice_decides, optional_decides, ◌>>=◌}
use Rattle.sdl_productions.proofs.Rows.{separated_decides, list_decides}
use Rattle.sdl_productions.proofs.SoundLemmas.{expression_decides}

-- Expressions, with no tree left out.
abbrev pub whole : At Tree
whole = expression_at whole_trees

pub names_decides : Decides names_syntax names_at
names_decides = separated_decides (token_decides a_name)

comment_decides : Decides comment_syntax comment_at
unfolding comment_syntax comment_at
comment_decides = do
  _ ← token_decides (a_word words.Comment)
  token_decides a_quoted

pub terminator_decides : Decides terminator_syntax terminator_at
unfolding terminator_syntax terminator_at
terminator_decides = do
  _ ← optional_decides (a_word words.Comment) comment_decides
  token_decides (a_symbol Semicolon)

signal_decides : Decides signal_syntax signal_at
unfolding signal_syntax signal_at
signal_decides = do
  name ← token_decides a_name
  parameters ← list_decides (token_decides a_sort)
  give_decides (record { name = name; parameters = parameters })

pub signals_decides : Decides signals_syntax signals_at
unfolding signals_syntax signals_at
signals_decides = do
  _ ← token_decides (a_word words.Signal)
  declared ← separated_decides signal_decides
  _ ← terminator_decides
  give_decides (signals declared)

path_decides : Decides path_syntax path_at
unfolding path_syntax path_at
path_decides = do
  _ ← token_decides (a_word words.From)
  from ← token_decides a_party
  _ ← token_decides (a_word words.To)
  to ← token_decides a_party
  _ ← token_decides (a_word words.With)
  brought ← names_decides
  _ ← terminator_decides
  give_decides (record { from = from; to = to; signals = brought })

pub route_decides : Decides route_syntax route_at
unfolding route_syntax route_at
route_decides = do
  _ ← token_decides (a_word words.SignalRoute)
  name ← token_decides a_name
  first ← path_decides
  second ← optional_decides (a_word words.From) path_decides
  give_decides (route (record { name = name; paths = first ∷ option_to_list second }))

pub connect_decides : Decides connect_syntax connect_at
unfolding connect_syntax connect_at
connect_decides = do
  _ ← token_decides (a_word words.Connect)
  channels ← names_decides
  _ ← token_decides (a_word words.And)
  routes ← names_decides
  _ ← terminator_decides
  give_decides (connect channels routes)

negative_decides : Decides negative_syntax negative_at
unfolding negative_syntax negative_at
negative_decides = do
  at ← token_decides (a_symbol Minus)
  token_decides (a_negated at)

pub constant_decides : Decides constant_syntax constant_at
unfolding constant_syntax constant_at
constant_decides = choice_decides (a_symbol Minus) negative_decides (token_decides a_constant)

initial_decides : Decides initial_syntax initial_at
unfolding initial_syntax initial_at
initial_decides = do
  _ ← token_decides (a_symbol Assign)
  constant_decides

group_decides : Decides group_syntax group_at
unfolding group_syntax group_at
group_decides = do
  names ← names_decides
  sort ← token_decides a_sort
  initial ← optional_decides (a_symbol Assign) initial_decides
  give_decides (record { names = names; sort = sort; initial = initial })

variables_decides : Decides variables_syntax variables_at
unfolding variables_syntax variables_at
variables_decides = do
  _ ← token_decides (a_word words.Dcl)
  groups ← separated_decides group_decides
  _ ← terminator_decides
  give_decides (variables groups)

pub timers_decides : Decides timers_syntax timers_at
unfolding timers_syntax timers_at
timers_decides = do
  _ ← token_decides (a_word words.Timer)
  names ← names_decides
  _ ← terminator_decides
  give_decides (timers names)

pub synonym_decides : Decides synonym_syntax (synonym_at whole)
unfolding synonym_syntax synonym_at
synonym_decides = do
  name ← token_decides a_name
  sort ← optional_decides a_sort (token_decides a_sort)
  _ ← token_decides (a_symbol Equal)
  value ← expression_decides
  give_decides (record { name = name; sort = sort; value = value })

synonyms_decides : Decides synonyms_syntax (synonyms_at whole)
unfolding synonyms_syntax synonyms_at
synonyms_decides = do
  _ ← token_decides (a_word words.Synonym)
  list ← separated_decides synonym_decides
  _ ← terminator_decides
  give_decides list

pub block_synonyms_decides : Decides block_synonyms_syntax block_synonyms_at
unfolding block_synonyms_syntax block_synonyms_at
block_synonyms_decides = do
  list ← synonyms_decides
  give_decides (synonyms list)

pub own_synonyms_decides : Decides own_synonyms_syntax own_synonyms_at
unfolding own_synonyms_syntax own_synonyms_at
own_synonyms_decides = do
  list ← synonyms_decides
  give_decides (own_synonyms list)

pub declaration_decides : Decides declaration_syntax declaration_at
unfolding declaration_syntax declaration_at
declaration_decides = choice_decides (a_word words.Dcl) variables_decides (choice_decides (a_word words.Synonym) own_synonyms_decides timers_decides)
