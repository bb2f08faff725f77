-- The places where declarations and uses of synonyms break a rule. (Z.100: synonym
-- definition, constant expression, visibility.)
use Rattle.std.specs.Prelude.{◌≡◌, ℕ, Bool, false, List, [], ◌∷◌, ◌++◌, Option, None, Some}
use Rattle.std.specs.Prelude.{if◌then◌else◌, map, is_some}
use Rattle.std.specs.List.{flat_map}
use Rattle.std.specs.Option.{option_to_list, option_map_or}
use Rattle.sdl_ast.specs.declared.expression.Identifier.{Identifier}
use Rattle.sdl_ast.specs.declared.tree.Sort.{Sort}
use Rattle.sdl_ast.specs.declared.tree.Sort.TheVariants.{Boolean}
use Rattle.sdl_ast.specs.declared.tree.Constant.{Constant}
use Rattle.sdl_ast.specs.declared.tree.Range.{Range}
use Rattle.sdl_ast.specs.declared.tree.Range.TheVariants.{Value, Compared, Between}
use Rattle.sdl_ast.specs.Plain.{Tree, Text, falls, ends, does, decides, Choice, nothing_else}
use Rattle.sdl_ast.specs.Plain.{otherwise, answer, PlainStatement, act, decide, PlainAnswer}
use Rattle.sdl_ast.specs.Plain.{PlainConnection, PlainClause, input, save, PlainState, PlainGroup}
use Rattle.sdl_ast.specs.Plain.{PlainSynonym, PlainDeclaration, variables, timers, own_synonyms}
use Rattle.sdl_ast.specs.Plain.{PlainProcess, PlainBlock}
use Rattle.sdl_tables.specs.Names.{processes_of}
use Rattle.sdl_tables.specs.Scopes.{Marks, repeats}
use Rattle.sdl_sound.specs.Names.{tree_names}
use Rattle.sdl_sound.specs.Sorts.{misfit, wrong_in, same_sort}
use Rattle.sdl_sound.specs.Divisors.{bad_divisors_in}
use Rattle.sdl_rules.specs.Synonyms.{Known, Sight, seen, sort_of_value, expanded_tree, and_synonym}
use Rattle.sdl_rules.specs.Expansion.{synonyms_of, own_synonyms_of, first_sight, block_known}
use Rattle.sdl_rules.specs.Expansion.{outer_sight, process_sight, synonym_names, hiding_names}
use Rattle.sdl_rules.specs.declared.strays.Strays.{Strays}

-- ---- S1: two synonyms of a block, or two among the variables and synonyms of a process

abbrev pub process_doubles : PlainProcess → List ℕ
process_doubles p = repeats [] (hiding_names p)

abbrev pub double_synonyms : PlainBlock → List ℕ
double_synonyms b =
    repeats [] (synonym_names (synonyms_of b)) ++ flat_map process_doubles (processes_of b)

-- ---- the constants of a process

-- the constants of a range, of a group, of a text and of its answers
abbrev pub range_constants : Range → List Constant
range_constants (Value c) = c ∷ []
range_constants (Compared at relation c) = c ∷ []
range_constants (Between low high) = low ∷ high ∷ []

abbrev pub group_constants : PlainGroup → List Constant
group_constants g = option_to_list g.initial

abbrev mutual
  pub text_constants : Text → List Constant
  text_constants falls = []
  text_constants (ends e) = []
  text_constants (does a rest) = text_constants rest
  text_constants (decides at q choice rest) = choice_constants choice ++ text_constants rest

  pub choice_constants : Choice → List Constant
  choice_constants nothing_else = []
  choice_constants (otherwise body) = text_constants body
  choice_constants (answer at ranges body others) =
      flat_map range_constants ranges ++ (text_constants body ++ choice_constants others)

-- a single statement and a single answer
abbrev pub statement_constants : PlainStatement → List Constant
statement_constants (act a) = []
statement_constants (decide at q choice) = choice_constants choice

abbrev pub answer_constants : PlainAnswer → List Constant
answer_constants a = flat_map range_constants a.ranges ++ text_constants a.text

abbrev pub declaration_constants : PlainDeclaration → List Constant
declaration_constants (variables groups) = flat_map group_constants groups
declaration_constants (timers names) = []
declaration_constants (own_synonyms list) = []

abbrev pub clause_constants : PlainClause → List Constant
clause_constants (input i) = text_constants i.text
clause_constants (save names) = []

abbrev pub state_constants : PlainState → List Constant
state_constants part = flat_map clause_constants part.clauses

abbrev pub connection_constants : PlainConnection → List Constant
connection_constants c = text_constants c.text

-- those of a process: its initial values, and the values of its answers
abbrev pub process_constants : PlainProcess → List Constant
process_constants p =
    flat_map declaration_constants p.declarations
    ++ (text_constants p.start.text
    ++ (flat_map state_constants p.states ++ flat_map connection_constants p.connections))

-- ---- S2, S3 and S9

-- places of names that are unknown, of wrong sorts, and of wrong divisors
pub record Places : Type 0 where
  pub unknown : List ℕ
  pub wrong : List ℕ
  pub divisors : List ℕ

abbrev pub no_places : Places
no_places = record { unknown = []; wrong = []; divisors = [] }

abbrev pub both : Places → Places → Places
both p q = record {
  unknown = p.unknown ++ q.unknown;
  wrong = p.wrong ++ q.wrong;
  divisors = p.divisors ++ q.divisors;
}

abbrev pub all_places : {A : Type 0} → (A → Places) → List A → Places
all_places f xs = record {
  unknown = flat_map (λ x. (f x).unknown) xs;
  wrong = flat_map (λ x. (f x).wrong) xs;
  divisors = flat_map (λ x. (f x).divisors) xs;
}

-- S2: a name that stands for no synonym
abbrev pub unseen : Sight → Identifier → List ℕ
unseen s id = if is_some (seen s id.name) then [] else id.at ∷ []

-- S3: an expression has another sort than the written one
abbrev pub other_sort : Option Sort → Tree → List ℕ
other_sort None t = []
other_sort (Some want) t = misfit [] (Some want) t

-- of a synonym: the names in its expression are those of earlier synonyms; its operands, and its
-- value if a sort is written, have the right sorts; its divisors are numbers of 1 or more
abbrev pub synonym_places : Sight → PlainSynonym → Places
synonym_places s d = record {
  unknown = flat_map (unseen s) (tree_names d.value);
  wrong =
      wrong_in [] (expanded_tree s d.value) ++ other_sort d.sort (expanded_tree s d.value);
  divisors = bad_divisors_in (expanded_tree s d.value);
}

-- of several, each of which may be named in the later ones
abbrev pub synonyms_places : Sight → List PlainSynonym → Places
synonyms_places s [] = no_places
synonyms_places s (d ∷ ds) = both (synonym_places s d) (synonyms_places (and_synonym s d) ds)

-- whether a name stands for a Boolean
abbrev pub is_boolean : Sight → Identifier → Bool
is_boolean s id = option_map_or (λ v. same_sort Boolean (sort_of_value v)) (seen s id.name) false

-- S3: a minus before a Boolean
abbrev pub negated_boolean : Sight → Bool → Identifier → List ℕ
negated_boolean s negated id =
    if negated then (if is_boolean s id then id.at ∷ [] else []) else []

-- of a constant that is a synonym
abbrev pub use_places : Sight → Bool → Option Identifier → Places
use_places s negated None = no_places
use_places s negated (Some id) = record {
  unknown = unseen s id;
  wrong = negated_boolean s negated id;
  divisors = [];
}

abbrev pub constant_places : Sight → Constant → Places
constant_places s c = use_places s c.is_negated c.synonym

abbrev pub constants_places : Sight → List Constant → Places
constants_places s cs = all_places (constant_places s) cs

abbrev pub process_places : Known → PlainProcess → Places
process_places k p =
    both (synonyms_places (outer_sight k p) (own_synonyms_of p))
    (constants_places (process_sight k p) (process_constants p))

abbrev pub block_places : PlainBlock → Places
block_places b =
    both (synonyms_places first_sight (synonyms_of b))
    (all_places (process_places (block_known b)) (processes_of b))

-- a place of each kind, if there is one
pub record AreOf (places : Places) (found : Strays) : Type 0 where
  pub unknown : Marks found.unknown places.unknown
  pub wrong : Marks found.wrong places.wrong
  pub divisor : Marks found.divisor places.divisors
