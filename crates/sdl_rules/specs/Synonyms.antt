-- The values of synonyms, and the constants that replace them. (Z.100: synonym definition,
-- constant expression, visibility.)
use Rattle.std.specs.Prelude.{◌≡◌, ℕ, ℤ, pos, neg_ℤ, Bool, true, false, List, [], ◌∷◌, ◌++◌, Option}
use Rattle.std.specs.Prelude.{None, Some, if◌then◌else◌, slice_get, unwrap_or, option_and_then}
use Rattle.std.specs.Prelude.{fold}
use Rattle.std.specs.Int.{cast_unsigned, w32}
use Rattle.turn_code.specs.Values.{wrap}
use Rattle.turn_code.specs.declared.value.Value.{Value}
use Rattle.turn_code.specs.declared.value.Value.TheVariants.{Int, Bool as Truth}
use Rattle.sdl_ast.specs.declared.expression.Identifier.{Identifier}
use Rattle.sdl_ast.specs.declared.tree.Sort.{Sort}
use Rattle.sdl_ast.specs.declared.tree.Sort.TheVariants.{Integer, Boolean}
use Rattle.sdl_ast.specs.declared.tree.Literal.{Literal}
use Rattle.sdl_ast.specs.declared.tree.Literal.TheVariants as literals
use Rattle.sdl_ast.specs.declared.tree.Constant.{Constant}
use Rattle.sdl_ast.specs.Plain.{Tree, number, truth, variable, unary, binary, PlainSynonym}
use Rattle.sdl_tables.specs.Names.{is_in, number_of}
use Rattle.sdl_sound.specs.Sorts.{same_sort, sort_in}
use Rattle.sdl_meaning.specs.Valued.{valued}

-- ---- values in a text

-- A value as an operand. An Integer below 0 is kept as the number that is 2^32 more, which wraps to
-- it.
abbrev pub node : ℕ → Value → Tree
node at (Int x) = number at (cast_unsigned w32 x)
node at (Truth b) = truth at b

abbrev pub literal_of : Value → Literal
literal_of (Int x) = literals.Integer x
literal_of (Truth b) = literals.Boolean b

abbrev pub sort_of_value : Value → Sort
sort_of_value (Int x) = Integer
sort_of_value (Truth b) = Boolean

-- ---- visible synonyms

-- synonyms with their values, each name once: the first synonym with it
pub record Known : Type 0 where
  pub names : List Identifier
  pub values : List Value

abbrev pub none_known : Known
none_known = record { names = []; values = [] }

abbrev pub known_as : Known → List ℕ → Option Value
known_as k x = option_and_then (slice_get k.values) (number_of k.names x)

-- one more synonym
abbrev pub and_known : Known → Identifier → Value → Known
and_known k id v =
    if is_in k.names id.name then k
    else record { names = k.names ++ id ∷ []; values = k.values ++ v ∷ [] }

-- The visible synonyms: those of a scope so far, and those of the scope around it, except the names
-- that the scope declares itself, which hide those around it.
pub record Sight : Type 0 where
  pub own : Known
  pub hidden : List Identifier
  pub outer : Known

abbrev pub around : Sight → List ℕ → Option Value
around s x = if is_in s.hidden x then None else known_as s.outer x

abbrev pub or_around : Option Value → Option Value → Option Value
or_around (Some v) other = Some v
or_around None other = other

-- the value of the synonym with a name
abbrev pub seen : Sight → List ℕ → Option Value
seen s x = or_around (known_as s.own x) (around s x)

-- ---- trees and constants with values in place of synonyms

abbrev pub node_or : Tree → ℕ → Option Value → Tree
node_or t at None = t
node_or t at (Some v) = node at v

abbrev pub expanded_tree : Sight → Tree → Tree
expanded_tree s (number at k) = number at k
expanded_tree s (truth at b) = truth at b
expanded_tree s (variable at id) = node_or (variable at id) at (seen s id.name)
expanded_tree s (unary at op t) = unary at op (expanded_tree s t)
expanded_tree s (binary at op t u) = binary at op (expanded_tree s t) (expanded_tree s u)

-- A text with a minus before a Boolean is refused (S3). Here the value is 0.
abbrev pub signed : Bool → Value → Value
signed false v = v
signed true (Int x) = Int (wrap (neg_ℤ x))
signed true (Truth b) = Int (pos 0)

-- A text with a name that is no synonym is refused (S2). Here the name has the value 0.
abbrev pub used : Sight → Bool → Identifier → Value
used s negated id = signed negated (unwrap_or (seen s id.name) (Int (pos 0)))

abbrev pub constant_by : Sight → Constant → Option Identifier → Constant
constant_by s c None = c
constant_by s c (Some id) = record {
  at = c.at;
  value = literal_of (used s c.is_negated id);
  is_negated = false;
  synonym = None;
}

abbrev pub expanded_constant : Sight → Constant → Constant
expanded_constant s c = constant_by s c c.synonym

-- ---- the value of a synonym

-- the written sort, else that of its expression
abbrev pub synonym_sort : Option Sort → Tree → Sort
synonym_sort (Some want) t = want
synonym_sort None t = unwrap_or (sort_in [] t) Integer

abbrev pub no_value : Sort → Value
no_value Integer = Int (pos 0)
no_value Boolean = Truth false

-- a value of this sort, else 0 or FALSE
abbrev pub value_for : Sort → Option Value → Value
value_for want None = no_value want
value_for want (Some v) = if same_sort want (sort_of_value v) then v else no_value want

-- The value of an expression without variables, of the written sort. If it has no value of that
-- sort, the text is refused (S2, S3 or S9), and the value is 0 or FALSE here.
abbrev pub value_of_tree : Option Sort → Tree → Value
value_of_tree written t = value_for (synonym_sort written t) (valued [] t [])

abbrev pub value_of_synonym : Sight → PlainSynonym → Value
value_of_synonym s d = value_of_tree d.sort (expanded_tree s d.value)

-- one more synonym: the earlier ones may be named in it
abbrev pub and_synonym : Sight → PlainSynonym → Sight
and_synonym s d = record {
  own = and_known s.own d.name (value_of_synonym s d);
  hidden = s.hidden;
  outer = s.outer;
}

abbrev pub and_synonyms : Sight → List PlainSynonym → Sight
and_synonyms s ds = fold and_synonym s ds
