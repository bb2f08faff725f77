-- DECISIONs that aren't answered properly. An Integer one requires ELSE (this profile's own). In a
-- Boolean one TRUE and FALSE must each be answered exactly once; ELSE answers the values not named,
-- and at least one must be left. Each answer must have values, which it has in every text. (Z.100:
-- decisions.)
use Rattle.std.specs.Prelude.{ℕ, ◌+◌, Bool, true, false, ◌&&◌, List, [], ◌∷◌, if◌then◌else◌, length}
use Rattle.std.specs.Prelude.{nat_eq, nat_lt, sum_by}
use Rattle.std.specs.List.{flat_map}
use Rattle.sdl_tables.specs.sdl_ast_types.tree.Literal.{Literal}
use Rattle.sdl_tables.specs.sdl_ast_types.tree.Literal.TheVariants.{Integer, Boolean}
use Rattle.sdl_tables.specs.sdl_ast_types.tree.Range.{Range}
use Rattle.sdl_tables.specs.sdl_ast_types.tree.Range.TheVariants.{Value, Compared, Between}
use Rattle.sdl_tables.specs.Plain.{Tree, Choice, nothing_else, otherwise, answer, PlainBlock}
use Rattle.sdl_tables.specs.Names.{Variable, variables_of, processes_of}
use Rattle.sdl_sound.specs.Statements.{Statement, acts, asks, covers, finishes}
use Rattle.sdl_sound.specs.Actions.{in_statements}
use Rattle.sdl_sound.specs.Sorts.{is_truth}

-- ---- S8

abbrev pub has_else : Choice → Bool
has_else nothing_else = false
has_else (otherwise body) = true
has_else (answer at ranges body others) = has_else others

-- 1 if the constant is this truth value, else 0
abbrev pub is_value : Bool → Literal → ℕ
is_value b (Integer k) = 0
is_value true (Boolean true) = 1
is_value true (Boolean false) = 0
is_value false (Boolean true) = 0
is_value false (Boolean false) = 1

abbrev pub names_value : Bool → Range → ℕ
names_value b (Value c) = is_value b c.value
names_value b (Compared at relation c) = 0
names_value b (Between low high) = 0

-- how often the answers name a truth value
abbrev pub times_named : Bool → Choice → ℕ
times_named b nothing_else = 0
times_named b (otherwise body) = 0
times_named b (answer at ranges body others) = sum_by (names_value b) ranges + times_named b others

-- Each truth value is answered exactly once. Without ELSE each is named once. With ELSE at most one
-- of them is named, and once.
abbrev pub answers_both : Choice → Bool
answers_both c =
    if has_else c
    then nat_lt (times_named true c + times_named false c) 2
    else nat_eq (times_named true c) 1 && nat_eq (times_named false c) 1

-- each answer has values; an answer in a text always has
abbrev pub has_values : Choice → Bool
has_values nothing_else = true
has_values (otherwise body) = true
has_values (answer at ranges body others) = nat_lt 0 (length ranges) && has_values others

-- each value of the question is answered, and each answer has values
abbrev pub is_answered : List Variable → Tree → Choice → Bool
is_answered vs q c = has_values c && (if is_truth vs q then answers_both c else has_else c)

abbrev pub statement_unanswered : List Variable → Statement → List ℕ
statement_unanswered vs (acts a) = []
statement_unanswered vs (asks at q c) = if is_answered vs q c then [] else at ∷ []
statement_unanswered vs (covers q ranges) = []
statement_unanswered vs (finishes e) = []

abbrev pub unanswered : PlainBlock → List ℕ
unanswered b =
    flat_map (λ p. in_statements (λ from. statement_unanswered (variables_of p)) p) (processes_of b)
