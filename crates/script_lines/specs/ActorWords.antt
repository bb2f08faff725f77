-- The actor that a word of a script names.
use Rattle.std.specs.Prelude.{ℕ, suc, ◌==◌, nat_lt, Bool, List, [], ◌∷◌, length, map, Option, None}
use Rattle.std.specs.Prelude.{Some, option_map, if◌then◌else◌}
use Rattle.std.specs.List.{position_or_len, before_first, after_first}
use Rattle.std.specs.Char.{to_ascii_lowercase}
use Rattle.std.specs.Str.{bytes_eq}
use Rattle.turn_code.specs.declared.draft.Draft.{Draft}
use Rattle.turn_check.specs.Named.{process_names}
use Rattle.script_lines.specs.Numbers.{count_of}
use Rattle.actor_machine.specs.Names.{named, actors_of, place_of}
use Rattle.script_lines.specs.declared.word.Called.{Called}

-- ---- names

-- The two names differ at most in the case of letters.
abbrev pub same_name : List ℕ → List ℕ → Bool
same_name a b = bytes_eq (map to_ascii_lowercase a) (map to_ascii_lowercase b)

-- The number of the first of these names that equals this one apart from case, if any does.
unfoldable pub number_of : List (List ℕ) → List ℕ → Option ℕ
number_of [] name = None
number_of (x ∷ xs) name =
    if same_name x name then Some 0 else option_map (λ n. suc n) (number_of xs name)

-- ---- the two parts of a word

abbrev pub is_dot : ℕ → Bool
is_dot b = b == 46

abbrev pub has_dot : List ℕ → Bool
has_dot word = nat_lt (position_or_len is_dot word) (length word)

-- The part before the first `.`, or the whole word.
abbrev pub process_part : List ℕ → List ℕ
process_part word = if has_dot word then before_first is_dot word else word

-- The number after the first `.`, if one follows; 1 if there is no `.`.
abbrev pub instance_part : List ℕ → Option ℕ
instance_part word = if has_dot word then count_of (after_first is_dot word) else Some 1

-- ---- actors

-- Instance k of process p, with its number among the actors.
abbrev pub actor_at : Draft → ℕ → ℕ → Option Called
actor_at d p k =
    option_map (λ n. let c : Called = record { name = named p k; number = n }
    in c) (place_of (named p k) (actors_of d.processes))

abbrev pub called_by : Draft → Option ℕ → Option ℕ → Option Called
called_by d None k = None
called_by d (Some p) None = None
called_by d (Some p) (Some k) = actor_at d p k

-- The actor that a word names, if it names one.
unfoldable pub actor_called : Draft → List ℕ → Option Called
actor_called d word =
    called_by d (number_of (process_names d) (process_part word)) (instance_part word)
