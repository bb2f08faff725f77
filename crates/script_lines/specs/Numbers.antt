-- The number or truth value that a word spells.
use Rattle.std.specs.Prelude.{ℕ, ◌+◌, ◌-◌, ◌*◌, ◌==◌, nat_lt, nat_le, ℤ, pos, neg_ℤ, Bool as Truth}
use Rattle.std.specs.Prelude.{◌&&◌, true, false, if◌then◌else◌, List, [], ◌∷◌, length, fold, Option}
use Rattle.std.specs.Prelude.{None, Some, option_map, codes}
use Rattle.std.specs.Char.{is_ascii_digit}
use Rattle.std.specs.List.{list_all}
use Rattle.std.specs.Str.{bytes_eq}
use Rattle.turn_code.specs.declared.value.Value.{Value}
use Rattle.turn_code.specs.declared.value.Value.TheVariants.{Int, Bool}

-- The number that digits spell.
abbrev pub decimal : List ℕ → ℕ
decimal digits = fold (λ n digit. 10 * n + (digit - 48)) 0 digits

-- Digits, at least one, and nothing else.
abbrev pub is_digits : List ℕ → Truth
is_digits word = nat_lt 0 (length word) && list_all is_ascii_digit word

-- The number that a word of digits spells, if it is at most `most`.
unfoldable pub number_up_to : ℕ → List ℕ → Option ℕ
number_up_to most word =
    if is_digits word && nat_le (decimal word) most then Some (decimal word) else None

-- A count: digits only.
abbrev pub count_of : List ℕ → Option ℕ
count_of word = number_up_to 2147483647 word

-- Digits after a `-`, and digits without it: an Integer of 32 bits.
abbrev pub negative : List ℕ → Option ℤ
negative digits = option_map (λ n. neg_ℤ (pos n)) (number_up_to 2147483648 digits)

abbrev pub positive : List ℕ → Option ℤ
positive digits = option_map pos (number_up_to 2147483647 digits)

unfoldable pub integer_of : List ℕ → Option ℤ
integer_of [] = positive []
integer_of (b ∷ bs) = if b == 45 then negative bs else positive (b ∷ bs)

-- A value: `true`, `false`, or an Integer.
unfoldable pub value_of : List ℕ → Option Value
value_of word = if bytes_eq word (codes "true") then Some (Bool true)
    else (if bytes_eq word (codes "false") then Some (Bool false)
    else option_map Int (integer_of word))
