-- Words that are milliseconds.
use Rattle.std.proofs.Common.{◌≡◌, ℕ, ◌+◌, ◌-◌, ◌*◌, ◌<◌, nat_le, true, false, ◌&&◌, List, [], ◌∷◌, length, fold, None, Some, Ok, Err, refl, ap, ◌∙◌, arith, inl, inr}
use Rattle.std.specs.Char.{is_ascii_digit}
use Rattle.std.specs.List.{list_all}
use Rattle.std.specs.Str.{all_ascii_digits}
use Rattle.std.specs.Str.Parse.{ParsesUnsigned}
use Rattle.std.proofs.lemmas.Str.Parse.{IsNumeralModel, tells_all_ascii_digits, numerals_by_fold, parse_digits, FoldsDigits}
use borrow.Author.Tests.{ltb-true}
use Rattle.std.proofs.lemmas.Bool.{and_parts, cases_lt, lt-leb, le-leb}
use Rattle.script_lines.specs.Numbers.{decimal, is_digits, number_up_to}
use Rattle.line_filter.specs.Says.{millisecond_of}

read_on : ℕ → List ℕ → ℕ
read_on n digits = fold (λ n digit. 10 * n + (digit - 48)) n digits

folds : FoldsDigits read_on
unfolding read_on
folds = record { empty = λ n. refl; more = λ n c cs d. ap (λ m. fold (λ n digit. 10 * n + (digit - 48)) m cs) (omega arith) }

own : IsNumeralModel (λ ds. all_ascii_digits ds ≡ true) decimal
unfolding read_on
own = numerals_by_fold _ tells_all_ascii_digits read_on folds

all_same : (ds : List ℕ) → all_ascii_digits ds ≡ list_all is_ascii_digit ds
all_same [] = refl
all_same (d ∷ ds) = ap (λ b. is_ascii_digit d && b) (all_same ds)

digits_parts : (word : List ℕ) → is_digits word ≡ true → (0 < length word) × (all_ascii_digits word ≡ true)
digits_parts word h = let parts = and_parts _ _ h in (ltb-true _ _ parts.0, all_same word ∙ parts.1)

-- Digits that parse as a number of 64 bits, and digits that don't.
pub fits_long : (word : List ℕ) (n : ℕ) → is_digits word ≡ true → ParsesUnsigned {E = ℕ} 64 10 word (Ok n) → Some n ≡ millisecond_of word
unfolding number_up_to
fits_long word n digits h =
    let read = parse_digits own {E = ℕ} 64 word (Ok n) h (digits_parts word digits).1 in
    let same : n ≡ decimal word = read.1 in
    let within : nat_le (decimal word) 18446744073709551615 ≡ true = le-leb _ _ (omega (arith, read.0.1)) in
    rw (digits, within, same) refl

pub unread_long : (word : List ℕ) → is_digits word ≡ true → ParsesUnsigned {E = ℕ} 64 10 word (Err 0) → None ≡ millisecond_of word
unfolding number_up_to
unread_long word digits h =
    let read = parse_digits own {E = ℕ} 64 word (Err 0) h (digits_parts word digits).1 in
    elim (cases_lt 18446744073709551615 (decimal word)) [
      | inl high ↦ rw (digits, lt-leb (decimal word) 18446744073709551615 high) refl
      | inr low ↦ absurd (read ((digits_parts word digits).0, omega arith))
    ]

pub no_digits_long : (word : List ℕ) → is_digits word ≡ false → None ≡ millisecond_of word
unfolding number_up_to
no_digits_long word none = rw none refl
