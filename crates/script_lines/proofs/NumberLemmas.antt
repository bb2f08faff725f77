-- Words that are numbers.
use Rattle.std.proofs.Common.{◌≡◌, ℕ, ◌+◌, ◌-◌, ◌*◌, ◌^◌, ◌<◌, ◌≤◌, nat_le, true, false, ◌&&◌, List, [], ◌∷◌, length, fold, None, Some, Ok, Err, refl, ap, ◌∙◌, arith, inl, inr, option_map}
use Rattle.std.specs.Prelude.{◌≢◌, codes}
use Rattle.std.specs.Char.{is_ascii_digit}
use Rattle.std.specs.List.{list_all}
use Rattle.std.specs.Str.{all_ascii_digits, bytes_eq}
use Rattle.std.specs.Str.Parse.{ParsesUnsigned}
use Rattle.std.proofs.lemmas.Str.Parse.{IsNumeralModel, tells_all_ascii_digits, numerals_by_fold, parse_digits, FoldsDigits}
use borrow.Author.Tests.{ltb-true}
use Rattle.std.proofs.lemmas.Bool.{and_parts, cases_lt, ne_eqb, lt-leb, le-leb, false_from_ne_true}
use Rattle.std.proofs.lemmas.Slice.Eq.{bytes_eq-Decides}
use Rattle.turn_code.specs.declared.value.Value.TheVariants as values
use Rattle.script_lines.specs.Numbers.{decimal, is_digits, number_up_to, negative, positive, integer_of, value_of}

read_on : ℕ → List ℕ → ℕ
read_on n digits = fold (λ n digit. 10 * n + (digit - 48)) n digits

folds : FoldsDigits read_on
unfolding read_on
folds = record { empty = λ n. refl; more = λ n c cs d. ap (λ m. fold (λ n digit. 10 * n + (digit - 48)) m cs) (omega arith) }

own : IsNumeralModel (λ ds. all_ascii_digits ds ≡ true) decimal
unfolding read_on
own = numerals_by_fold _ tells_all_ascii_digits read_on folds

all_same : (ds : List ℕ) → all_ascii_digits ds ≡ list_all is_ascii_digit ds
all_same [] = refl
all_same (d ∷ ds) = ap (λ b. is_ascii_digit d && b) (all_same ds)

-- The two parts of the test.
digits_parts : (word : List ℕ) → is_digits word ≡ true → (0 < length word) × (all_ascii_digits word ≡ true)
digits_parts word h = let parts = and_parts _ _ h in (ltb-true _ _ parts.0, all_same word ∙ parts.1)

-- Digits that fit, digits whose number is too large, and digits that don't parse.
pub fits : (most : ℕ) (word : List ℕ) (n : ℕ) → is_digits word ≡ true → ParsesUnsigned {E = ℕ} 32 10 word (Ok n) → n ≤ most
    → Some n ≡ number_up_to most word
unfolding number_up_to
fits most word n digits h low =
    let read = parse_digits own {E = ℕ} 32 word (Ok n) h (digits_parts word digits).1 in
    let same : n ≡ decimal word = read.1 in
    let within : nat_le (decimal word) most ≡ true = le-leb _ _ (omega arith) in
    rw (digits, within, same) refl

pub past : (most : ℕ) (word : List ℕ) (n : ℕ) → is_digits word ≡ true → ParsesUnsigned {E = ℕ} 32 10 word (Ok n) → most < n
    → None ≡ number_up_to most word
unfolding number_up_to
past most word n digits h high =
    let read = parse_digits own {E = ℕ} 32 word (Ok n) h (digits_parts word digits).1 in
    let same : n ≡ decimal word = read.1 in
    let beyond : nat_le (decimal word) most ≡ false = lt-leb _ _ (omega arith) in
    rw (digits, beyond) refl

pub unread : (most : ℕ) (word : List ℕ) → most < 2 ^ 32 → is_digits word ≡ true → ParsesUnsigned {E = ℕ} 32 10 word (Err 0)
    → None ≡ number_up_to most word
unfolding number_up_to
unread most word small digits h =
    let read = parse_digits own {E = ℕ} 32 word (Err 0) h (digits_parts word digits).1 in
    elim (cases_lt most (decimal word)) [
      | inl high ↦ rw (digits, lt-leb (decimal word) most high) refl
      | inr low ↦ absurd (read ((digits_parts word digits).0, omega arith))
    ]

pub no_digits : (most : ℕ) (word : List ℕ) → is_digits word ≡ false → None ≡ number_up_to most word
unfolding number_up_to
no_digits most word none = rw none refl

pub integer_of-minus : (word ds : List ℕ) → word ≡ 45 ∷ ds → integer_of word ≡ negative ds
unfolding integer_of
integer_of-minus word ds e = rw e refl

pub integer_of-plain : (word : List ℕ) → ((rest : List ℕ) → word ≢ 45 ∷ rest) → integer_of word ≡ positive word
unfolding integer_of
integer_of-plain [] none = refl
integer_of-plain (b ∷ bs) none = rw (ne_eqb b 45 (λ e. none bs (ap (λ x. x ∷ bs) e))) refl

pub bytes_ne : (xs ys : List ℕ) → xs ≢ ys → bytes_eq xs ys ≡ false
bytes_ne xs ys differ = false_from_ne_true _ (λ e. differ ((bytes_eq-Decides xs ys).0 e))

pub value_of-other : (word : List ℕ) → word ≢ codes "true" → word ≢ codes "false" → value_of word ≡ option_map values.Int (integer_of word)
unfolding value_of
value_of-other word not_true not_false = rw (bytes_ne word (codes "true") not_true, bytes_ne word (codes "false") not_false) refl
