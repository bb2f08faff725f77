-- At most one item begins at each place of a text.
use Rattle.std.proofs.Common.{◌≡◌, ℕ, ◌+◌, ◌-◌, ◌<◌, ◌≤◌, inl, inr, true, false, List, [], ◌∷◌, length, take, drop, map, refl, ap, sym, ◌∙◌, get_or, arith, zero, suc}
use Rattle.std.specs.Prelude.{slice_range, nat_le}
use Rattle.std.specs.List.{list_all}
use Rattle.std.specs.Char.{is_ascii_alphabetic, is_ascii_digit, to_ascii_lowercase}
use Rattle.std.proofs.lemmas.Bool.{both_ways, cases_lt, cases_order, and_parts, and_from, leb-true}
use Rattle.std.proofs.lemmas.List.{length-map}
use Rattle.std.proofs.lemmas.Grind.{common_steps}
use Rattle.sdl_lex.specs.Limits.{GREATEST_NUMBER}
use Rattle.sdl_lex.specs.declared.lexemes.Word.{Word}
use Rattle.sdl_lex.specs.Spelling.{SameName, folded, is_name_byte, is_spelled_as_name}
use Rattle.sdl_lex.specs.Texts.{word_text}
use Rattle.sdl_lex.specs.Lexed.{IsNumber, decimal, IsLongName, IsLargeNumber}
use Rattle.sdl_lex.proofs.SliceLemmas.{slice_byte, slice_length, slice_length-le, spelled-first, spelled-each, decimal-take}
use Rattle.sdl_lex.proofs.WordLemmas.{word_is_name}

-- A word or a name.

pub record Wordlike (text : List ℕ) (start end : ℕ) : Type 0 where
  pub ordered : start < end
  pub inside : end ≤ length text
  pub first : is_ascii_alphabetic (get_or text start 0) ≡ true
  pub each : (k : ℕ) → start ≤ k → k < end → is_name_byte (get_or text k 0) ≡ true
  pub stops : is_name_byte (get_or text end 0) ≡ false
  pub short : end ≤ start + 32

lower-letter_back : (b : ℕ) → is_ascii_alphabetic (to_ascii_lowercase b) ≡ true → is_ascii_alphabetic b ≡ true
lower-letter_back b h = grind (arith, common_steps)

lower-name_byte_back : (b : ℕ) → is_name_byte (to_ascii_lowercase b) ≡ true → is_name_byte b ≡ true
lower-name_byte_back b h = grind (arith, common_steps)

all_lower_back : (bs : List ℕ) → list_all is_name_byte (map to_ascii_lowercase bs) ≡ true → list_all is_name_byte bs ≡ true
all_lower_back [] h = refl
all_lower_back (b ∷ bs) h =
    let parts = and_parts (is_name_byte (to_ascii_lowercase b)) (list_all is_name_byte (map to_ascii_lowercase bs)) h in
    and_from _ _ (lower-name_byte_back b parts.0) (all_lower_back bs parts.1)

spelled_back : (bs : List ℕ) → is_spelled_as_name (folded bs) ≡ true → is_spelled_as_name bs ≡ true
spelled_back [] h = h
spelled_back (b ∷ bs) h =
    let parts = and_parts (is_ascii_alphabetic (to_ascii_lowercase b)) (list_all is_name_byte (map to_ascii_lowercase bs)) h in
    and_from _ _ (lower-letter_back b parts.0) (all_lower_back bs parts.1)

-- Bytes that spell a reserved word are spelled as a name, and have 32 bytes at most.
pub word_name : (bytes : List ℕ) (w : Word) → SameName bytes (word_text w) → (is_spelled_as_name bytes ≡ true) × (length bytes ≤ 32)
word_name bytes w same =
    let parts = and_parts (is_spelled_as_name (folded (word_text w))) (nat_le (length (word_text w)) 32) (word_is_name w) in
    let spelled : is_spelled_as_name (folded bytes) ≡ true = rw same parts.0 in
    let short : length (word_text w) ≤ 32 = leb-true _ _ parts.1 in
    let size : length bytes ≡ length (word_text w) =
    sym (length-map bytes to_ascii_lowercase) ∙ (ap (λ (xs : List ℕ). length xs) same ∙ length-map (word_text w) to_ascii_lowercase) in
    (spelled_back bytes spelled, omega arith)

-- A byte of a slice that is spelled as a name is a byte of names.
slice_name_byte : (text : List ℕ) (start end k : ℕ) → is_spelled_as_name (slice_range text start end) ≡ true
    → k < length (slice_range text start end) → is_name_byte (get_or text (start + k) 0) ≡ true
slice_name_byte text start end k spelled below =
    let room = slice_length-le text start end in
    let back : (start + k) - start ≡ k = omega arith in
    let byte = slice_byte text start end (start + k) (omega arith) (omega arith) in
    let there : get_or (slice_range text start end) k 0 ≡ get_or text (start + k) 0 = rw back at byte in
    rw (← there) (spelled-each (slice_range text start end) spelled k below)

pub slice_letter : (text : List ℕ) (start end : ℕ) → is_spelled_as_name (slice_range text start end) ≡ true
    → is_ascii_alphabetic (get_or text start 0) ≡ true
slice_letter text start end spelled =
    let first = spelled-first (slice_range text start end) spelled in
    let room = slice_length-le text start end in
    let back : start - start ≡ 0 = omega arith in
    let byte = slice_byte text start end start (omega arith) (omega arith) in
    let there : get_or (slice_range text start end) 0 0 ≡ get_or text start 0 = rw back at byte in
    rw (← there) first.1

pub wordlike_from : (text : List ℕ) (start end : ℕ) → start ≤ end → end ≤ length text
    → is_spelled_as_name (slice_range text start end) ≡ true → length (slice_range text start end) ≤ 32
    → is_name_byte (get_or text end 0) ≡ false → Wordlike text start end
wordlike_from text start end ordered inside spelled short stops =
    let size = slice_length text start end inside in
    let some = (spelled-first (slice_range text start end) spelled).0 in
    record {
      ordered = omega arith;
      inside = inside;
      first = slice_letter text start end spelled;
      each = λ k from to.
          let back : start + (k - start) ≡ k = omega arith in
          let byte = slice_name_byte text start end (k - start) spelled (omega arith) in
          rw back at byte;
      stops = stops;
      short = omega arith;
    }

pub wordlike_end : (text : List ℕ) (start e f : ℕ) → Wordlike text start e → Wordlike text start f → e ≡ f
wordlike_end text start e f one other =
    elim (cases_order e f) [
      | inl same ↦ same
      | inr (inl less) ↦
          let from : start ≤ e = omega (arith, one.ordered) in
          absurd (both_ways (is_name_byte (get_or text e 0)) one.stops (other.each e from less))
      | inr (inr more) ↦
          let from : start ≤ f = omega (arith, other.ordered) in
          absurd (both_ways (is_name_byte (get_or text f 0)) other.stops (one.each f from more))
    ]

-- A number.

pub record Numberlike (text : List ℕ) (start end : ℕ) : Type 0 where
  pub ordered : start < end
  pub inside : end ≤ length text
  pub each : (k : ℕ) → start ≤ k → k < end → is_ascii_digit (get_or text k 0) ≡ true
  pub stops : is_ascii_digit (get_or text end 0) ≡ false
  pub small : decimal (slice_range text start end) ≤ GREATEST_NUMBER

-- a digit of a slice that is a number
pub slice_digit : (text : List ℕ) (start end k : ℕ) → IsNumber (slice_range text start end)
    → k < length (slice_range text start end) → is_ascii_digit (get_or text (start + k) 0) ≡ true
slice_digit text start end k number below =
    let room = slice_length-le text start end in
    let back : (start + k) - start ≡ k = omega arith in
    let byte = slice_byte text start end (start + k) (omega arith) (omega arith) in
    let there : get_or (slice_range text start end) k 0 ≡ get_or text (start + k) 0 = rw back at byte in
    rw (← there) (number.1 k below)

pub numberlike_from : (text : List ℕ) (start end : ℕ) → start ≤ end → end ≤ length text
    → IsNumber (slice_range text start end) → decimal (slice_range text start end) ≤ GREATEST_NUMBER
    → is_ascii_digit (get_or text end 0) ≡ false → Numberlike text start end
numberlike_from text start end ordered inside number small stops =
    let size = slice_length text start end inside in
    let some = number.0 in
    record {
      ordered = omega arith;
      inside = inside;
      each = λ k from to.
          let back : start + (k - start) ≡ k = omega arith in
          let byte = slice_digit text start end (k - start) number (omega arith) in
          rw back at byte;
      stops = stops;
      small = small;
    }

pub numberlike_end : (text : List ℕ) (start e f : ℕ) → Numberlike text start e → Numberlike text start f → e ≡ f
numberlike_end text start e f one other =
    elim (cases_order e f) [
      | inl same ↦ same
      | inr (inl less) ↦
          let from : start ≤ e = omega (arith, one.ordered) in
          absurd (both_ways (is_ascii_digit (get_or text e 0)) one.stops (other.each e from less))
      | inr (inr more) ↦
          let from : start ≤ f = omega (arith, other.ordered) in
          absurd (both_ways (is_ascii_digit (get_or text f 0)) other.stops (one.each f from more))
    ]

-- Faults.

pub long_no_word : (text : List ℕ) (at end : ℕ) → IsLongName text at → Wordlike text at end → ⊥
long_no_word text at end long word =
    let room = long.2 in
    let after : at + (end - at) ≡ end = omega (arith, word.ordered) in
    let below : end - at < length (slice_range text at long.0) = omega (arith, word.short, word.ordered) in
    let byte = slice_name_byte text at long.0 (end - at) long.1 below in
    both_ways (is_name_byte (get_or text end 0)) word.stops (rw after at byte)

take_short : (m j : ℕ) (xs : List ℕ) → length (take m xs) ≤ j → take m xs ≡ take m (take j xs)
take_short zero j xs h = refl
take_short (suc m) zero [] h = refl
take_short (suc m) (suc j) [] h = refl
take_short (suc m) zero (x ∷ xs) h = absurd (omega arith)
take_short (suc m) (suc j) (x ∷ xs) h = ap (λ (ys : List ℕ). x ∷ ys) (take_short m j xs (omega arith))

pub large_no_number : (text : List ℕ) (at end : ℕ) → IsLargeNumber text at → Numberlike text at end → ⊥
large_no_number text at end large number =
    elim (cases_lt (end - at) (length (slice_range text at large.0))) [
      | inl below ↦
          let after : at + (end - at) ≡ end = omega (arith, number.ordered) in
          let byte = slice_digit text at large.0 (end - at) large.1 below in
          both_ways (is_ascii_digit (get_or text end 0)) number.stops (rw after at byte)
      | inr all ↦
          let same : slice_range text at large.0 ≡ take (large.0 - at) (slice_range text at end) =
          take_short (large.0 - at) (end - at) (drop at text) all in
          let less = decimal-take (large.0 - at) (slice_range text at end) in
          let more : GREATEST_NUMBER < decimal (take (large.0 - at) (slice_range text at end)) = rw same at large.2 in
          omega (arith, number.small)
    ]
