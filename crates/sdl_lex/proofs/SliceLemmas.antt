-- The bytes of a slice of the text.
use Rattle.std.proofs.Common.{◌≡◌, ℕ, ◌+◌, ◌-◌, ◌*◌, ◌<◌, ◌≤◌, Bool, true, false, List, [], ◌∷◌, length, take, drop, refl, ap, ◌∙◌, get_or, inl, inr, arith, zero, suc, length-take, length-drop}
use Rattle.std.specs.Prelude.{slice_range, fold}
use Rattle.std.specs.List.{list_all}
use Rattle.std.specs.Char.{is_ascii_alphabetic}
use Rattle.std.proofs.lemmas.Bool.{and_from, and_parts, both_ways, cases_lt}
use Rattle.std.proofs.lemmas.List.{get_or-take, get_or-drop, length-take-le}
use Rattle.std.proofs.lemmas.Grind.{common_steps}
use Rattle.sdl_lex.specs.Spelling.{is_name_byte, is_spelled_as_name}
use Rattle.sdl_lex.specs.Lexed.{decimal}
use Rattle.sdl_lex.specs.Scan.{IsRun}

-- A byte of a slice is the text's byte at the same place.
pub slice_byte : (text : List ℕ) (at end k : ℕ) → at ≤ k → k < end → get_or (slice_range text at end) (k - at) 0 ≡ get_or text k 0
slice_byte text at end k l h =
    let inside : k - at < end - at = omega arith in
    let back : at + (k - at) ≡ k = omega arith in
    get_or-take (end - at) (drop at text) (k - at) 0 inside ∙ (get_or-drop at text (k - at) 0 ∙ ap (λ (i : ℕ). get_or text i 0) back)

pub slice_length : (text : List ℕ) (at end : ℕ) → end ≤ length text → length (slice_range text at end) ≡ end - at
slice_length text at end h =
    let inside : end - at ≤ length (drop at text) = omega (arith, length-drop at text) in
    length-take-le (end - at) (drop at text) inside

-- A slice is no longer than the distance between its bounds.
pub slice_length-le : (text : List ℕ) (at end : ℕ) → length (slice_range text at end) ≤ end - at
slice_length-le text at end = omega (arith, length-take (end - at) (drop at text))

-- A test that each byte passes holds of the list, and the reverse.
pub list_all-from : (p : ℕ → Bool) (bytes : List ℕ) → ((k : ℕ) → k < length bytes → p (get_or bytes k 0) ≡ true) → list_all p bytes ≡ true
list_all-from p [] each = refl
list_all-from p (b ∷ bs) each =
    and_from (p b) (list_all p bs) (each 0 (omega arith)) (list_all-from p bs (λ k h. each (suc k) (omega arith)))

pub list_all-each : (p : ℕ → Bool) (bytes : List ℕ) → list_all p bytes ≡ true → (k : ℕ) → k < length bytes → p (get_or bytes k 0) ≡ true
list_all-each p [] all k h = absurd (omega arith)
list_all-each p (b ∷ bs) all zero h = (and_parts (p b) (list_all p bs) all).0
list_all-each p (b ∷ bs) all (suc k) h = list_all-each p bs (and_parts (p b) (list_all p bs) all).1 k (omega arith)

pub letter-name_byte : (b : ℕ) → is_ascii_alphabetic b ≡ true → is_name_byte b ≡ true
letter-name_byte b h = grind (arith, common_steps)

-- Bytes are spelled as a name exactly if they are a letter and then bytes of names.
pub spelled-from : (bytes : List ℕ) → 0 < length bytes → is_ascii_alphabetic (get_or bytes 0 0) ≡ true
    → ((k : ℕ) → k < length bytes → is_name_byte (get_or bytes k 0) ≡ true) → is_spelled_as_name bytes ≡ true
spelled-from [] l first each = absurd (omega arith)
spelled-from (b ∷ bs) l first each =
    and_from (is_ascii_alphabetic b) (list_all is_name_byte bs) first (list_all-from is_name_byte bs (λ k h. each (suc k) (omega arith)))

pub spelled-first : (bytes : List ℕ) → is_spelled_as_name bytes ≡ true → (0 < length bytes) × (is_ascii_alphabetic (get_or bytes 0 0) ≡ true)
spelled-first [] h = absurd (cc)
spelled-first (b ∷ bs) h = (omega arith, (and_parts (is_ascii_alphabetic b) (list_all is_name_byte bs) h).0)

pub spelled-each : (bytes : List ℕ) → is_spelled_as_name bytes ≡ true → (k : ℕ) → k < length bytes → is_name_byte (get_or bytes k 0) ≡ true
spelled-each [] h k l = absurd (cc)
spelled-each (b ∷ bs) h zero l = letter-name_byte b (and_parts (is_ascii_alphabetic b) (list_all is_name_byte bs) h).0
spelled-each (b ∷ bs) h (suc k) l =
    list_all-each is_name_byte bs (and_parts (is_ascii_alphabetic b) (list_all is_name_byte bs) h).1 k (omega arith)

-- A slice that begins with a letter and has only bytes of names is spelled as a name.
pub spelled-slice : (text : List ℕ) (at end : ℕ) → at < end → end ≤ length text → is_ascii_alphabetic (get_or text at 0) ≡ true
    → ((k : ℕ) → at ≤ k → k < end → is_name_byte (get_or text k 0) ≡ true) → is_spelled_as_name (slice_range text at end) ≡ true
spelled-slice text at end l inside first each =
    let len = slice_length text at end inside in
    spelled-from (slice_range text at end) (omega arith) (slice_first text at end first l) (λ k h.
    let below : k < end - at = omega arith in
    let same : get_or (slice_range text at end) k 0 ≡ get_or text (at + k) 0 = slice_at text at end k below in
    rw same (each (at + k) (omega arith) (omega arith)))
  where
    slice_at : (text : List ℕ) (at end k : ℕ) → k < end - at → get_or (slice_range text at end) k 0 ≡ get_or text (at + k) 0
    slice_at text at end k below = get_or-take (end - at) (drop at text) k 0 below ∙ get_or-drop at text k 0

    slice_first : (text : List ℕ) (at end : ℕ) → is_ascii_alphabetic (get_or text at 0) ≡ true → at < end
        → is_ascii_alphabetic (get_or (slice_range text at end) 0 0) ≡ true
    slice_first text at end first l =
        let same : get_or (slice_range text at end) 0 0 ≡ get_or text (at + 0) 0 = slice_at text at end 0 (omega arith) in
        let here : at + 0 ≡ at = omega arith in
        rw (same, here) first

-- A run of bytes of names that begins with a letter.
run_begins : (text : List ℕ) (at end : ℕ) → IsRun is_name_byte text at end → is_ascii_alphabetic (get_or text at 0) ≡ true → at < end
run_begins text at end run first =
    elim (cases_lt at end) [
      | inl l ↦ l
      | inr h ↦
          let same : end ≡ at = omega (arith, run.ordered) in
          let stops : is_name_byte (get_or text at 0) ≡ false = rw same at run.stops in
          absurd (both_ways (is_name_byte (get_or text at 0)) stops (letter-name_byte (get_or text at 0) first))
    ]

pub run_spelled : (text : List ℕ) (at end : ℕ) → IsRun is_name_byte text at end → is_ascii_alphabetic (get_or text at 0) ≡ true
    → is_spelled_as_name (slice_range text at end) ≡ true
run_spelled text at end run first =
    spelled-slice text at end (run_begins text at end run first) run.inside first run.each

-- Appending digits doesn't make the number smaller.
fold-grows : (n : ℕ) (digits : List ℕ) → n ≤ fold (λ (n digit : ℕ). 10 * n + (digit - 48)) n digits
fold-grows n [] = omega arith
fold-grows n (d ∷ ds) = let h = fold-grows (10 * n + (d - 48)) ds in omega arith

fold-take : (n i : ℕ) (digits : List ℕ)
    → fold (λ (n digit : ℕ). 10 * n + (digit - 48)) n (take i digits) ≤ fold (λ (n digit : ℕ). 10 * n + (digit - 48)) n digits
fold-take n zero digits = fold-grows n digits
fold-take n (suc i) [] = omega arith
fold-take n (suc i) (d ∷ ds) = fold-take (10 * n + (d - 48)) i ds

pub decimal-take : (i : ℕ) (digits : List ℕ) → decimal (take i digits) ≤ decimal digits
decimal-take i digits = fold-take 0 i digits
