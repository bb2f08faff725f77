-- Quoted texts, described by the places of their bytes.
use Rattle.std.proofs.Common.{◌≡◌, ℕ, ◌+◌, ◌-◌, ◌<◌, ◌≤◌, inl, inr, false, List, [], ◌∷◌, ◌++◌, length, refl, sym, ◌∙◌, get_or, arith, suc}
use Rattle.std.specs.Prelude.{◌==◌, slice_range}
use Rattle.std.proofs.lemmas.Bool.{both_ways, cases_Bool, cases_lt}
use Rattle.std.proofs.lemmas.List.{drop_more}
use Rattle.sdl_lex.specs.declared.lexemes.Lexeme.TheVariants.{Quoted as a_quoted}
use Rattle.sdl_lex.specs.Lexed.{doubled, bare, IsToken, IsOpenQuoted}
use Rattle.sdl_lex.proofs.KindLemmas.{get_or-past}
use Rattle.sdl_lex.proofs.SliceLemmas.{slice_length}

-- Between two places there are whole characters: bytes other than quotes, and quotes in pairs.
pub data Inside (text : List ℕ) (to : ℕ) : ℕ → Type 0 where
  ended : Inside text to to
  other : {from : ℕ} → (get_or text from 0 == 39) ≡ false → Inside text to (from + 1) → Inside text to from
  twice : {from : ℕ} → get_or text from 0 ≡ 39 → get_or text (from + 1) 0 ≡ 39 → Inside text to (from + 2) → Inside text to from

-- There is a quote at a place, and no quote directly after it.
pub record Closes (text : List ℕ) (at : ℕ) : Type 0 where
  pub quote : get_or text at 0 ≡ 39
  pub last : (get_or text (at + 1) 0 == 39) ≡ false

-- Appends one more character at the end.
pub Inside-other : {text : List ℕ} {mid from : ℕ} → Inside text mid from → (get_or text mid 0 == 39) ≡ false → Inside text (mid + 1) from
Inside-other ended n = other n ended
Inside-other (other m rest) n = other m (Inside-other rest n)
Inside-other (twice a b rest) n = twice a b (Inside-other rest n)

pub Inside-twice : {text : List ℕ} {mid from : ℕ} → Inside text mid from → get_or text mid 0 ≡ 39 → get_or text (mid + 1) 0 ≡ 39
    → Inside text (mid + 2) from
Inside-twice ended p q = twice p q ended
Inside-twice (other m rest) p q = other m (Inside-twice rest p q)
Inside-twice (twice a b rest) p q = twice a b (Inside-twice rest p q)

Inside-le : (text : List ℕ) (to from : ℕ) → Inside text to from → from ≤ to
Inside-le text to _ ended = omega arith
Inside-le text to from (other m rest) = let l = Inside-le text to (from + 1) rest in omega arith
Inside-le text to from (twice a b rest) = let l = Inside-le text to (from + 2) rest in omega arith

no_quote : (b : ℕ) → b ≡ 39 → (b == 39) ≡ false → ⊥
no_quote b e n = both_ways (b == 39) n (rw e refl)

-- Whole characters from one place on don't extend past a closing quote.
not_past : (text : List ℕ) (p q from : ℕ) → Inside text p from → Closes text p → Inside text q from → q ≤ p
not_past text p q from one closes ended = Inside-le text p from one
not_past text p q _ ended closes (other n rest) = absurd (no_quote (get_or text p 0) closes.quote n)
not_past text p q _ ended closes (twice a b rest) = absurd (no_quote (get_or text (p + 1) 0) b closes.last)
not_past text p q from (other m one) closes (other n rest) = not_past text p q (from + 1) one closes rest
not_past text p q from (twice a b one) closes (twice c d rest) = not_past text p q (from + 2) one closes rest
not_past text p q from (other m one) closes (twice c d rest) = absurd (no_quote (get_or text from 0) c m)
not_past text p q from (twice a b one) closes (other n rest) = absurd (no_quote (get_or text from 0) a n)

-- A slice is its first byte followed by the rest.
slice_cons : (text : List ℕ) (from to : ℕ) → from < to → to ≤ length text
    → slice_range text from to ≡ get_or text from 0 ∷ slice_range text (from + 1) to
slice_cons text from to less inside =
    let below : from < length text = omega arith in
    let count : to - from ≡ suc (to - (from + 1)) = omega arith in
    rw (count, drop_more text from 0 below) refl

-- The text held between the quotes, from the whole characters between their places.
held_of : (text : List ℕ) (p from : ℕ) → p < length text → get_or text p 0 ≡ 39 → Inside text p from
    → (held : List ℕ) × (slice_range text from (p + 1) ≡ doubled held ++ 39 ∷ [])
held_of text p _ inside quote ended =
    let one = slice_cons text p (p + 1) (omega arith) (omega arith) in
    let none : (p + 1) - (p + 1) ≡ 0 = omega arith in
    ([], one ∙ rw (quote, none) refl)
held_of text p from inside quote (other m rest) =
    let more = held_of text p (from + 1) inside quote rest in
    let l = Inside-le text p (from + 1) rest in
    let first = slice_cons text from (p + 1) (omega arith) (omega arith) in
    (get_or text from 0 ∷ more.0, first ∙ rw (m, more.1) refl)
held_of text p from inside quote (twice a b rest) =
    let more = held_of text p (from + 2) inside quote rest in
    let l = Inside-le text p (from + 2) rest in
    let first = slice_cons text from (p + 1) (omega arith) (omega arith) in
    let second = slice_cons text (from + 1) (p + 1) (omega arith) (omega arith) in
    let next : (from + 1) + 1 ≡ from + 2 = omega arith in
    (39 ∷ more.0, first ∙ rw (second, next, a, b, more.1) refl)

-- The place of the closing quote, from the text held between the quotes.
pub record Closed (text : List ℕ) (from to : ℕ) : Type 0 where
  pub quote : ℕ
  pub ends : to ≡ quote + 1
  pub inner : Inside text quote from
  pub here : get_or text quote 0 ≡ 39

cons_parts : (b c : ℕ) (xs ys : List ℕ) → (b ∷ xs) ≡ (c ∷ ys) → (b ≡ c) × (xs ≡ ys)
cons_parts b c xs ys e = (cc, cc)

slice_parts : (text : List ℕ) (from to b : ℕ) (rest : List ℕ) → from ≤ to → to ≤ length text → slice_range text from to ≡ b ∷ rest
    → (from < to) × (get_or text from 0 ≡ b) × (slice_range text (from + 1) to ≡ rest)
slice_parts text from to b rest ordered inside e =
    let size = slice_length text from to inside in
    let some : length (slice_range text from to) ≡ suc (length rest) = rw e refl in
    let less : from < to = omega arith in
    let parts = cons_parts (get_or text from 0) b (slice_range text (from + 1) to) rest (sym (slice_cons text from to less inside) ∙ e) in
    (less, parts.0, parts.1)

closed_of : (held text : List ℕ) (from to : ℕ) → from ≤ to → to ≤ length text → slice_range text from to ≡ doubled held ++ 39 ∷ []
    → Closed text from to
closed_of [] text from to ordered inside e =
    let parts = slice_parts text from to 39 [] ordered inside e in
    let size = slice_length text (from + 1) to inside in
    let none : length (slice_range text (from + 1) to) ≡ 0 = rw parts.2 refl in
    record { quote = from; ends = omega (arith, parts.0, size, none); inner = ended; here = parts.1 }
closed_of (b ∷ bs) text from to ordered inside e =
    elim (cases_Bool (b == 39)) [
      | inl is ↦
          let first = slice_parts text from to 39 (39 ∷ (doubled bs ++ 39 ∷ [])) ordered inside (rw is at e) in
          let second = slice_parts text (from + 1) to 39 (doubled bs ++ 39 ∷ []) (omega (arith, first.0)) inside first.2 in
          let next : (from + 1) + 1 ≡ from + 2 = omega arith in
          let rest = closed_of bs text (from + 2) to (omega (arith, second.0)) inside (rw (← next) second.2) in
          record { quote = rest.quote; ends = rest.ends; inner = twice first.1 second.1 rest.inner; here = rest.here }
      | inr isnt ↦
          let first = slice_parts text from to b (doubled bs ++ 39 ∷ []) ordered inside (rw isnt at e) in
          let rest = closed_of bs text (from + 1) to (omega (arith, first.0)) inside first.2 in
          record { quote = rest.quote; ends = rest.ends; inner = other (rw first.1 isnt) rest.inner; here = rest.here }
    ]

-- A token that is a quoted text, described by places.
pub record QuotedHere (text : List ℕ) (start end : ℕ) : Type 0 where
  pub opens : get_or text start 0 ≡ 39
  pub quote : ℕ
  pub ends : end ≡ quote + 1
  pub inner : Inside text quote (start + 1)
  pub closes : Closes text quote
  pub inside : quote < length text

abbrev QuotedToken : List ℕ → ℕ → ℕ → Type 0
QuotedToken text start end = IsToken text (bare a_quoted start end)

pub quoted_here : (text : List ℕ) (start end : ℕ) → QuotedToken text start end → QuotedHere text start end
quoted_here text start end token =
    let held = token.spelled.0 in
    let first = slice_parts text start end 39 (doubled held ++ 39 ∷ []) token.ordered token.inside token.spelled.1 in
    let rest = closed_of held text (start + 1) end (omega (arith, first.0)) token.inside first.2 in
    let within : rest.quote < length text = omega (arith, rest.ends, token.inside) in
    record {
      opens = first.1;
      quote = rest.quote;
      ends = rest.ends;
      inner = rest.inner;
      closes = record { quote = rest.here; last = rw (← rest.ends) token.longest };
      inside = within;
    }

pub quoted_end : (text : List ℕ) (start e f : ℕ) → QuotedHere text start e → QuotedHere text start f → e ≡ f
quoted_end text start e f one two =
    let up = not_past text one.quote two.quote (start + 1) one.inner one.closes two.inner in
    let down = not_past text two.quote one.quote (start + 1) two.inner two.closes one.inner in
    omega (arith, one.ends, two.ends, up, down)

pub quoted_token : (text : List ℕ) (start quote : ℕ) → get_or text start 0 ≡ 39 → quote < length text
    → Inside text quote (start + 1) → get_or text quote 0 ≡ 39 → (get_or text (quote + 1) 0 == 39) ≡ false
    → QuotedToken text start (quote + 1) × (start < quote + 1) × (quote + 1 ≤ length text)
quoted_token text start quote opens inside inner here last =
    let l = Inside-le text quote (start + 1) inner in
    let more = held_of text quote (start + 1) inside here inner in
    let first = slice_cons text start (quote + 1) (omega arith) (omega arith) in
    let spelled : slice_range text start (quote + 1) ≡ 39 ∷ (doubled more.0 ++ 39 ∷ []) = first ∙ rw (opens, more.1) refl in
    (record { ordered = omega arith; inside = omega arith; spelled = (more.0, spelled); longest = last }, omega arith, omega arith)

-- If whole characters extend to the end of the text, the quoted text has no end.
pub quoted_endless : (text : List ℕ) (start : ℕ) → get_or text start 0 ≡ 39 → Inside text (length text) (start + 1) → IsOpenQuoted text start
quoted_endless text start opens inner = record {
  opens = opens;
  endless = λ end token.
      let here = quoted_here text start end token in
      let past = not_past text here.quote (length text) (start + 1) here.inner here.closes inner in
      omega (arith, here.inside, past);
}

-- The place of a quote is within the text.
pub quote_within : (text : List ℕ) (at : ℕ) → get_or text at 0 ≡ 39 → at < length text
quote_within text at here =
    elim (cases_lt at (length text)) [
      | inl less ↦ less
      | inr past ↦ omega (arith, here, get_or-past text at past)
    ]
