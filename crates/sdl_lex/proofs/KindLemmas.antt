-- Which kind of item may begin at a place, given the byte there and the next byte.
use Rattle.std.proofs.Common.{◌≡◌, ℕ, ◌+◌, ◌-◌, ◌<◌, ◌≤◌, ◌⊎◌, inl, inr, Bool, true, false, ◌&&◌, List, [], ◌∷◌, length, refl, ap, sym, ◌∙◌, get_or, arith, zero, suc, Option, Some, None, cond}
use Rattle.std.specs.Prelude.{◌==◌, slice_range}
use Rattle.std.specs.Char.{is_ascii_alphabetic, is_ascii_digit}
use Rattle.std.proofs.lemmas.Bool.{ne_eqb, and_left, or_parts}
use Rattle.std.proofs.lemmas.Grind.{common_steps}
use Rattle.sdl_lex.specs.declared.lexemes.Symbol.{Symbol}
use Rattle.sdl_lex.specs.declared.lexemes.Symbol.TheVariants.{Semicolon, Comma, Colon, Assign, Open, Close, Plus, Minus, Star, Slash, Equal, NotEqual, Less, LessEqual, Greater, GreaterEqual}
use Rattle.sdl_lex.specs.Texts.{symbol_text}
use Rattle.sdl_lex.specs.Lexed.{is_white, continues_symbol, IsBad}
use Rattle.sdl_lex.proofs.SliceLemmas.{slice_byte, slice_length}

pub data Kind : Type 0 where
  a_letter : Kind
  a_digit : Kind
  a_space : Kind
  a_quote : Kind
  a_comment : Kind
  a_mark : Kind

abbrev pub kind_of : Bool → Bool → Bool → Bool → Bool → Kind
kind_of true _ _ _ _ = a_letter
kind_of false true _ _ _ = a_digit
kind_of false false true _ _ = a_space
kind_of false false false true _ = a_quote
kind_of false false false false true = a_comment
kind_of false false false false false = a_mark

abbrev pub kind : ℕ → ℕ → Kind
kind b c = kind_of (is_ascii_alphabetic b) (is_ascii_digit b) (is_white b) (b == 39) ((b == 47) && (c == 42))

-- The kind of the item that may begin at a place of a text.
abbrev pub kind_at : List ℕ → ℕ → Kind
kind_at text at = kind (get_or text at 0) (get_or text (at + 1) 0)

digit_no_letter : (b : ℕ) → is_ascii_digit b ≡ true → is_ascii_alphabetic b ≡ false
digit_no_letter b h = grind (arith, common_steps)

white_no_letter : (b : ℕ) → is_white b ≡ true → is_ascii_alphabetic b ≡ false
white_no_letter b h = grind (arith, common_steps)

white_no_digit : (b : ℕ) → is_white b ≡ true → is_ascii_digit b ≡ false
white_no_digit b h = grind (arith, common_steps)

kind_from : (p q r s t p' q' r' s' t' : Bool) → p ≡ p' → q ≡ q' → r ≡ r' → s ≡ s' → t ≡ t' → kind_of p q r s t ≡ kind_of p' q' r' s' t'
kind_from p q r s t p' q' r' s' t' a b c d e = cc

pub kind-letter : (b c : ℕ) → is_ascii_alphabetic b ≡ true → kind b c ≡ a_letter
kind-letter b c h = kind_from _ _ _ _ _ true (is_ascii_digit b) (is_white b) (b == 39) ((b == 47) && (c == 42)) h refl refl refl refl

pub kind-digit : (b c : ℕ) → is_ascii_digit b ≡ true → kind b c ≡ a_digit
kind-digit b c h = kind_from _ _ _ _ _ false true (is_white b) (b == 39) ((b == 47) && (c == 42)) (digit_no_letter b h) h refl refl refl

pub kind-white : (b c : ℕ) → is_white b ≡ true → kind b c ≡ a_space
kind-white b c h = kind_from _ _ _ _ _ false false true (b == 39) ((b == 47) && (c == 42)) (white_no_letter b h) (white_no_digit b h) h refl refl

pub kind-quote : (b c : ℕ) → b ≡ 39 → kind b c ≡ a_quote
kind-quote b c e = rw e refl

pub kind-comment : (b c : ℕ) → b ≡ 47 → c ≡ 42 → kind b c ≡ a_comment
kind-comment b c e f = rw (e, f) refl

pub kind-bad : (b c : ℕ) → IsBad b → kind b c ≡ a_mark
kind-bad b c bad =
    let no_slash : b ≡ 47 → ⊥ = λ (e : b ≡ 47). bad.no_symbol Slash (ap (λ (n : ℕ). n ∷ []) (sym e)) in
    let no_comment : ((b == 47) && (c == 42)) ≡ false = and_left (b == 47) (c == 42) (ne_eqb b 47 no_slash) in
    kind_from _ _ _ _ _ false false false false false bad.no_letter bad.no_digit bad.no_white bad.no_quote no_comment

pub get_or-past : (text : List ℕ) (at : ℕ) → length text ≤ at → get_or text at 0 ≡ 0
get_or-past [] at h = refl
get_or-past (b ∷ bs) zero h = absurd (omega arith)
get_or-past (b ∷ bs) (suc at) h = get_or-past bs at (omega arith)

pub kind-end : (text : List ℕ) (at : ℕ) → length text ≤ at → kind_at text at ≡ a_mark
kind-end text at h = let none : get_or text at 0 ≡ 0 = get_or-past text at h in rw none refl

-- The two bytes begin with this symbol, and no longer symbol begins with them.
pub record SymbolHere (s : Symbol) (b c : ℕ) : Type 0 where
  pub first : b ≡ get_or (symbol_text s) 0 0
  pub second : length (symbol_text s) ≡ 2 → c ≡ get_or (symbol_text s) 1 0
  pub longest : length (symbol_text s) ≡ 1 → continues_symbol s c ≡ false

pub kind-symbol : (s : Symbol) (b c : ℕ) → SymbolHere s b c → kind b c ≡ a_mark
kind-symbol Semicolon b c here = rw here.first refl
kind-symbol Comma b c here = rw here.first refl
kind-symbol Colon b c here = rw here.first refl
kind-symbol Assign b c here = rw here.first refl
kind-symbol Open b c here = rw here.first refl
kind-symbol Close b c here = rw here.first refl
kind-symbol Plus b c here = rw here.first refl
kind-symbol Minus b c here = rw here.first refl
kind-symbol Star b c here = rw here.first refl
kind-symbol Slash b c here =
    let no_star : (c == 42) ≡ false = (or_parts (c == 61) (c == 42) (here.longest refl)).1 in rw (here.first, no_star) refl
kind-symbol Equal b c here = rw here.first refl
kind-symbol NotEqual b c here = rw (here.first, here.second refl) refl
kind-symbol Less b c here = rw here.first refl
kind-symbol LessEqual b c here = rw here.first refl
kind-symbol Greater b c here = rw here.first refl
kind-symbol GreaterEqual b c here = rw here.first refl

-- The longest symbol that two bytes begin with, if there is one.
abbrev pub symbol_at : ℕ → ℕ → Option Symbol
symbol_at b c =
    cond (b == 59) (Some Semicolon)
    (cond (b == 44) (Some Comma)
    (cond (b == 58) (cond (c == 61) (Some Assign) (Some Colon))
    (cond (b == 40) (Some Open)
    (cond (b == 41) (Some Close)
    (cond (b == 43) (Some Plus)
    (cond (b == 45) (Some Minus)
    (cond (b == 42) (Some Star)
    (cond (b == 47) (cond (c == 61) (Some NotEqual) (Some Slash))
    (cond (b == 61) (Some Equal)
    (cond (b == 60) (cond (c == 61) (Some LessEqual) (Some Less))
    (cond (b == 62) (cond (c == 61) (Some GreaterEqual) (Some Greater))
    None)))))))))))

pub symbol_at-here : (s : Symbol) (b c : ℕ) → SymbolHere s b c → symbol_at b c ≡ Some s
symbol_at-here Semicolon b c here = rw here.first refl
symbol_at-here Comma b c here = rw here.first refl
symbol_at-here Colon b c here =
    let no_equal : (c == 61) ≡ false = here.longest refl in rw (here.first, no_equal) refl
symbol_at-here Assign b c here = rw (here.first, here.second refl) refl
symbol_at-here Open b c here = rw here.first refl
symbol_at-here Close b c here = rw here.first refl
symbol_at-here Plus b c here = rw here.first refl
symbol_at-here Minus b c here = rw here.first refl
symbol_at-here Star b c here = rw here.first refl
symbol_at-here Slash b c here =
    let no_equal : (c == 61) ≡ false = (or_parts (c == 61) (c == 42) (here.longest refl)).0 in rw (here.first, no_equal) refl
symbol_at-here Equal b c here = rw here.first refl
symbol_at-here NotEqual b c here = rw (here.first, here.second refl) refl
symbol_at-here Less b c here =
    let no_equal : (c == 61) ≡ false = here.longest refl in rw (here.first, no_equal) refl
symbol_at-here LessEqual b c here = rw (here.first, here.second refl) refl
symbol_at-here Greater b c here =
    let no_equal : (c == 61) ≡ false = here.longest refl in rw (here.first, no_equal) refl
symbol_at-here GreaterEqual b c here = rw (here.first, here.second refl) refl

pub one_symbol : (s r : Symbol) (b c : ℕ) → SymbolHere s b c → SymbolHere r b c → s ≡ r
one_symbol s r b c here there =
    let some : Some s ≡ Some r = sym (symbol_at-here s b c here) ∙ symbol_at-here r b c there in
    cc

-- A symbol has one byte or two.
pub symbol_sizes : (s : Symbol) → (length (symbol_text s) ≡ 1) ⊎ (length (symbol_text s) ≡ 2)
symbol_sizes Semicolon = inl refl
symbol_sizes Comma = inl refl
symbol_sizes Colon = inl refl
symbol_sizes Assign = inr refl
symbol_sizes Open = inl refl
symbol_sizes Close = inl refl
symbol_sizes Plus = inl refl
symbol_sizes Minus = inl refl
symbol_sizes Star = inl refl
symbol_sizes Slash = inl refl
symbol_sizes Equal = inl refl
symbol_sizes NotEqual = inr refl
symbol_sizes Less = inl refl
symbol_sizes LessEqual = inr refl
symbol_sizes Greater = inl refl
symbol_sizes GreaterEqual = inr refl

-- The first byte of a symbol is a symbol by itself.
pub symbol_begins : (s : Symbol) → (r : Symbol) × (symbol_text r ≡ get_or (symbol_text s) 0 0 ∷ [])
symbol_begins Semicolon = (Semicolon, refl)
symbol_begins Comma = (Comma, refl)
symbol_begins Colon = (Colon, refl)
symbol_begins Assign = (Colon, refl)
symbol_begins Open = (Open, refl)
symbol_begins Close = (Close, refl)
symbol_begins Plus = (Plus, refl)
symbol_begins Minus = (Minus, refl)
symbol_begins Star = (Star, refl)
symbol_begins Slash = (Slash, refl)
symbol_begins Equal = (Equal, refl)
symbol_begins NotEqual = (Slash, refl)
symbol_begins Less = (Less, refl)
symbol_begins LessEqual = (Less, refl)
symbol_begins Greater = (Greater, refl)
symbol_begins GreaterEqual = (Greater, refl)

-- The first byte of a symbol isn't 0.
pub symbol_nonzero : (s : Symbol) → 0 < get_or (symbol_text s) 0 0
symbol_nonzero Semicolon = omega arith
symbol_nonzero Comma = omega arith
symbol_nonzero Colon = omega arith
symbol_nonzero Assign = omega arith
symbol_nonzero Open = omega arith
symbol_nonzero Close = omega arith
symbol_nonzero Plus = omega arith
symbol_nonzero Minus = omega arith
symbol_nonzero Star = omega arith
symbol_nonzero Slash = omega arith
symbol_nonzero Equal = omega arith
symbol_nonzero NotEqual = omega arith
symbol_nonzero Less = omega arith
symbol_nonzero LessEqual = omega arith
symbol_nonzero Greater = omega arith
symbol_nonzero GreaterEqual = omega arith

-- The two bytes at the place of a symbol token begin with that symbol, and its end is fixed.
pub here_from : (text : List ℕ) (start end : ℕ) (s : Symbol) → start ≤ end → end ≤ length text
    → slice_range text start end ≡ symbol_text s → continues_symbol s (get_or text end 0) ≡ false
    → SymbolHere s (get_or text start 0) (get_or text (start + 1) 0) × (end ≡ start + length (symbol_text s))
here_from text start end s ordered inside spelled longest =
    let size : end - start ≡ length (symbol_text s) = sym (slice_length text start end inside) ∙ ap (λ (xs : List ℕ). length xs) spelled in
    let some : 0 < length (symbol_text s) = elim (symbol_sizes s) [ inl one ↦ omega arith | inr two ↦ omega arith ] in
    let same : end ≡ start + length (symbol_text s) = omega arith in (
      record {
        first = sym (symbol_byte text start end s start 0 spelled (omega arith) (omega arith) (omega arith));
        second = λ two. sym (symbol_byte text start end s (start + 1) 1 spelled (omega arith) (omega arith) (omega arith));
        longest = λ one. let next : end ≡ start + 1 = omega arith in rw next at longest;
      },
      same,
    )
  where
    symbol_byte : (text : List ℕ) (start end : ℕ) (s : Symbol) (k i : ℕ) → slice_range text start end ≡ symbol_text s
        → start ≤ k → k < end → k - start ≡ i → get_or (symbol_text s) i 0 ≡ get_or text k 0
    symbol_byte text start end s k i spelled from to place =
        let byte : get_or (slice_range text start end) (k - start) 0 ≡ get_or text k 0 = slice_byte text start end k from to in
        ap (λ (xs : List ℕ). get_or xs i 0) (sym spelled) ∙ (ap (λ (j : ℕ). get_or (slice_range text start end) j 0) (sym place) ∙ byte)
