-- A token at a place of a text has one reading.
use Rattle.std.proofs.Common.{◌≡◌, ℕ, ◌+◌, ◌≤◌, false, List, length, refl, ap, sym, subst, ◌∙◌, get_or, arith}
use Rattle.std.specs.Prelude.{slice_range, nat_le}
use Rattle.std.proofs.lemmas.Bool.{and_parts, leb-true}
use Rattle.sdl_lex.specs.Limits.{GREATEST_NUMBER}
use Rattle.sdl_lex.specs.declared.lexemes.Word.{Word}
use Rattle.sdl_lex.specs.declared.lexemes.Symbol.{Symbol}
use Rattle.sdl_lex.specs.declared.lexemes.Lexeme.{Lexeme}
use Rattle.sdl_lex.specs.declared.lexemes.Lexeme.TheVariants.{Name as a_name, Number as a_number, Word as a_word, Symbol as a_symbol, Quoted as a_quoted}
use Rattle.sdl_lex.specs.declared.lexemes.Token.{Token}
use Rattle.sdl_lex.specs.Spelling.{SameName, is_spelled_as_name}
use Rattle.sdl_lex.specs.Texts.{word_text, symbol_text}
use Rattle.sdl_lex.specs.Lexed.{decimal, bare, IsToken}
use Rattle.sdl_lex.proofs.WordLemmas.{one_word}
use Rattle.sdl_lex.proofs.KindLemmas.{Kind, a_letter, a_digit, a_quote, a_mark, kind_at, kind-letter, kind-digit, kind-quote, kind-symbol, SymbolHere, one_symbol, here_from}
use Rattle.sdl_lex.proofs.QuoteLemmas.{quoted_here, quoted_end}
use Rattle.sdl_lex.proofs.UniqueLemmas.{Wordlike, Numberlike, word_name, wordlike_from, wordlike_end, numberlike_from, numberlike_end}

-- Tokens.

-- A text has a token of this lexeme from the start to the end.
abbrev pub TokenOf : List ℕ → ℕ → Lexeme → ℕ → Type 0
TokenOf text start lexeme end = IsToken text (bare lexeme start end)

pub token_of : (text : List ℕ) (t : Token) → IsToken text t → TokenOf text t.start t.lexeme t.end
token_of text t token = record { ordered = token.ordered; inside = token.inside; spelled = token.spelled; longest = token.longest }

pub name_like : (text : List ℕ) (start end : ℕ) (n : List ℕ) → TokenOf text start (a_name n) end → Wordlike text start end
name_like text start end n token =
    let parts = and_parts (is_spelled_as_name (slice_range text start end)) (nat_le (length (slice_range text start end)) 32) token.spelled.1 in
    wordlike_from text start end token.ordered token.inside parts.0 (leb-true _ _ parts.1) token.longest

pub word_like : (text : List ℕ) (start end : ℕ) (w : Word) → TokenOf text start (a_word w) end → Wordlike text start end
word_like text start end w token =
    let parts = word_name (slice_range text start end) w token.spelled in
    wordlike_from text start end token.ordered token.inside parts.0 parts.1 token.longest

pub number_like : (text : List ℕ) (start end n : ℕ) → TokenOf text start (a_number n) end → Numberlike text start end
number_like text start end n token =
    let small : decimal (slice_range text start end) ≤ GREATEST_NUMBER = rw (← token.spelled.1) token.spelled.2 in
    numberlike_from text start end token.ordered token.inside token.spelled.0 small token.longest

pub symbol_here : (text : List ℕ) (start end : ℕ) (s : Symbol) → TokenOf text start (a_symbol s) end
    → SymbolHere s (get_or text start 0) (get_or text (start + 1) 0) × (end ≡ start + length (symbol_text s))
symbol_here text start end s token = here_from text start end s token.ordered token.inside token.spelled token.longest

abbrev pub lexeme_kind : Lexeme → Kind
lexeme_kind (a_name n) = a_letter
lexeme_kind (a_number n) = a_digit
lexeme_kind (a_word w) = a_letter
lexeme_kind (a_symbol s) = a_mark
lexeme_kind a_quoted = a_quote

pub token_kind : (text : List ℕ) (start end : ℕ) (l : Lexeme) → TokenOf text start l end → kind_at text start ≡ lexeme_kind l
token_kind text start end (a_name n) token = kind-letter (get_or text start 0) (get_or text (start + 1) 0) (name_like text start end n token).first
token_kind text start end (a_word w) token = kind-letter (get_or text start 0) (get_or text (start + 1) 0) (word_like text start end w token).first
token_kind text start end (a_number n) token =
    let number = number_like text start end n token in
    kind-digit (get_or text start 0) (get_or text (start + 1) 0) (number.each start (omega arith) number.ordered)
token_kind text start end (a_symbol s) token = kind-symbol s (get_or text start 0) (get_or text (start + 1) 0) (symbol_here text start end s token).0
token_kind text start end a_quoted token =
    kind-quote (get_or text start 0) (get_or text (start + 1) 0) (quoted_here text start end token).opens

-- Two tokens that begin at one place are equal.
one_lexeme : (text : List ℕ) (start e f : ℕ) (l m : Lexeme) → TokenOf text start l e → TokenOf text start m f → (l ≡ m) × (e ≡ f)
one_lexeme text start e f (a_name n) (a_name m) one other =
    let same : e ≡ f = wordlike_end text start e f (name_like text start e n one) (name_like text start f m other) in
    let slices : slice_range text start e ≡ slice_range text start f = ap (λ (i : ℕ). slice_range text start i) same in
    (ap (λ (bytes : List ℕ). a_name bytes) (one.spelled.0 ∙ (slices ∙ sym other.spelled.0)), same)
one_lexeme text start e f (a_name n) (a_word w) one other =
    let same : e ≡ f = wordlike_end text start e f (name_like text start e n one) (word_like text start f w other) in
    let spelled : SameName (slice_range text start e) (word_text w) = rw same other.spelled in
    absurd (one.spelled.2 w spelled)
one_lexeme text start e f (a_word w) (a_name m) one other =
    let same : e ≡ f = wordlike_end text start e f (word_like text start e w one) (name_like text start f m other) in
    let spelled : SameName (slice_range text start f) (word_text w) = rw (← same) one.spelled in
    absurd (other.spelled.2 w spelled)
one_lexeme text start e f (a_word w) (a_word v) one other =
    let same : e ≡ f = wordlike_end text start e f (word_like text start e w one) (word_like text start f v other) in
    let spelled : SameName (slice_range text start e) (word_text v) = rw same other.spelled in
    (ap (λ (u : Word). a_word u) (one_word (slice_range text start e) w v one.spelled spelled), same)
one_lexeme text start e f (a_number n) (a_number m) one other =
    let same : e ≡ f = numberlike_end text start e f (number_like text start e n one) (number_like text start f m other) in
    let slices : decimal (slice_range text start e) ≡ decimal (slice_range text start f) = ap (λ (i : ℕ). decimal (slice_range text start i)) same in
    (ap (λ (k : ℕ). a_number k) (one.spelled.1 ∙ (slices ∙ sym other.spelled.1)), same)
one_lexeme text start e f (a_symbol s) (a_symbol r) one other =
    let here = symbol_here text start e s one in
    let there = symbol_here text start f r other in
    let same : s ≡ r = one_symbol s r _ _ here.0 there.0 in
    let sizes : start + length (symbol_text s) ≡ start + length (symbol_text r) = ap (λ (t : Symbol). start + length (symbol_text t)) same in
    (ap (λ (t : Symbol). a_symbol t) same, here.1 ∙ (sizes ∙ sym there.1))
one_lexeme text start e f (a_name n) (a_number m) one other =
    let a = token_kind text start e (a_name n) one in let b = token_kind text start f (a_number m) other in absurd (cc)
one_lexeme text start e f (a_name n) (a_symbol m) one other =
    let a = token_kind text start e (a_name n) one in let b = token_kind text start f (a_symbol m) other in absurd (cc)
one_lexeme text start e f (a_word n) (a_number m) one other =
    let a = token_kind text start e (a_word n) one in let b = token_kind text start f (a_number m) other in absurd (cc)
one_lexeme text start e f (a_word n) (a_symbol m) one other =
    let a = token_kind text start e (a_word n) one in let b = token_kind text start f (a_symbol m) other in absurd (cc)
one_lexeme text start e f (a_number n) (a_name m) one other =
    let a = token_kind text start e (a_number n) one in let b = token_kind text start f (a_name m) other in absurd (cc)
one_lexeme text start e f (a_number n) (a_word m) one other =
    let a = token_kind text start e (a_number n) one in let b = token_kind text start f (a_word m) other in absurd (cc)
one_lexeme text start e f (a_number n) (a_symbol m) one other =
    let a = token_kind text start e (a_number n) one in let b = token_kind text start f (a_symbol m) other in absurd (cc)
one_lexeme text start e f (a_symbol n) (a_name m) one other =
    let a = token_kind text start e (a_symbol n) one in let b = token_kind text start f (a_name m) other in absurd (cc)
one_lexeme text start e f (a_symbol n) (a_word m) one other =
    let a = token_kind text start e (a_symbol n) one in let b = token_kind text start f (a_word m) other in absurd (cc)
one_lexeme text start e f (a_symbol n) (a_number m) one other =
    let a = token_kind text start e (a_symbol n) one in let b = token_kind text start f (a_number m) other in absurd (cc)
one_lexeme text start e f a_quoted a_quoted one other =
    (refl, quoted_end text start e f (quoted_here text start e one) (quoted_here text start f other))
one_lexeme text start e f (a_name n) a_quoted one other =
    let a = token_kind text start e (a_name n) one in let b = token_kind text start f a_quoted other in absurd (cc)
one_lexeme text start e f (a_number n) a_quoted one other =
    let a = token_kind text start e (a_number n) one in let b = token_kind text start f a_quoted other in absurd (cc)
one_lexeme text start e f (a_word n) a_quoted one other =
    let a = token_kind text start e (a_word n) one in let b = token_kind text start f a_quoted other in absurd (cc)
one_lexeme text start e f (a_symbol n) a_quoted one other =
    let a = token_kind text start e (a_symbol n) one in let b = token_kind text start f a_quoted other in absurd (cc)
one_lexeme text start e f a_quoted (a_name m) one other =
    let a = token_kind text start e a_quoted one in let b = token_kind text start f (a_name m) other in absurd (cc)
one_lexeme text start e f a_quoted (a_number m) one other =
    let a = token_kind text start e a_quoted one in let b = token_kind text start f (a_number m) other in absurd (cc)
one_lexeme text start e f a_quoted (a_word m) one other =
    let a = token_kind text start e a_quoted one in let b = token_kind text start f (a_word m) other in absurd (cc)
one_lexeme text start e f a_quoted (a_symbol m) one other =
    let a = token_kind text start e a_quoted one in let b = token_kind text start f (a_symbol m) other in absurd (cc)

same_token : (t u : Token) → t.lexeme ≡ u.lexeme → t.start ≡ u.start → t.end ≡ u.end → t.with_synonyms ≡ u.with_synonyms → t ≡ u
same_token t u l s e w i = record { lexeme = l i; start = s i; end = e i; with_synonyms = w i }

pub one_token : (text : List ℕ) (at : ℕ) (t u : Token) → t.start ≡ at → u.start ≡ at → t.with_synonyms ≡ false → u.with_synonyms ≡ false
    → IsToken text t → IsToken text u → t ≡ u
one_token text at t u here there plain too one other =
    let starts : t.start ≡ u.start = here ∙ sym there in
    let moved : TokenOf text t.start u.lexeme u.end =
    let P : ℕ → Type 0 = λ n. TokenOf text n u.lexeme u.end in subst P (sym starts) (token_of text u other) in
    let same = one_lexeme text t.start t.end u.end t.lexeme u.lexeme (token_of text t one) moved in
    same_token t u same.0 starts same.1 (plain ∙ sym too)
