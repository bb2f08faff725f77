-- A text has one answer at most.
use Rattle.std.proofs.Common.{Vec, ◌≡◌, ℕ, ◌+◌, ◌≤◌, ◌⊎◌, inl, inr, List, [], ◌∷◌, length, refl, ap, sym, subst, ◌∙◌, get_or, arith, Result, Ok, Err, IfOk, IfErr}
use Rattle.std.proofs.lemmas.Bool.{cases_order}
use Rattle.sdl_lex.specs.Limits.{LONGEST_TEXT}
use Rattle.sdl_lex.specs.declared.lexemes.Symbol.{Symbol}
use Rattle.sdl_lex.specs.declared.lexemes.Lexeme.{Lexeme}
use Rattle.sdl_lex.specs.declared.lexemes.Lexeme.TheVariants.{Name as a_name, Number as a_number, Word as a_word, Symbol as a_symbol, Quoted as a_quoted}
use Rattle.sdl_lex.specs.declared.lexemes.Token.{Token}
use Rattle.sdl_lex.specs.declared.lexemes.LexFault.{LexFault}
use Rattle.sdl_lex.specs.declared.lexemes.LexFault.TheVariants.{BadCharacter, OpenComment, TooLong, NoMemory}
use Rattle.sdl_lex.specs.Lexed.{IsComment, IsOpenComment, IsOpenQuoted, IsToken, IsBlank, white, comment, Lexes, ended, skipped, taken, Lexed, IsBad, IsLongName, IsLargeNumber, IsFaultAt, place_of, all_marked, Gives, Answers, over_long, in_room, IsFirstFault, IsAnswer, Agrees}
use Rattle.sdl_lex.proofs.KindLemmas.{Kind, a_letter, a_digit, a_space, a_quote, a_comment, a_mark, kind_at, kind-letter, kind-digit, kind-white, kind-quote, kind-comment, kind-bad, kind-end, kind-symbol, get_or-past, SymbolHere, symbol_begins, symbol_nonzero}
use Rattle.sdl_lex.proofs.UniqueLemmas.{Wordlike, Numberlike, slice_letter, slice_digit, long_no_word, large_no_number}
use Rattle.sdl_lex.proofs.TokenLemmas.{TokenOf, name_like, word_like, number_like, symbol_here, lexeme_kind, token_of, token_kind, one_token}

-- White space and comments.

one_comment : (text : List ℕ) (at n m : ℕ) → IsComment text at n → IsComment text at m → n ≡ m
one_comment text at n m one other =
    elim (cases_order one.last other.last) [
      | inl same ↦ omega (arith, one.ends, other.ends)
      | inr (inl less) ↦ absurd (other.first one.last one.after less one.closes)
      | inr (inr more) ↦ absurd (one.first other.last other.after more other.closes)
    ]

abbrev IsBlankKind : Kind → Type 0
IsBlankKind k = (k ≡ a_space) ⊎ (k ≡ a_comment)

blank_kind : (text : List ℕ) (at next : ℕ) → IsBlank text at next → IsBlankKind (kind_at text at)
blank_kind text at _ (white w) = inl (kind-white (get_or text at 0) (get_or text (at + 1) 0) w)
blank_kind text at next (comment c) = inr (kind-comment (get_or text at 0) (get_or text (at + 1) 0) c.opens.0 c.opens.1)

one_blank : (text : List ℕ) (at n m : ℕ) → IsBlank text at n → IsBlank text at m → n ≡ m
one_blank text at n m (white w) (white v) = refl
one_blank text at n m (comment c) (comment d) = one_comment text at n m c d
one_blank text at n m (white w) (comment d) =
    let a = kind-white (get_or text at 0) (get_or text (at + 1) 0) w in
    let b = kind-comment (get_or text at 0) (get_or text (at + 1) 0) d.opens.0 d.opens.1 in absurd (cc)
one_blank text at n m (comment c) (white v) =
    let a = kind-white (get_or text at 0) (get_or text (at + 1) 0) v in
    let b = kind-comment (get_or text at 0) (get_or text (at + 1) 0) c.opens.0 c.opens.1 in absurd (cc)

blank_no_lexeme : (k : Kind) (l : Lexeme) → IsBlankKind k → k ≡ lexeme_kind l → ⊥
blank_no_lexeme k (a_name n) blank e = elim blank [ inl f ↦ absurd (cc) | inr f ↦ absurd (cc) ]
blank_no_lexeme k (a_number n) blank e = elim blank [ inl f ↦ absurd (cc) | inr f ↦ absurd (cc) ]
blank_no_lexeme k (a_word w) blank e = elim blank [ inl f ↦ absurd (cc) | inr f ↦ absurd (cc) ]
blank_no_lexeme k (a_symbol s) blank e = elim blank [ inl f ↦ absurd (cc) | inr f ↦ absurd (cc) ]
blank_no_lexeme k a_quoted blank e = elim blank [ inl f ↦ absurd (cc) | inr f ↦ absurd (cc) ]

blank_no_token : (text : List ℕ) (at next : ℕ) (t : Token) → IsBlank text at next → t.start ≡ at → IsToken text t → ⊥
blank_no_token text at next t blank here token =
    let a : kind_at text at ≡ lexeme_kind t.lexeme = rw (← here) (token_kind text t.start t.end t.lexeme (token_of text t token)) in
    blank_no_lexeme (kind_at text at) t.lexeme (blank_kind text at next blank) a

-- Places at which no further item can be read.

pub data Stuck (text : List ℕ) (at : ℕ) : Type 0 where
  at_end : length text ≤ at → Stuck text at
  at_bad : IsBad (get_or text at 0) → Stuck text at
  at_open : IsOpenComment text at → Stuck text at
  at_quote : IsOpenQuoted text at → Stuck text at
  at_long : IsLongName text at → Stuck text at
  at_large : IsLargeNumber text at → Stuck text at

long_kind : (text : List ℕ) (at : ℕ) → IsLongName text at → kind_at text at ≡ a_letter
long_kind text at long = kind-letter (get_or text at 0) (get_or text (at + 1) 0) (slice_letter text at long.0 long.1)

large_kind : (text : List ℕ) (at : ℕ) → IsLargeNumber text at → kind_at text at ≡ a_digit
large_kind text at large =
    let back : at + 0 ≡ at = omega arith in
    let first = slice_digit text at large.0 0 large.1 large.1.0 in
    kind-digit (get_or text at 0) (get_or text (at + 1) 0) (rw back at first)

open_kind : (text : List ℕ) (at : ℕ) → IsOpenComment text at → kind_at text at ≡ a_comment
open_kind text at open_here = kind-comment (get_or text at 0) (get_or text (at + 1) 0) open_here.opens.0 open_here.opens.1

quote_kind : (text : List ℕ) (at : ℕ) → IsOpenQuoted text at → kind_at text at ≡ a_quote
quote_kind text at open_here = kind-quote (get_or text at 0) (get_or text (at + 1) 0) open_here.opens

stuck_kind : (text : List ℕ) (at : ℕ) → Stuck text at → kind_at text at ≡ a_space → ⊥
stuck_kind text at (at_end h) e = let k = kind-end text at h in absurd (cc)
stuck_kind text at (at_bad h) e = let k = kind-bad (get_or text at 0) (get_or text (at + 1) 0) h in absurd (cc)
stuck_kind text at (at_open h) e = let k = open_kind text at h in absurd (cc)
stuck_kind text at (at_quote h) e = let k = quote_kind text at h in absurd (cc)
stuck_kind text at (at_long h) e = let k = long_kind text at h in absurd (cc)
stuck_kind text at (at_large h) e = let k = large_kind text at h in absurd (cc)

stuck_comment : (text : List ℕ) (at next : ℕ) → Stuck text at → IsComment text at next → ⊥
stuck_comment text at next (at_end h) c =
    let e = kind-comment (get_or text at 0) (get_or text (at + 1) 0) c.opens.0 c.opens.1 in let k = kind-end text at h in absurd (cc)
stuck_comment text at next (at_bad h) c =
    let e = kind-comment (get_or text at 0) (get_or text (at + 1) 0) c.opens.0 c.opens.1 in
    let k = kind-bad (get_or text at 0) (get_or text (at + 1) 0) h in absurd (cc)
stuck_comment text at next (at_open h) c = h.endless c.last c.after c.closes
stuck_comment text at next (at_quote h) c = omega (arith, c.opens.0, h.opens)
stuck_comment text at next (at_long h) c =
    let e = kind-comment (get_or text at 0) (get_or text (at + 1) 0) c.opens.0 c.opens.1 in let k = long_kind text at h in absurd (cc)
stuck_comment text at next (at_large h) c =
    let e = kind-comment (get_or text at 0) (get_or text (at + 1) 0) c.opens.0 c.opens.1 in let k = large_kind text at h in absurd (cc)

stuck_blank : (text : List ℕ) (at next : ℕ) → Stuck text at → IsBlank text at next → ⊥
stuck_blank text at next stuck (white w) = stuck_kind text at stuck (kind-white (get_or text at 0) (get_or text (at + 1) 0) w)
stuck_blank text at next stuck (comment c) = stuck_comment text at next stuck c

stuck_word : (text : List ℕ) (at end : ℕ) → Stuck text at → Wordlike text at end → ⊥
stuck_word text at end (at_end h) word = omega (arith, word.ordered, word.inside)
stuck_word text at end (at_bad h) word =
    let e = kind-letter (get_or text at 0) (get_or text (at + 1) 0) word.first in
    let k = kind-bad (get_or text at 0) (get_or text (at + 1) 0) h in absurd (cc)
stuck_word text at end (at_open h) word =
    let e = kind-letter (get_or text at 0) (get_or text (at + 1) 0) word.first in let k = open_kind text at h in absurd (cc)
stuck_word text at end (at_quote h) word =
    let e = kind-letter (get_or text at 0) (get_or text (at + 1) 0) word.first in let k = quote_kind text at h in absurd (cc)
stuck_word text at end (at_long h) word = long_no_word text at end h word
stuck_word text at end (at_large h) word =
    let e = kind-letter (get_or text at 0) (get_or text (at + 1) 0) word.first in let k = large_kind text at h in absurd (cc)

number_kind : (text : List ℕ) (at end : ℕ) → Numberlike text at end → kind_at text at ≡ a_digit
number_kind text at end number = kind-digit (get_or text at 0) (get_or text (at + 1) 0) (number.each at (omega arith) number.ordered)

stuck_number : (text : List ℕ) (at end : ℕ) → Stuck text at → Numberlike text at end → ⊥
stuck_number text at end (at_end h) number = omega (arith, number.ordered, number.inside)
stuck_number text at end (at_bad h) number =
    let e = number_kind text at end number in
    let k = kind-bad (get_or text at 0) (get_or text (at + 1) 0) h in absurd (cc)
stuck_number text at end (at_open h) number =
    let e = number_kind text at end number in let k = open_kind text at h in absurd (cc)
stuck_number text at end (at_quote h) number =
    let e = number_kind text at end number in let k = quote_kind text at h in absurd (cc)
stuck_number text at end (at_long h) number =
    let e = number_kind text at end number in let k = long_kind text at h in absurd (cc)
stuck_number text at end (at_large h) number = large_no_number text at end h number

stuck_symbol : (text : List ℕ) (at : ℕ) (s : Symbol) → Stuck text at → SymbolHere s (get_or text at 0) (get_or text (at + 1) 0) → ⊥
stuck_symbol text at s (at_end h) here = omega (arith, get_or-past text at h, symbol_nonzero s, here.first)
stuck_symbol text at s (at_bad h) here =
    let begins = symbol_begins s in
    h.no_symbol begins.0 (begins.1 ∙ ap (λ (b : ℕ). b ∷ []) (sym here.first))
stuck_symbol text at s (at_open h) here =
    let e = kind-symbol s (get_or text at 0) (get_or text (at + 1) 0) here in let k = open_kind text at h in absurd (cc)
stuck_symbol text at s (at_quote h) here =
    let e = kind-symbol s (get_or text at 0) (get_or text (at + 1) 0) here in let k = quote_kind text at h in absurd (cc)
stuck_symbol text at s (at_long h) here =
    let e = kind-symbol s (get_or text at 0) (get_or text (at + 1) 0) here in let k = long_kind text at h in absurd (cc)
stuck_symbol text at s (at_large h) here =
    let e = kind-symbol s (get_or text at 0) (get_or text (at + 1) 0) here in let k = large_kind text at h in absurd (cc)

stuck_quoted : (text : List ℕ) (at end : ℕ) → Stuck text at → TokenOf text at a_quoted end → ⊥
stuck_quoted text at end (at_end h) token = let e = token_kind text at end a_quoted token in let k = kind-end text at h in absurd (cc)
stuck_quoted text at end (at_bad h) token =
    let e = token_kind text at end a_quoted token in
    let k = kind-bad (get_or text at 0) (get_or text (at + 1) 0) h in absurd (cc)
stuck_quoted text at end (at_open h) token = let e = token_kind text at end a_quoted token in let k = open_kind text at h in absurd (cc)
stuck_quoted text at end (at_quote h) token = h.endless end token
stuck_quoted text at end (at_long h) token = let e = token_kind text at end a_quoted token in let k = long_kind text at h in absurd (cc)
stuck_quoted text at end (at_large h) token = let e = token_kind text at end a_quoted token in let k = large_kind text at h in absurd (cc)

stuck_lexeme : (text : List ℕ) (at end : ℕ) (l : Lexeme) → Stuck text at → TokenOf text at l end → ⊥
stuck_lexeme text at end (a_name n) stuck token = stuck_word text at end stuck (name_like text at end n token)
stuck_lexeme text at end (a_word w) stuck token = stuck_word text at end stuck (word_like text at end w token)
stuck_lexeme text at end (a_number n) stuck token = stuck_number text at end stuck (number_like text at end n token)
stuck_lexeme text at end a_quoted stuck token = stuck_quoted text at end stuck token
stuck_lexeme text at end (a_symbol s) stuck token = stuck_symbol text at s stuck (symbol_here text at end s token).0

stuck_token : (text : List ℕ) (at : ℕ) (t : Token) → Stuck text at → t.start ≡ at → IsToken text t → ⊥
stuck_token text at t stuck here token =
    let there : Stuck text t.start = let P : ℕ → Type 0 = λ n. Stuck text n in subst P (sym here) stuck in
    stuck_lexeme text t.start t.end t.lexeme there (token_of text t token)

-- Two chains of items that both end where no further item can be read are equal.
pub one_chain : (text : List ℕ) (p q at : ℕ) (ts us : List Token) → Lexes text p at ts → Lexes text q at us
    → Stuck text p → Stuck text q → (p ≡ q) × (ts ≡ us)
one_chain text p q _ _ _ ended ended sp sq = (refl, refl)
one_chain text p q _ _ us ended (skipped n b rest) sp sq = absurd (stuck_blank text p n sp b)
one_chain text p q _ _ _ ended (taken t s w i rest) sp sq = absurd (stuck_token text p t sp s i)
one_chain text p q _ ts _ (skipped n b rest) ended sp sq = absurd (stuck_blank text q n sq b)
one_chain text p q _ _ _ (taken t s w i rest) ended sp sq = absurd (stuck_token text q t sq s i)
one_chain text p q at ts us (skipped n b rest) (skipped m d more) sp sq =
    let same : m ≡ n = one_blank text at m n d b in
    let moved : Lexes text q n us = let P : ℕ → Type 0 = λ k. Lexes text q k us in subst P same more in
    one_chain text p q n ts us rest moved sp sq
one_chain text p q at ts _ (skipped n b rest) (taken t s w i more) sp sq = absurd (blank_no_token text at n t b s i)
one_chain text p q at _ us (taken t s w i rest) (skipped m d more) sp sq = absurd (blank_no_token text at m t d s i)
one_chain text p q at _ _ (taken {tokens = ts} t s w i rest) (taken {tokens = us} u r x j more) sp sq =
    let same : u ≡ t = one_token text at u t r s x w j i in
    let moved : Lexes text q t.end us = let P : Token → Type 0 = λ v. Lexes text q v.end us in subst P same more in
    let next = one_chain text p q t.end ts us rest moved sp sq in
    let joined : (t ∷ ts) ≡ (u ∷ us) = let e = next.1 in cc in
    (next.0, joined)

-- Answers.

fault_stuck : (text : List ℕ) (fault : LexFault) → IsFaultAt text fault → Stuck text (place_of fault)
fault_stuck text (BadCharacter at) here = at_bad here.1
fault_stuck text (OpenComment at) here = elim here [ inl open_here ↦ at_open open_here | inr quoted ↦ at_quote quoted ]
fault_stuck text (TooLong at) here = elim here [ inl long ↦ at_long long | inr large ↦ at_large large ]
fault_stuck text NoMemory here = absurd here

-- A fault is within the text.
fault_inside : (text : List ℕ) (fault : LexFault) → IsFaultAt text fault → length text ≤ place_of fault → ⊥
fault_inside text (BadCharacter at) here past = omega (arith, here.0)
fault_inside text (OpenComment at) here past =
    let e = kind-end text at past in
    elim here [
      | inl open_here ↦ let k = open_kind text at open_here in absurd (cc)
      | inr quoted ↦ let k = quote_kind text at quoted in absurd (cc)
    ]
fault_inside text (TooLong at) here past =
    let e = kind-end text at past in
    elim here [
      | inl long ↦ let k = long_kind text at long in absurd (cc)
      | inr large ↦ let k = large_kind text at large in absurd (cc)
    ]
fault_inside text NoMemory here past = here

-- The kinds of item that may begin at the place of a fault.
abbrev IsFaultKind : LexFault → Kind → Type 0
IsFaultKind (BadCharacter at) k = k ≡ a_mark
IsFaultKind (OpenComment at) k = (k ≡ a_comment) ⊎ (k ≡ a_quote)
IsFaultKind (TooLong at) k = (k ≡ a_letter) ⊎ (k ≡ a_digit)
IsFaultKind NoMemory k = ⊥

fault_kind : (text : List ℕ) (fault : LexFault) → IsFaultAt text fault → IsFaultKind fault (kind_at text (place_of fault))
fault_kind text (BadCharacter at) here = kind-bad (get_or text at 0) (get_or text (at + 1) 0) here.1
fault_kind text (OpenComment at) here = elim here [ inl open_here ↦ inl (open_kind text at open_here) | inr quoted ↦ inr (quote_kind text at quoted) ]
fault_kind text (TooLong at) here = elim here [ inl long ↦ inl (long_kind text at long) | inr large ↦ inr (large_kind text at large) ]
fault_kind text NoMemory here = here

same_fault : (k : Kind) (f g : LexFault) → IsFaultKind f k → IsFaultKind g k → place_of f ≡ place_of g → f ≡ g
same_fault k (BadCharacter a) (BadCharacter b) m n e = ap (λ (p : ℕ). BadCharacter p) e
same_fault k (OpenComment a) (OpenComment b) m n e = ap (λ (p : ℕ). OpenComment p) e
same_fault k (TooLong a) (TooLong b) m n e = ap (λ (p : ℕ). TooLong p) e
same_fault k (BadCharacter a) (OpenComment b) m n e = elim n [ inl x ↦ absurd (cc) | inr x ↦ absurd (cc) ]
same_fault k (OpenComment a) (BadCharacter b) m n e = elim m [ inl x ↦ absurd (cc) | inr x ↦ absurd (cc) ]
same_fault k (BadCharacter a) (TooLong b) m n e = elim n [ inl x ↦ absurd (cc) | inr x ↦ absurd (cc) ]
same_fault k (OpenComment a) (TooLong b) m n e = elim m [ inl y ↦ elim n [ inl x ↦ absurd (cc) | inr x ↦ absurd (cc) ] | inr y ↦ elim n [ inl x ↦ absurd (cc) | inr x ↦ absurd (cc) ] ]
same_fault k (TooLong a) (BadCharacter b) m n e = elim m [ inl x ↦ absurd (cc) | inr x ↦ absurd (cc) ]
same_fault k (TooLong a) (OpenComment b) m n e = elim m [ inl y ↦ elim n [ inl x ↦ absurd (cc) | inr x ↦ absurd (cc) ] | inr y ↦ elim n [ inl x ↦ absurd (cc) | inr x ↦ absurd (cc) ] ]
same_fault k NoMemory g m n e = absurd m
same_fault k f NoMemory m n e = absurd n

-- A place has one fault at most.
one_fault : (text : List ℕ) (f g : LexFault) → IsFaultAt text f → IsFaultAt text g → place_of f ≡ place_of g → f ≡ g
one_fault text f g here there e =
    let k : IsFaultKind g (kind_at text (place_of f)) = rw e (fault_kind text g there) in
    same_fault (kind_at text (place_of f)) f g (fault_kind text f here) k e

pub one_reading_lem : (text : List ℕ) (ts us : List Token) → Lexed text ts → Lexed text us → ts ≡ us
one_reading_lem text ts us one other =
    let end : Stuck text (length text) = at_end (omega arith) in
    let bare : one.0 ≡ other.0 = (one_chain text (length text) (length text) 0 one.0 other.0 one.1 other.1 end end).1 in
    one.2 ∙ (ap all_marked bare ∙ sym other.2)

one_given : (text : List ℕ) (a b : Result (List Token) LexFault) → Gives text a → Gives text b → a ≡ b
one_given text (Ok ts) (Ok us) one other = ap (λ (vs : List Token). Ok vs) (one_reading_lem text ts us one other)
one_given text (Ok ts) (Err g) one other =
    let end : Stuck text (length text) = at_end (omega arith) in
    let same = one_chain text (length text) (place_of g) 0 one.0 other.1 one.1 other.2 end (fault_stuck text g other.0) in
    absurd (fault_inside text g other.0 (omega (arith, same.0)))
one_given text (Err f) (Ok us) one other =
    let end : Stuck text (length text) = at_end (omega arith) in
    let same = one_chain text (place_of f) (length text) 0 one.1 other.0 one.2 other.1 (fault_stuck text f one.0) end in
    absurd (fault_inside text f one.0 (omega (arith, same.0)))
one_given text (Err f) (Err g) one other =
    let same = one_chain text (place_of f) (place_of g) 0 one.1 other.1 one.2 other.2 (fault_stuck text f one.0) (fault_stuck text g other.0) in
    ap (λ (h : LexFault). Err h) (one_fault text f g one.0 other.0 same.0)

pub one_answer_lem : (text : List ℕ) (a b : Result (List Token) LexFault) → Answers text a → Answers text b → a ≡ b
one_answer_lem text _ _ (over_long h) (over_long k) = refl
one_answer_lem text _ b (over_long h) (in_room room k) = absurd (omega arith)
one_answer_lem text a _ (in_room room h) (over_long k) = absurd (omega arith)
one_answer_lem text a b (in_room room h) (in_room more k) = one_given text a b h k

-- The result of the call is the text's one answer.
pub agreed : {A : Type 0} (text : List ℕ) (result : Result (Vec Token A) LexFault) → IfOk result (λ v. Answers text (Ok v.items))
    → IfErr result (λ e. IsAnswer text e) → (answer : Result (List Token) LexFault) → Answers text answer → Agrees result answer
agreed text (Ok v) found fault answer is = one_answer_lem text answer (Ok v.items) is found
agreed text (Err (BadCharacter at)) found fault answer is = one_answer_lem text answer (Err (BadCharacter at)) is fault
agreed text (Err (OpenComment at)) found fault answer is = one_answer_lem text answer (Err (OpenComment at)) is fault
agreed text (Err (TooLong at)) found fault answer is = one_answer_lem text answer (Err (TooLong at)) is fault
agreed text (Err NoMemory) found fault answer is = tt

-- The result for a text within the length limit is an answer.
pub found_in_room : {A : Type 0} (text : List ℕ) (result : Result (Vec Token A) LexFault) → length text ≤ LONGEST_TEXT
    → IfOk result (λ v. Lexed text v.items) → IfOk result (λ v. Answers text (Ok v.items))
found_in_room text (Ok v) room found = in_room room found
found_in_room text (Err e) room found = found

pub fault_in_room : {A : Type 0} (text : List ℕ) (result : Result (Vec Token A) LexFault) → length text ≤ LONGEST_TEXT
    → IfErr result (λ e. IsFirstFault text e) → IfErr result (λ e. IsAnswer text e)
fault_in_room text (Ok v) room fault = fault
fault_in_room text (Err (BadCharacter at)) room fault = in_room room fault
fault_in_room text (Err (OpenComment at)) room fault = in_room room fault
fault_in_room text (Err (TooLong at)) room fault = in_room room fault
fault_in_room text (Err NoMemory) room fault = tt
