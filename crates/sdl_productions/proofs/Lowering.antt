-- Readings that build no tree above one that is too high return the lowered form of the whole tree.
use Rattle.std.proofs.Common.{◌≡◌, ℕ, suc, zero, Bool, true, false, List, [], ◌∷◌, Option, Some, None, is_some, length, map, refl, sym, ap, ◌∙◌}
use Rattle.std.specs.Prelude.{nat_lt, nat_le, if◌then◌else◌}
use Rattle.sdl_lex.specs.Limits.{GREATEST_NUMBER}
use Rattle.sdl_lex.specs.declared.lexemes.Token.{Token}
use Rattle.sdl_lex.specs.declared.lexemes.Word.{Word}
use Rattle.sdl_lex.specs.declared.lexemes.Word.TheVariants as words
use Rattle.sdl_lex.specs.declared.lexemes.Symbol.TheVariants.{Comma}
use Rattle.sdl_lex.specs.declared.lexemes.Symbol.TheVariants as symbols
use Rattle.sdl_lex.specs.declared.lexemes.Symbol.{Symbol}
use Rattle.sdl_lex.specs.declared.lexemes.Lexeme.{Lexeme}
use Rattle.sdl_lex.specs.declared.lexemes.Lexeme.TheVariants as lexemes
use Rattle.sdl_productions.specs.Tokens.{begins, a_symbol}
use Rattle.sdl_ast.specs.declared.expression.UnaryOperator.{UnaryOperator}
use Rattle.sdl_ast.specs.declared.expression.UnaryOperator.TheVariants.{Negate, Not}
use Rattle.sdl_ast.specs.declared.expression.BinaryOperator.{BinaryOperator}
use Rattle.sdl_ast.specs.declared.expression.BinaryOperator.TheVariants.{Subtract}
use Rattle.sdl_productions.specs.declared.level.Level.{Level}
use Rattle.sdl_productions.specs.declared.level.Level.TheVariants.{Disjunctions, Conjunctions, Relations, Sums, Products}
use Rattle.sdl_ast.specs.Limits.{GREATEST_HEIGHT}
use Rattle.sdl_ast.specs.Plain.{Tree, number, truth, variable, unary, binary}
use Rattle.sdl_productions.specs.Expressions.{Sign, leaf, joins, minus, denies, opens, closes, other, sign, symbol_sign, word_sign, lexeme_sign}
use Rattle.sdl_ast.specs.Places.{place_of, placed}
use Rattle.sdl_ast.specs.Heights.{tree_height}
use Rattle.sdl_productions.specs.Readings.{Reading, read, fails, At, then_read, either, choice, many_for, many, give, token, ◌>>=◌, separated, list_in_parentheses, behind_comma}
use Rattle.sdl_productions.specs.Machine.{whole_trees, low_trees, low_binary, lowered, Terms, Tests, Frame, no_terms, empty_frame, led_by, joined_to, closed_product, closed_terms, closed_relation, closed_conjunction, closed_tests, closed, with_operator, with_lead, bars, State, wants, has, Turn, goes, done, stuck, unless, lead_turn, join_turn, want_turn, close_turn, end_turn, have_turn, turn, after_turn, run, expression_at}

-- The machine on expressions.

placed-placed : (p q : ℕ) (x : Tree) → placed p (placed q x) ≡ placed p x
placed-placed p q (number at k) = refl
placed-placed p q (truth at b) = refl
placed-placed p q (variable at n) = refl
placed-placed p q (unary at o x) = refl
placed-placed p q (binary at o x y) = refl

place_of-placed : (p : ℕ) (x : Tree) → place_of (placed p x) ≡ p
place_of-placed p (number at k) = refl
place_of-placed p (truth at b) = refl
place_of-placed p (variable at n) = refl
place_of-placed p (unary at o x) = refl
place_of-placed p (binary at o x y) = refl

place_if : (b : Bool) (at : ℕ) (x y : Tree) → place_of x ≡ at → place_of y ≡ at → place_of (if b then x else y) ≡ at
place_if true at x y e f = e
place_if false at x y e f = f

pub place_of-lowered : (x : Tree) → place_of (lowered x) ≡ place_of x
place_of-lowered (number at k) = refl
place_of-lowered (truth at b) = refl
place_of-lowered (variable at n) = refl
place_of-lowered (unary at o x) = place_if (nat_lt GREATEST_HEIGHT (tree_height (lowered x))) at _ _ (place_of-placed at (lowered x)) refl
place_of-lowered (binary at o x y) =
    place_if (nat_lt GREATEST_HEIGHT (tree_height (lowered x))) at _ _ (place_of-placed at (lowered x))
    (place_if (nat_lt GREATEST_HEIGHT (tree_height (lowered y))) at _ _ (place_of-placed at (lowered y)) refl)

placed_if : (b : Bool) (p : ℕ) (x y x' y' : Tree) → placed p x ≡ x' → placed p y ≡ y' → placed p (if b then x else y) ≡ (if b then x' else y')
placed_if true p x y x' y' e f = e
placed_if false p x y x' y' e f = f

pub lowered-placed : (p : ℕ) (x : Tree) → lowered (placed p x) ≡ placed p (lowered x)
lowered-placed p (number at k) = refl
lowered-placed p (truth at b) = refl
lowered-placed p (variable at n) = refl
lowered-placed p (unary at o x) =
    sym (placed_if (nat_lt GREATEST_HEIGHT (tree_height (lowered x))) p _ _ _ _ (placed-placed p at (lowered x)) refl)
lowered-placed p (binary at o x y) =
    sym (placed_if (nat_lt GREATEST_HEIGHT (tree_height (lowered x))) p _ _ _ _ (placed-placed p at (lowered x))
    (placed_if (nat_lt GREATEST_HEIGHT (tree_height (lowered y))) p _ _ _ _ (placed-placed p at (lowered y)) refl))

lowered_slot : Option (Tree × BinaryOperator) → Option (Tree × BinaryOperator)
lowered_slot None = None
lowered_slot (Some s) = Some (lowered s.0, s.1)

lowered_terms : Terms → Terms
lowered_terms n = record { sum = lowered_slot n.sum; product = lowered_slot n.product; lead = n.lead }

lowered_tests : Tests → Tests
lowered_tests k = record { disjunction = lowered_slot k.disjunction; conjunction = lowered_slot k.conjunction; relation = lowered_slot k.relation }

lowered_frame : Frame → Frame
lowered_frame l = record { opened = l.opened; tests = lowered_tests l.tests; terms = lowered_terms l.terms }

lowered_frames : List Frame → List Frame
lowered_frames [] = []
lowered_frames (l ∷ ls) = lowered_frame l ∷ lowered_frames ls

lowered_state : State → State
lowered_state (wants ls l) = wants (lowered_frames ls) (lowered_frame l)
lowered_state (has ls l x) = has (lowered_frames ls) (lowered_frame l) (lowered x)

lowered_turn : Turn → Turn
lowered_turn (goes s) = goes (lowered_state s)
lowered_turn (done x) = done (lowered x)
lowered_turn stuck = stuck

unfoldable pub mapped : {A B : Type 0} → (A → B) → Reading A → Reading B
mapped f (read x us) = read (f x) us
mapped f (fails us) = fails us

low_led : (m : Option (ℕ × UnaryOperator)) (x : Tree) → led_by low_trees m (lowered x) ≡ lowered (led_by whole_trees m x)
low_led None x = refl
low_led (Some p) x = refl

low_join : (o : BinaryOperator) (x y : Tree) → low_trees.join o (lowered x) (lowered y) ≡ lowered (whole_trees.join o x y)
low_join o x y = ap (λ p. low_binary p o (lowered x) (lowered y)) (place_of-lowered x)

low_slot : (s : Option (Tree × BinaryOperator)) (x : Tree) → joined_to low_trees (lowered_slot s) (lowered x) ≡ lowered (joined_to whole_trees s x)
unfolding lowered_slot
low_slot None x = refl
low_slot (Some s) x = low_join s.1 s.0 x

-- As `low_slot`, for an operand that is equal to a lowered tree.
low_behind : (s : Option (Tree × BinaryOperator)) (x y : Tree) → y ≡ lowered x → joined_to low_trees (lowered_slot s) y ≡ lowered (joined_to whole_trees s x)
low_behind s x y e = ap (joined_to low_trees (lowered_slot s)) e ∙ low_slot s x

low_closed_product : (n : Terms) (x : Tree) → closed_product low_trees (lowered_terms n) (lowered x) ≡ lowered (closed_product whole_trees n x)
unfolding lowered_terms
low_closed_product n x = low_behind n.product (led_by whole_trees n.lead x) _ (low_led n.lead x)

low_closed_terms : (n : Terms) (x : Tree) → closed_terms low_trees (lowered_terms n) (lowered x) ≡ lowered (closed_terms whole_trees n x)
unfolding lowered_terms
low_closed_terms n x = low_behind n.sum (closed_product whole_trees n x) _ (low_closed_product n x)

low_closed_relation : (k : Tests) (x y : Tree) → y ≡ lowered x → closed_relation low_trees (lowered_tests k) y ≡ lowered (closed_relation whole_trees k x)
unfolding lowered_tests
low_closed_relation k x y e = low_behind k.relation x y e

low_closed_conjunction : (k : Tests) (x y : Tree) → y ≡ lowered x → closed_conjunction low_trees (lowered_tests k) y ≡ lowered (closed_conjunction whole_trees k x)
unfolding lowered_tests
low_closed_conjunction k x y e = low_behind k.conjunction (closed_relation whole_trees k x) _ (low_closed_relation k x y e)

low_closed_tests : (k : Tests) (x y : Tree) → y ≡ lowered x → closed_tests low_trees (lowered_tests k) y ≡ lowered (closed_tests whole_trees k x)
unfolding lowered_tests
low_closed_tests k x y e = low_behind k.disjunction (closed_conjunction whole_trees k x) _ (low_closed_conjunction k x y e)

low_closed : (l : Frame) (x : Tree) → closed low_trees (lowered_frame l) (lowered x) ≡ lowered (closed whole_trees l x)
unfolding lowered_frame
low_closed l x = low_closed_tests l.tests (closed_terms whole_trees l.terms x) _ (low_closed_terms l.terms x)

low_operator : (level : Level) (o : BinaryOperator) (l : Frame) (x : Tree)
    → with_operator low_trees level o (lowered_frame l) (lowered x) ≡ lowered_frame (with_operator whole_trees level o l x)
unfolding lowered_frame lowered_tests lowered_terms lowered_slot
low_operator Disjunctions o l x =
    ap (λ z. record { opened = l.opened; tests = record { disjunction = Some (z, o); conjunction = None; relation = None }; terms = no_terms })
    (low_closed_tests l.tests (closed_terms whole_trees l.terms x) _ (low_closed_terms l.terms x))
low_operator Conjunctions o l x =
    ap (λ z. record { opened = l.opened; tests = record { disjunction = lowered_slot l.tests.disjunction; conjunction = Some (z, o); relation = None }; terms = no_terms })
    (low_closed_conjunction l.tests (closed_terms whole_trees l.terms x) _ (low_closed_terms l.terms x))
low_operator Relations o l x =
    ap (λ z. record { opened = l.opened; tests = record { disjunction = lowered_slot l.tests.disjunction; conjunction = lowered_slot l.tests.conjunction; relation = Some (z, o) }; terms = no_terms })
    (low_closed_relation l.tests (closed_terms whole_trees l.terms x) _ (low_closed_terms l.terms x))
low_operator Sums o l x =
    ap (λ z. record { opened = l.opened; tests = lowered_tests l.tests; terms = record { sum = Some (z, o); product = None; lead = None } })
    (low_closed_terms l.terms x)
low_operator Products o l x =
    ap (λ z. record { opened = l.opened; tests = lowered_tests l.tests; terms = record { sum = lowered_slot l.terms.sum; product = Some (z, o); lead = None } })
    (low_closed_product l.terms x)

low_is_some : (s : Option (Tree × BinaryOperator)) → is_some (lowered_slot s) ≡ is_some s
unfolding lowered_slot
low_is_some None = refl
low_is_some (Some s) = refl

low_bars : (level : Level) (l : Frame) → bars level (lowered_frame l) ≡ bars level l
unfolding lowered_frame lowered_tests
low_bars Relations l = low_is_some l.tests.relation
low_bars Disjunctions l = refl
low_bars Conjunctions l = refl
low_bars Sums l = refl
low_bars Products l = refl

low_unless : (b : Bool) (s : State) → unless b (lowered_state s) ≡ lowered_turn (unless b s)
unfolding lowered_turn
low_unless true s = refl
low_unless false s = refl

low_lead : (ls : List Frame) (l : Frame) (at : ℕ) (o : UnaryOperator) → lead_turn (lowered_frames ls) (lowered_frame l) at o ≡ lowered_turn (lead_turn ls l at o)
unfolding lowered_state lowered_frame lowered_terms
low_lead ls l at o = low_unless (is_some l.terms.lead) (wants ls (with_lead at o l))

low_joins : (ls : List Frame) (l : Frame) (x : Tree) (level : Level) (o : BinaryOperator)
    → join_turn low_trees (lowered_frames ls) (lowered_frame l) (lowered x) level o ≡ lowered_turn (join_turn whole_trees ls l x level o)
unfolding lowered_state
low_joins ls l x level o =
    ap (λ b. unless b (wants (lowered_frames ls) (with_operator low_trees level o (lowered_frame l) (lowered x)))) (low_bars level l)
    ∙ ap (λ f. unless (bars level l) (wants (lowered_frames ls) f)) (low_operator level o l x)
    ∙ low_unless (bars level l) (wants ls (with_operator whole_trees level o l x))

lowered_sign : Sign → Sign
lowered_sign (leaf x) = leaf (lowered x)
lowered_sign (joins level o) = joins level o
lowered_sign (minus at) = minus at
lowered_sign (denies at) = denies at
lowered_sign (opens at) = opens at
lowered_sign closes = closes
lowered_sign other = other

low_want : (ls : List Frame) (l : Frame) (g : Sign) → want_turn (lowered_frames ls) (lowered_frame l) (lowered_sign g) ≡ lowered_turn (want_turn ls l g)
unfolding lowered_turn lowered_state lowered_frame lowered_frames lowered_sign lowered_slot lowered_tests lowered_terms
low_want ls l (leaf x) = refl
low_want ls l (minus at) = low_lead ls l at Negate
low_want ls l (denies at) = low_lead ls l at Not
low_want ls l (opens at) = refl
low_want ls l (joins level o) = refl
low_want ls l closes = refl
low_want ls l other = refl

low_close : (ls : List Frame) (l : Frame) (x : Tree) → close_turn low_trees (lowered_frames ls) (lowered_frame l) (lowered x) ≡ lowered_turn (close_turn whole_trees ls l x)
unfolding lowered_turn lowered_state lowered_frames lowered_frame
low_close [] l x = ap done (low_closed l x)
low_close (o ∷ ls) l x =
    ap (λ z. goes (has (lowered_frames ls) (lowered_frame o) (placed l.opened z))) (low_closed l x)
    ∙ ap (λ z. goes (has (lowered_frames ls) (lowered_frame o) z)) (sym (lowered-placed l.opened (closed whole_trees l x)))

low_end : (ls : List Frame) (l : Frame) (x : Tree) → end_turn low_trees (lowered_frames ls) (lowered_frame l) (lowered x) ≡ lowered_turn (end_turn whole_trees ls l x)
unfolding lowered_turn lowered_frames
low_end [] l x = ap done (low_closed l x)
low_end (o ∷ ls) l x = refl

low_have : (ls : List Frame) (l : Frame) (x : Tree) (g : Sign)
    → have_turn low_trees (lowered_frames ls) (lowered_frame l) (lowered x) (lowered_sign g) ≡ lowered_turn (have_turn whole_trees ls l x g)
unfolding lowered_sign
low_have ls l x (joins level o) = low_joins ls l x level o
low_have ls l x (minus at) = low_joins ls l x Sums Subtract
low_have ls l x closes = low_close ls l x
low_have ls l x (leaf y) = low_end ls l x
low_have ls l x (denies at) = low_end ls l x
low_have ls l x (opens at) = low_end ls l x
low_have ls l x other = low_end ls l x

low_turn : (s : State) (g : Sign) → turn low_trees (lowered_state s) (lowered_sign g) ≡ lowered_turn (turn whole_trees s g)
unfolding turn lowered_state
low_turn (wants ls l) g = low_want ls l g
low_turn (has ls l x) g = low_have ls l x g

number_sign : (b : Bool) (x : Tree) → lowered x ≡ x → lowered_sign (if b then leaf x else other) ≡ (if b then leaf x else other)
unfolding lowered_sign
number_sign true x e = ap leaf e
number_sign false x e = refl

symbol_same : (at : ℕ) (s : Symbol) → lowered_sign (symbol_sign at s) ≡ symbol_sign at s
unfolding lowered_sign
symbol_same at symbols.Open = refl
symbol_same at _ = refl

word_same : (at : ℕ) (w : Word) → lowered_sign (word_sign at w) ≡ word_sign at w
unfolding lowered_sign
word_same at words.Not = refl
word_same at _ = refl

lexeme_same : (at : ℕ) (x : Lexeme) → lowered_sign (lexeme_sign at x) ≡ lexeme_sign at x
unfolding lowered_sign
lexeme_same at (lexemes.Name n) = refl
lexeme_same at (lexemes.Number k) = number_sign (nat_le k GREATEST_NUMBER) (number at k) refl
lexeme_same at (lexemes.Word w) = word_same at w
lexeme_same at (lexemes.Symbol s) = symbol_same at s
lexeme_same at lexemes.Quoted = refl

sign_same : (t : Token) → lowered_sign (sign t) ≡ sign t
unfolding sign
sign_same t = lexeme_same t.start t.lexeme

turn_same : (s : State) (t : Token) → turn low_trees (lowered_state s) (sign t) ≡ lowered_turn (turn whole_trees s (sign t))
turn_same s t = ap (turn low_trees (lowered_state s)) (sym (sign_same t)) ∙ low_turn s (sign t)

end_same : (s : State) → turn low_trees (lowered_state s) other ≡ lowered_turn (turn whole_trees s other)
unfolding lowered_sign
end_same s = low_turn s other

after_same : (a : Turn) (low whole : State → Reading Tree) (ts : List Token) → ((s : State) → low (lowered_state s) ≡ mapped lowered (whole s))
    → after_turn (lowered_turn a) low ts ≡ mapped lowered (after_turn a whole ts)
unfolding lowered_turn mapped
after_same (goes s) low whole ts h = h s
after_same (done x) low whole ts h = refl
after_same stuck low whole ts h = refl

run_same : (ts : List Token) (s : State) → run low_trees (lowered_state s) ts ≡ mapped lowered (run whole_trees s ts)
unfolding run mapped
run_same [] s = ap (λ a. after_turn a (λ _. fails []) []) (end_same s) ∙ after_same (turn whole_trees s other) (λ _. fails []) (λ _. fails []) [] (λ _. refl)
run_same (t ∷ ts) s =
    ap (λ a. after_turn a (λ s'. run low_trees s' ts) (t ∷ ts)) (turn_same s t)
    ∙ after_same (turn whole_trees s (sign t)) (λ s'. run low_trees s' ts) (λ s'. run whole_trees s' ts) (t ∷ ts) (run_same ts)

-- q returns the result of p with f applied to it.
unfoldable pub Lowers : {A B : Type 0} → (A → B) → At A → At B → Type 0
Lowers f p q = (ts : List Token) → q ts ≡ mapped f (p ts)

pub expression_lowers : Lowers lowered (expression_at whole_trees) (expression_at low_trees)
unfolding expression_at Lowers lowered_state lowered_frames lowered_frame lowered_tests lowered_terms lowered_slot
expression_lowers ts = run_same ts (wants [] (empty_frame 0))

same_reads : {A : Type 0} (p : At A) → Lowers (λ x. x) p p
unfolding Lowers mapped
same_reads {A} p ts = by_result (p ts)
  where
    by_result : (r : Reading A) → r ≡ mapped (λ x. x) r
    by_result (read x us) = refl
    by_result (fails us) = refl

pub give_lowers : {A B : Type 0} (f : A → B) (x : A) → Lowers f (give x) (give (f x))
unfolding Lowers mapped
give_lowers f x ts = refl

pub then_lowers : {A B C D : Type 0} (f : A → C) (g : B → D) (p : At A) (q : A → At B) (p' : At C) (q' : C → At D)
    → Lowers f p p' → ((x : A) → Lowers g (q x) (q' (f x))) → Lowers g (p >>= q) (p' >>= q')
unfolding Lowers mapped
then_lowers {A} {B} {C} {D} f g p q p' q' hp hq ts = ap (λ r. then_read r q') (hp ts) ∙ by_result (p ts)
  where
    by_result : (r : Reading A) → then_read (mapped f r) q' ≡ mapped g (then_read r q)
    by_result (read x us) = hq x us
    by_result (fails us) = refl

either_lowers : {A C : Type 0} (f : A → C) (b : Bool) (p q : At A) (p' q' : At C) → Lowers f p p' → Lowers f q q' → Lowers f (either b p q) (either b p' q')
either_lowers f true p q p' q' hp hq = hp
either_lowers f false p q p' q' hp hq = hq

pub choice_lowers : {A B C : Type 0} (f : A → C) (test : Token → Option B) (p q : At A) (p' q' : At C) → Lowers f p p' → Lowers f q q' → Lowers f (choice test p q) (choice test p' q')
unfolding Lowers
choice_lowers f test p q p' q' hp hq ts = either_lowers f (begins test ts) p q p' q' hp hq ts

many_for_lowers : {A B C : Type 0} (f : A → C) (test : Token → Option B) (p : At A) (p' : At C) → Lowers f p p' → (n : ℕ) → Lowers (map f) (many_for test p n) (many_for test p' n)
unfolding many_for Lowers mapped
many_for_lowers f test p p' h zero ts = refl
many_for_lowers {A} {B} {C} f test p p' h (suc n) ts =
    either_lowers (map f) (begins test ts) _ _ _ _
    (then_lowers f (map f) p _ p' _ h (λ x. then_lowers (map f) (map f) (many_for test p n) _ (many_for test p' n) _ (many_for_lowers f test p p' h n) (λ xs. give_lowers (map f) (x ∷ xs))))
    (give_lowers (map f) []) ts

pub many_lowers : {A B C : Type 0} (f : A → C) (test : Token → Option B) (p : At A) (p' : At C) → Lowers f p p' → Lowers (map f) (many test p) (many test p')
unfolding many Lowers
many_lowers f test p p' h ts = many_for_lowers f test p p' h (suc (length ts)) ts

pub separated_lowers : {A C : Type 0} (f : A → C) (p : At A) (p' : At C) → Lowers f p p' → Lowers (map f) (separated p) (separated p')
separated_lowers f p p' h =
    then_lowers f (map f) p _ p' _ h λ x.
    then_lowers (map f) (map f) (many (a_symbol Comma) (behind_comma p)) _ (many (a_symbol Comma) (behind_comma p')) _
    (many_lowers f (a_symbol Comma) (behind_comma p) (behind_comma p') (then_lowers (λ x. x) f (token (a_symbol Comma)) _ (token (a_symbol Comma)) _ (same_reads (token (a_symbol Comma))) (λ _. h))) λ xs.
    give_lowers (map f) (x ∷ xs)

-- A sequence of readings of which the first is unchanged.
pub next_lowers : {A B D : Type 0} (g : B → D) (p : At A) (q : A → At B) (q' : A → At D) → ((x : A) → Lowers g (q x) (q' x)) → Lowers g (p >>= q) (p >>= q')
next_lowers g p q q' h = then_lowers (λ x. x) g p q p q' (same_reads p) h

pub list_lowers : {A C : Type 0} (f : A → C) (p : At A) (p' : At C) → Lowers f p p' → Lowers (map f) (list_in_parentheses p) (list_in_parentheses p')
list_lowers f p p' h =
    choice_lowers (map f) (a_symbol symbols.Open) _ _ _ _
    (next_lowers (map f) (token (a_symbol symbols.Open)) _ _ λ _.
    then_lowers (map f) (map f) (separated p) _ (separated p') _ (separated_lowers f p p' h) λ xs.
    next_lowers (map f) (token (a_symbol symbols.Close)) _ _ λ _. give_lowers (map f) xs)
    (give_lowers (map f) [])
