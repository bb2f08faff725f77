-- What the machine on expressions reads is in their grammar. The proof assigns tokens to each part of the stack.
use Rattle.std.proofs.Common.{◌≡◌, ℕ, false, List, [], ◌∷◌, Option, Some, None, is_some, refl, sym, ap, subst}
use Rattle.sdl_lex.specs.declared.lexemes.Token.{Token}
use Rattle.sdl_ast.specs.declared.expression.UnaryOperator.{UnaryOperator}
use Rattle.sdl_ast.specs.declared.expression.UnaryOperator.TheVariants.{Negate, Not}
use Rattle.sdl_ast.specs.declared.expression.BinaryOperator.{BinaryOperator}
use Rattle.sdl_ast.specs.declared.expression.BinaryOperator.TheVariants.{Subtract}
use Rattle.sdl_productions.specs.declared.level.Level.{Level}
use Rattle.sdl_productions.specs.declared.level.Level.TheVariants.{Disjunctions, Conjunctions, Relations, Sums, Products}
use Rattle.sdl_ast.specs.Plain.{Tree, unary, binary}
use Rattle.sdl_productions.specs.Expressions.{Sign, leaf, joins, minus, denies, opens, closes, other, sign, between, in_front, Disjunction, one_conjunction, disjoined, Conjunction, one_relation, conjoined, Relation, one_sum, related, Sum, one_product, summed, Product, one_factor, multiplied, Factor, bare, led, Primary, operand, in_parentheses, goes_on, Expressed, expression_syntax}
use Rattle.sdl_ast.specs.Places.{place_of}
use Rattle.sdl_productions.specs.Readings.{Reading, read, fails}
use Rattle.sdl_productions.specs.Machine.{whole_trees, Terms, Tests, Frame, no_terms, no_tests, empty_frame, led_by, joined_to, closed_product, closed_terms, closed_relation, closed_conjunction, closed_tests, closed, with_operator, with_lead, State, wants, has, Turn, goes, done, stuck, unless, join_turn, want_turn, close_turn, end_turn, have_turn, turn, after_turn, run, expression_at}
use Rattle.sdl_productions.proofs.Decides.{Decides}
use Rattle.sdl_productions.proofs.MachineLemmas.{run_seen, tests, terms, expression_complete}

-- What the tokens read so far mean for each part of the stack.

-- A slot is empty, or holds a left operand that was read, followed by an operator of its level.
abbrev Behind : (List Token → Tree → List Token → Type 0) → Level → Option (Tree × BinaryOperator) → List Token → List Token → Type 0
Behind P level None ts us = ts ≡ us
Behind P level (Some s) ts us = (t : Token) × P ts s.0 (t ∷ us) × (between (sign t) ≡ Some (level, s.1))

abbrev LeadBefore : Option (ℕ × UnaryOperator) → List Token → List Token → Type 0
LeadBefore None ts us = ts ≡ us
LeadBefore (Some p) ts us = (t : Token) × (ts ≡ t ∷ us) × (in_front (sign t) ≡ Some (p.0, p.1))

-- The slots before an operand were read from the tokens `ts`, and the tokens `us` are next.
record TermsBefore (n : Terms) (ts us : List Token) : Type 0 where
  mid : List Token
  last : List Token
  sum_before : Behind Sum Sums n.sum ts mid
  product_before : Behind Product Products n.product mid last
  lead_before : LeadBefore n.lead last us

record TestsBefore (k : Tests) (ts us : List Token) : Type 0 where
  mid : List Token
  last : List Token
  disjunction_before : Behind Disjunction Disjunctions k.disjunction ts mid
  conjunction_before : Behind Conjunction Conjunctions k.conjunction mid last
  relation_before : Behind Sum Relations k.relation last us

record Before (l : Frame) (ts us : List Token) : Type 0 where
  from : List Token
  tests_before : TestsBefore l.tests ts from
  terms_before : TermsBefore l.terms from us

abbrev nothing_in_tests : (ts : List Token) → TestsBefore no_tests ts ts
nothing_in_tests ts = record { mid = ts; last = ts; disjunction_before = refl; conjunction_before = refl; relation_before = refl }

abbrev nothing_in_terms : (ts : List Token) → TermsBefore no_terms ts ts
nothing_in_terms ts = record { mid = ts; last = ts; sum_before = refl; product_before = refl; lead_before = refl }

abbrev Opened : List Frame → ℕ → List Token → List Token → Type 0
Opened [] a ts inside = ts ≡ inside
Opened (o ∷ ls) a ts inside = (m : List Token) × (t : Token) × Opened ls o.opened ts m × Before o m (t ∷ inside) × (sign t ≡ opens a)

abbrev Stands : State → List Token → List Token → Type 0
Stands (wants ls l) ts us = (inside : List Token) × Opened ls l.opened ts inside × Before l inside us
Stands (has ls l x) ts us = (inside : List Token) × (from : List Token) × Opened ls l.opened ts inside × Before l inside from × Primary from x us

-- One level of the grammar: the operand without a left operand, or joined to one.
behind_reads : (P Q R : List Token → Tree → List Token → Type 0) (level : Level)
    → ((ts us : List Token) (x : Tree) → Q ts x us → P ts x us)
    → ((ts us vs : List Token) (x y : Tree) (t : Token) (o : BinaryOperator) → R ts x (t ∷ us) → between (sign t) ≡ Some (level, o) → Q us y vs → P ts (binary (place_of x) o x y) vs)
    → (s : Option (Tree × BinaryOperator)) (ts mid us : List Token) (y : Tree) → Behind R level s ts mid → Q mid y us → P ts (joined_to whole_trees s y) us
behind_reads P Q R level one more None ts mid us y e h = subst (λ vs. P vs y us) (sym e) (one mid us y h)
behind_reads P Q R level one more (Some s) ts mid us y e h = more ts mid us s.0 y e.0 s.1 e.1 e.2 h

factor_reads : (m : Option (ℕ × UnaryOperator)) (last from us : List Token) (x : Tree) → LeadBefore m last from → Primary from x us → Factor last (led_by whole_trees m x) us
factor_reads None last from us x e h = subst (λ ts. Factor ts x us) (sym e) (bare from us x h)
factor_reads (Some p) last from us x e h = subst (λ ts. Factor ts (unary p.0 p.1 x) us) (sym e.1) (led from us x e.0 p.0 p.1 e.2 h)

product_reads : (n : Terms) (ts from us : List Token) (x : Tree) → (b : TermsBefore n ts from) → Primary from x us → Product b.mid (closed_product whole_trees n x) us
product_reads n ts from us x b h =
    behind_reads Product Factor Product Products one_factor multiplied n.product b.mid b.last us _ b.product_before (factor_reads n.lead b.last from us x b.lead_before h)

sum_reads : (n : Terms) (ts from us : List Token) (x : Tree) → TermsBefore n ts from → Primary from x us → Sum ts (closed_terms whole_trees n x) us
sum_reads n ts from us x b h = behind_reads Sum Product Sum Sums one_product summed n.sum ts b.mid us _ b.sum_before (product_reads n ts from us x b h)

relation_reads : (k : Tests) (ts from us : List Token) (y : Tree) → (b : TestsBefore k ts from) → Sum from y us → Relation b.last (closed_relation whole_trees k y) us
relation_reads k ts from us y b h = behind_reads Relation Sum Sum Relations one_sum related k.relation b.last from us y b.relation_before h

conjunction_reads : (k : Tests) (ts from us : List Token) (y : Tree) → (b : TestsBefore k ts from) → Sum from y us → Conjunction b.mid (closed_conjunction whole_trees k y) us
conjunction_reads k ts from us y b h =
    behind_reads Conjunction Relation Conjunction Conjunctions one_relation conjoined k.conjunction b.mid b.last us _ b.conjunction_before (relation_reads k ts from us y b h)

disjunction_reads : (k : Tests) (ts from us : List Token) (y : Tree) → TestsBefore k ts from → Sum from y us → Disjunction ts (closed_tests whole_trees k y) us
disjunction_reads k ts from us y b h =
    behind_reads Disjunction Conjunction Disjunction Disjunctions one_conjunction disjoined k.disjunction ts b.mid us _ b.disjunction_before (conjunction_reads k ts from us y b h)

closed_reads : (l : Frame) (ts from us : List Token) (x : Tree) → Before l ts from → Primary from x us → Disjunction ts (closed whole_trees l x) us
closed_reads l ts from us x b h = disjunction_reads l.tests ts b.from us _ b.tests_before (sum_reads l.terms b.from from us x b.terms_before h)

-- The meaning of the state after one turn at a token.
abbrev TurnHolds : Turn → List Token → Token → List Token → Type 0
TurnHolds (goes s) ts t us = Stands s ts us
TurnHolds (done x) ts t us = Disjunction ts x (t ∷ us) × (is_some (between (sign t)) ≡ false)
TurnHolds stuck ts t us = Unit {0}

lead_holds : (ls : List Frame) (l : Frame) (at : ℕ) (o : UnaryOperator) (m : Option (ℕ × UnaryOperator)) → l.terms.lead ≡ m → (ts : List Token) (t : Token) (us : List Token)
    → in_front (sign t) ≡ Some (at, o) → Stands (wants ls l) ts (t ∷ us) → TurnHolds (unless (is_some m) (wants ls (with_lead at o l))) ts t us
lead_holds ls l at o (Some earlier) h ts t us e s = tt
lead_holds ls l at o None h ts t us e s =
    let b = s.2 in
    let n = b.terms_before in
    let here : n.last ≡ t ∷ us = subst (λ m. LeadBefore m n.last (t ∷ us)) h n.lead_before in (
      s.0,
      s.1,
      record {
        from = b.from;
        tests_before = b.tests_before;
        terms_before = record { mid = n.mid; last = n.last; sum_before = n.sum_before; product_before = n.product_before; lead_before = (t, here, e) };
      },
    )

nothing_before : (ls : List Frame) (l : Frame) (at : ℕ) (ts : List Token) (t : Token) (us : List Token) → sign t ≡ opens at
    → Stands (wants ls l) ts (t ∷ us) → Stands (wants (l ∷ ls) (empty_frame at)) ts us
nothing_before ls l at ts t us e s =
    (us, (s.0, t, s.1, s.2, e), record { from = us; tests_before = nothing_in_tests us; terms_before = nothing_in_terms us })

want_holds : (ls : List Frame) (l : Frame) (g : Sign) (ts : List Token) (t : Token) (us : List Token) → sign t ≡ g
    → Stands (wants ls l) ts (t ∷ us) → TurnHolds (want_turn ls l g) ts t us
want_holds ls l (leaf x) ts t us e s = (s.0, t ∷ us, s.1, s.2, operand us x t e)
want_holds ls l (minus at) ts t us e s = lead_holds ls l at Negate l.terms.lead refl ts t us (ap in_front e) s
want_holds ls l (denies at) ts t us e s = lead_holds ls l at Not l.terms.lead refl ts t us (ap in_front e) s
want_holds ls l (opens at) ts t us e s = nothing_before ls l at ts t us e s
want_holds ls l (joins level o) ts t us e s = tt
want_holds ls l closes ts t us e s = tt
want_holds ls l other ts t us e s = tt

-- A relation operator where no other relation comes before it.
relation_holds : (ls : List Frame) (l : Frame) (x : Tree) (o : BinaryOperator) (r : Option (Tree × BinaryOperator)) → l.tests.relation ≡ r → (ts : List Token) (t : Token) (us : List Token)
    → between (sign t) ≡ Some (Relations, o) → Stands (has ls l x) ts (t ∷ us)
    → TurnHolds (unless (is_some r) (wants ls (with_operator whole_trees Relations o l x))) ts t us
relation_holds ls l x o (Some earlier) h ts t us e s = tt
relation_holds ls l x o None h ts t us e s =
    let b = s.3 in
    let k = b.tests_before in
    let y = closed_terms whole_trees l.terms x in
    let here : k.last ≡ b.from = subst (λ r. Behind Sum Relations r k.last b.from) h k.relation_before in
    let sum : Sum k.last y (t ∷ us) = subst (λ vs. Sum vs y (t ∷ us)) (sym here) (sum_reads l.terms b.from s.1 (t ∷ us) x b.terms_before s.4) in
    let left : Sum k.last (closed_relation whole_trees l.tests y) (t ∷ us) = subst (λ r. Sum k.last (joined_to whole_trees r y) (t ∷ us)) (sym h) sum in (
      s.0,
      s.2,
      record {
        from = us;
        tests_before = record { mid = k.mid; last = k.last; disjunction_before = k.disjunction_before; conjunction_before = k.conjunction_before; relation_before = (t, left, e) };
        terms_before = nothing_in_terms us;
      },
    )

join_holds : (level : Level) (o : BinaryOperator) (ls : List Frame) (l : Frame) (x : Tree) (ts : List Token) (t : Token) (us : List Token)
    → between (sign t) ≡ Some (level, o) → Stands (has ls l x) ts (t ∷ us) → TurnHolds (join_turn whole_trees ls l x level o) ts t us
join_holds Disjunctions o ls l x ts t us e s = (
  s.0,
  s.2,
  record {
    from = us;
    tests_before = record { mid = us; last = us; disjunction_before = (t, closed_reads l s.0 s.1 (t ∷ us) x s.3 s.4, e); conjunction_before = refl; relation_before = refl };
    terms_before = nothing_in_terms us;
  },
)
join_holds Conjunctions o ls l x ts t us e s =
    let b = s.3 in
    let k = b.tests_before in
    let left = conjunction_reads l.tests s.0 b.from (t ∷ us) _ k (sum_reads l.terms b.from s.1 (t ∷ us) x b.terms_before s.4) in (
      s.0,
      s.2,
      record {
        from = us;
        tests_before = record { mid = k.mid; last = us; disjunction_before = k.disjunction_before; conjunction_before = (t, left, e); relation_before = refl };
        terms_before = nothing_in_terms us;
      },
    )
join_holds Relations o ls l x ts t us e s = relation_holds ls l x o l.tests.relation refl ts t us e s
join_holds Sums o ls l x ts t us e s =
    let b = s.3 in
    let left = sum_reads l.terms b.from s.1 (t ∷ us) x b.terms_before s.4 in (
      s.0,
      s.2,
      record {
        from = b.from;
        tests_before = b.tests_before;
        terms_before = record { mid = us; last = us; sum_before = (t, left, e); product_before = refl; lead_before = refl };
      },
    )
join_holds Products o ls l x ts t us e s =
    let b = s.3 in
    let n = b.terms_before in
    let left = product_reads l.terms b.from s.1 (t ∷ us) x n s.4 in (
      s.0,
      s.2,
      record {
        from = b.from;
        tests_before = b.tests_before;
        terms_before = record { mid = n.mid; last = us; sum_before = n.sum_before; product_before = (t, left, e); lead_before = refl };
      },
    )

close_holds : (ls : List Frame) (l : Frame) (x : Tree) (ts : List Token) (t : Token) (us : List Token) → sign t ≡ closes
    → Stands (has ls l x) ts (t ∷ us) → TurnHolds (close_turn whole_trees ls l x) ts t us
close_holds [] l x ts t us e s =
    (subst (λ vs. Disjunction vs (closed whole_trees l x) (t ∷ us)) (sym s.2) (closed_reads l s.0 s.1 (t ∷ us) x s.3 s.4), ap (λ g. is_some (between g)) e)
close_holds (o ∷ ls) l x ts t us e s =
    let before = s.2 in
    (before.0, before.1 ∷ s.0, before.2, before.3, in_parentheses s.0 us (closed whole_trees l x) before.1 t l.opened before.4 (closed_reads l s.0 s.1 (t ∷ us) x s.3 s.4) e)

end_holds : (ls : List Frame) (l : Frame) (x : Tree) (ts : List Token) (t : Token) (us : List Token) → is_some (between (sign t)) ≡ false
    → Stands (has ls l x) ts (t ∷ us) → TurnHolds (end_turn whole_trees ls l x) ts t us
end_holds [] l x ts t us e s =
    (subst (λ vs. Disjunction vs (closed whole_trees l x) (t ∷ us)) (sym s.2) (closed_reads l s.0 s.1 (t ∷ us) x s.3 s.4), e)
end_holds (o ∷ ls) l x ts t us e s = tt

have_holds : (ls : List Frame) (l : Frame) (x : Tree) (g : Sign) (ts : List Token) (t : Token) (us : List Token) → sign t ≡ g
    → Stands (has ls l x) ts (t ∷ us) → TurnHolds (have_turn whole_trees ls l x g) ts t us
have_holds ls l x (joins level o) ts t us e s = join_holds level o ls l x ts t us (ap between e) s
have_holds ls l x (minus at) ts t us e s = join_holds Sums Subtract ls l x ts t us (ap between e) s
have_holds ls l x closes ts t us e s = close_holds ls l x ts t us e s
have_holds ls l x (leaf y) ts t us e s = end_holds ls l x ts t us (ap (λ g. is_some (between g)) e) s
have_holds ls l x (denies at) ts t us e s = end_holds ls l x ts t us (ap (λ g. is_some (between g)) e) s
have_holds ls l x (opens at) ts t us e s = end_holds ls l x ts t us (ap (λ g. is_some (between g)) e) s
have_holds ls l x other ts t us e s = end_holds ls l x ts t us (ap (λ g. is_some (between g)) e) s

turn_holds : (s : State) (ts : List Token) (t : Token) (us : List Token) → Stands s ts (t ∷ us) → TurnHolds (turn whole_trees s (sign t)) ts t us
unfolding turn
turn_holds (wants ls l) ts t us h = want_holds ls l (sign t) ts t us refl h
turn_holds (has ls l x) ts t us h = have_holds ls l x (sign t) ts t us refl h

after_holds : (a : Turn) (ts : List Token) (t : Token) (us : List Token) (go_on : State → Reading Tree) → TurnHolds a ts t us
    → ((s : State) (x : Tree) (vs : List Token) → Stands s ts us → go_on s ≡ read x vs → Expressed ts x vs)
    → (x : Tree) (vs : List Token) → after_turn a go_on (t ∷ us) ≡ read x vs → Expressed ts x vs
after_holds (goes s) ts t us go_on h ih x vs e = ih s x vs h e
after_holds (done y) ts t us go_on h ih x vs e =
    let tree : y ≡ x = cc in
    let rest : (t ∷ us) ≡ vs = cc in
    record { reads = subst (λ z. Disjunction ts z vs) tree (subst (λ z. Disjunction ts y z) rest h.0); ends = subst (λ z. goes_on z ≡ false) rest h.1 }
after_holds stuck ts t us go_on h ih x vs e = cc

end_read : (ls : List Frame) (l : Frame) (y : Tree) (ts : List Token) → Stands (has ls l y) ts [] → (x : Tree) (vs : List Token)
    → after_turn (end_turn whole_trees ls l y) (λ _. fails []) [] ≡ read x vs → Expressed ts x vs
end_read [] l y ts s x vs e =
    let tree : closed whole_trees l y ≡ x = cc in
    let rest : [] ≡ vs = cc in
    let reads = subst (λ us. Disjunction us (closed whole_trees l y) []) (sym s.2) (closed_reads l s.0 s.1 [] y s.3 s.4) in
    record { reads = subst (λ z. Disjunction ts z vs) tree (subst (λ z. Disjunction ts (closed whole_trees l y) z) rest reads); ends = subst (λ z. goes_on z ≡ false) rest refl }
end_read (o ∷ ls) l y ts s x vs e = cc

run_sound : (us : List Token) (ts : List Token) (s : State) → Stands s ts us → (x : Tree) (vs : List Token) → run whole_trees s us ≡ read x vs → Expressed ts x vs
unfolding run turn
run_sound [] ts (wants ls l) h x vs e = cc
run_sound [] ts (has ls l y) h x vs e = end_read ls l y ts h x vs e
run_sound (t ∷ us) ts s h x vs e =
    after_holds (turn whole_trees s (sign t)) ts t us (λ s'. run whole_trees s' us) (turn_holds s ts t us h) (λ s' y ws k f. run_sound us ts s' k y ws f) x vs e

pub expression_decides : Decides expression_syntax (expression_at whole_trees)
unfolding expression_at
expression_decides = record {
  looks = λ ts. run_seen whole_trees ts (wants [] (empty_frame 0));
  sound = λ ts x us e. run_sound ts ts (wants [] (empty_frame 0)) (ts, refl, record { from = ts; tests_before = nothing_in_tests ts; terms_before = nothing_in_terms ts }) x us e;
  complete = expression_complete;
}
