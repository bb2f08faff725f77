-- The machine on expressions decides their grammar.
use Rattle.std.proofs.Common.{◌≡◌, ℕ, false, List, [], ◌∷◌, ◌++◌, Option, Some, None, is_some, refl, sym, ap, subst, ◌∙◌}
use Rattle.sdl_lex.specs.declared.lexemes.Token.{Token}
use Rattle.sdl_ast.specs.declared.expression.UnaryOperator.{UnaryOperator}
use Rattle.sdl_ast.specs.declared.expression.BinaryOperator.{BinaryOperator}
use Rattle.sdl_productions.specs.declared.level.Level.{Level}
use Rattle.sdl_productions.specs.declared.level.Level.TheVariants.{Disjunctions, Conjunctions, Relations, Sums, Products}
use Rattle.sdl_ast.specs.Plain.{Tree, binary}
use Rattle.sdl_productions.specs.Expressions.{Sign, leaf, joins, minus, denies, opens, closes, other, sign, between, in_front, Disjunction, one_conjunction, disjoined, Conjunction, one_relation, conjoined, Relation, one_sum, related, Sum, one_product, summed, Product, one_factor, multiplied, Factor, bare, led, Primary, operand, in_parentheses, goes_on, Expressed}
use Rattle.sdl_ast.specs.Places.{place_of, placed}
use Rattle.sdl_productions.specs.Readings.{read, fails}
use Rattle.sdl_productions.specs.Machine.{Build, whole_trees, Terms, Tests, Frame, no_terms, no_tests, empty_frame, led_by, joined_to, closed_terms, closed_tests, closed, with_operator, with_lead, bars, State, wants, has, Turn, goes, done, stuck, unless, lead_turn, join_turn, want_turn, have_turn, turn, after_turn, run, expression_at}
use Rattle.sdl_productions.proofs.Decides.{first, rest_of, with_rest, Seen}

pub run_goes : (b : Build) (s s' : State) (t : Token) (ts : List Token) → turn b s (sign t) ≡ goes s' → run b s (t ∷ ts) ≡ run b s' ts
unfolding run
run_goes b s s' t ts e = ap (λ a. after_turn a (λ s'. run b s' ts) (t ∷ ts)) e

pub run_done : (b : Build) (s : State) (x : Tree) (t : Token) (ts : List Token) → turn b s (sign t) ≡ done x → run b s (t ∷ ts) ≡ read x (t ∷ ts)
unfolding run
run_done b s x t ts e = ap (λ a. after_turn a (λ s'. run b s' ts) (t ∷ ts)) e

pub run_stuck : (b : Build) (s : State) (t : Token) (ts : List Token) → turn b s (sign t) ≡ stuck → run b s (t ∷ ts) ≡ fails (t ∷ ts)
unfolding run
run_stuck b s t ts e = ap (λ a. after_turn a (λ s'. run b s' ts) (t ∷ ts)) e

-- The machine inspects at most one token ahead.

end_seen : (b : Build) (s : State) (a : Turn) → turn b s other ≡ a → Seen (run b s) []
unfolding run
end_seen b s a e = record {
  result = after_turn a (λ _. fails []) [];
  is = ap (λ a. after_turn a (λ _. fails []) []) e;
  front = [];
  parts = nothing a;
  again = λ us h. at_end b s a e us (h ∙ ap first (sym (nothing a)));
}
  where
    nothing : (a : Turn) → [] ≡ rest_of (after_turn a (λ _. fails []) [])
    nothing (goes s) = refl
    nothing (done x) = refl
    nothing stuck = refl

    same : (a : Turn) → after_turn a (λ _. fails []) [] ≡ with_rest (after_turn a (λ _. fails []) []) []
    same (goes s) = refl
    same (done x) = refl
    same stuck = refl

    at_end : (b : Build) (s : State) (a : Turn) → turn b s other ≡ a → (us : List Token) → first us ≡ None → run b s us ≡ with_rest (after_turn a (λ _. fails []) []) us
    at_end b s a e [] h = ap (λ a. after_turn a (λ _. fails []) []) e ∙ same a
    at_end b s a e (u ∷ us) h = cc

turn_seen : (b : Build) (s : State) (t : Token) (ts : List Token) (a : Turn) → turn b s (sign t) ≡ a → ((s' : State) → Seen (run b s') ts) → Seen (run b s) (t ∷ ts)
turn_seen b s t ts (goes s') e next = let n = next s' in record {
  result = n.result;
  is = run_goes b s s' t ts e ∙ n.is;
  front = t ∷ n.front;
  parts = ap (λ zs. t ∷ zs) n.parts;
  again = λ us h. run_goes b s s' t (n.front ++ us) e ∙ n.again us h;
}
turn_seen b s t ts (done x) e next = record {
  result = read x (t ∷ ts);
  is = run_done b s x t ts e;
  front = [];
  parts = refl;
  again = same b s t x e;
}
  where
    same : (b : Build) (s : State) (t : Token) (x : Tree) → turn b s (sign t) ≡ done x → (us : List Token) → first us ≡ Some t → run b s us ≡ read x us
    same b s t x e [] h = cc
    same b s t x e (u ∷ us) h = let k : t ≡ u = cc in run_done b s x u us (subst (λ v. turn b s (sign v) ≡ done x) k e)
turn_seen b s t ts stuck e next = record {
  result = fails (t ∷ ts);
  is = run_stuck b s t ts e;
  front = [];
  parts = refl;
  again = same b s t e;
}
  where
    same : (b : Build) (s : State) (t : Token) → turn b s (sign t) ≡ stuck → (us : List Token) → first us ≡ Some t → run b s us ≡ fails us
    same b s t e [] h = cc
    same b s t e (u ∷ us) h = let k : t ≡ u = cc in run_stuck b s u us (subst (λ v. turn b s (sign v) ≡ stuck) k e)

pub run_seen : (b : Build) (ts : List Token) (s : State) → Seen (run b s) ts
run_seen b [] s = end_seen b s (turn b s other) refl
run_seen b (t ∷ ts) s = turn_seen b s t ts (turn b s (sign t)) refl (run_seen b ts)

-- The machine reads what is in the grammar. These lemmas state the resulting tree, not which slots hold its parts.

abbrev frame : ℕ → Tests → Terms → Frame
frame a k t = record { opened = a; tests = k; terms = t }

abbrev pub tests : Option (Tree × BinaryOperator) → Option (Tree × BinaryOperator) → Option (Tree × BinaryOperator) → Tests
tests d c r = record { disjunction = d; conjunction = c; relation = r }

abbrev pub terms : Option (Tree × BinaryOperator) → Option (Tree × BinaryOperator) → Option (ℕ × UnaryOperator) → Terms
terms s q m = record { sum = s; product = q; lead = m }

record FactorRuns (ls : List Frame) (a : ℕ) (k : Tests) (s q : Option (Tree × BinaryOperator)) (ts us : List Token) (x : Tree) : Type 0 where
  m : Option (ℕ × UnaryOperator)
  p : Tree
  runs : run whole_trees (wants ls (frame a k (terms s q None))) ts ≡ run whole_trees (has ls (frame a k (terms s q m)) p) us
  holds : led_by whole_trees m p ≡ x

record ProductRuns (ls : List Frame) (a : ℕ) (k : Tests) (s : Option (Tree × BinaryOperator)) (ts us : List Token) (x : Tree) : Type 0 where
  q : Option (Tree × BinaryOperator)
  m : Option (ℕ × UnaryOperator)
  p : Tree
  runs : run whole_trees (wants ls (frame a k (terms s None None))) ts ≡ run whole_trees (has ls (frame a k (terms s q m)) p) us
  holds : joined_to whole_trees q (led_by whole_trees m p) ≡ x

record SumRuns (ls : List Frame) (a : ℕ) (k : Tests) (ts us : List Token) (x : Tree) : Type 0 where
  n : Terms
  p : Tree
  runs : run whole_trees (wants ls (frame a k no_terms)) ts ≡ run whole_trees (has ls (frame a k n) p) us
  holds : closed_terms whole_trees n p ≡ x

record RelationRuns (ls : List Frame) (a : ℕ) (d c : Option (Tree × BinaryOperator)) (ts us : List Token) (x : Tree) : Type 0 where
  r : Option (Tree × BinaryOperator)
  n : Terms
  p : Tree
  runs : run whole_trees (wants ls (frame a (tests d c None) no_terms)) ts ≡ run whole_trees (has ls (frame a (tests d c r) n) p) us
  holds : joined_to whole_trees r (closed_terms whole_trees n p) ≡ x

record ConjunctionRuns (ls : List Frame) (a : ℕ) (d : Option (Tree × BinaryOperator)) (ts us : List Token) (x : Tree) : Type 0 where
  c : Option (Tree × BinaryOperator)
  r : Option (Tree × BinaryOperator)
  n : Terms
  p : Tree
  runs : run whole_trees (wants ls (frame a (tests d None None) no_terms)) ts ≡ run whole_trees (has ls (frame a (tests d c r) n) p) us
  holds : joined_to whole_trees c (joined_to whole_trees r (closed_terms whole_trees n p)) ≡ x

record DisjunctionRuns (ls : List Frame) (a : ℕ) (ts us : List Token) (x : Tree) : Type 0 where
  k : Tests
  n : Terms
  p : Tree
  runs : run whole_trees (wants ls (frame a no_tests no_terms)) ts ≡ run whole_trees (has ls (frame a k n) p) us
  holds : closed_tests whole_trees k (closed_terms whole_trees n p) ≡ x

same_inside : {A : Type 0} (x y : A) → Some x ≡ Some y → x ≡ y
same_inside x y e = cc

-- The sign is a binary operator.

have_joins : (ls : List Frame) (l : Frame) (x : Tree) (level : Level) (o : BinaryOperator) (g : Sign) → between g ≡ Some (level, o)
    → have_turn whole_trees ls l x g ≡ join_turn whole_trees ls l x level o
have_joins ls l x level o (joins m p) e = ap (λ (z : Level × BinaryOperator). join_turn whole_trees ls l x z.0 z.1) (same_inside _ _ e)
have_joins ls l x level o (minus at) e = ap (λ (z : Level × BinaryOperator). join_turn whole_trees ls l x z.0 z.1) (same_inside _ _ e)
have_joins ls l x level o (leaf y) e = cc
have_joins ls l x level o (denies at) e = cc
have_joins ls l x level o (opens at) e = cc
have_joins ls l x level o closes e = cc
have_joins ls l x level o other e = cc

join_goes : (ls : List Frame) (l : Frame) (x : Tree) (level : Level) (o : BinaryOperator) (t : Token) (us : List Token)
    → between (sign t) ≡ Some (level, o) → bars level l ≡ false
    → run whole_trees (has ls l x) (t ∷ us) ≡ run whole_trees (wants ls (with_operator whole_trees level o l x)) us
unfolding turn
join_goes ls l x level o t us e free =
    run_goes whole_trees (has ls l x) (wants ls (with_operator whole_trees level o l x)) t us
    (have_joins ls l x level o (sign t) e ∙ ap (λ b. unless b (wants ls (with_operator whole_trees level o l x))) free)

-- The sign is a unary operator.

want_leads : (ls : List Frame) (l : Frame) (at : ℕ) (o : UnaryOperator) (g : Sign) → in_front g ≡ Some (at, o) → want_turn ls l g ≡ lead_turn ls l at o
want_leads ls l at o (minus p) e = ap (λ (z : ℕ × UnaryOperator). lead_turn ls l z.0 z.1) (same_inside _ _ e)
want_leads ls l at o (denies p) e = ap (λ (z : ℕ × UnaryOperator). lead_turn ls l z.0 z.1) (same_inside _ _ e)
want_leads ls l at o (joins m p) e = cc
want_leads ls l at o (leaf y) e = cc
want_leads ls l at o (opens p) e = cc
want_leads ls l at o closes e = cc
want_leads ls l at o other e = cc

lead_goes : (ls : List Frame) (l : Frame) (at : ℕ) (o : UnaryOperator) (t : Token) (us : List Token)
    → in_front (sign t) ≡ Some (at, o) → is_some l.terms.lead ≡ false
    → run whole_trees (wants ls l) (t ∷ us) ≡ run whole_trees (wants ls (with_lead at o l)) us
unfolding turn
lead_goes ls l at o t us e free =
    run_goes whole_trees (wants ls l) (wants ls (with_lead at o l)) t us
    (want_leads ls l at o (sign t) e ∙ ap (λ b. unless b (wants ls (with_lead at o l))) free)

turn_want : (ls : List Frame) (l : Frame) (t : Token) (g : Sign) → sign t ≡ g → turn whole_trees (wants ls l) (sign t) ≡ want_turn ls l g
unfolding turn
turn_want ls l t g e = ap (want_turn ls l) e

turn_have : (ls : List Frame) (l : Frame) (x : Tree) (t : Token) (g : Sign) → sign t ≡ g → turn whole_trees (has ls l x) (sign t) ≡ have_turn whole_trees ls l x g
unfolding turn
turn_have ls l x t g e = ap (have_turn whole_trees ls l x) e

mutual
  disjunction_runs : (ts : List Token) (x : Tree) (us : List Token) → Disjunction ts x us → (ls : List Frame) (a : ℕ) → DisjunctionRuns ls a ts us x
  disjunction_runs ts x us (one_conjunction _ _ _ h) ls a =
      let r = conjunction_runs ts x us h ls a None in
      record { k = tests None r.c r.r; n = r.n; p = r.p; runs = r.runs; holds = r.holds }
  disjunction_runs ts z vs (disjoined _ us _ x y t o h e i) ls a =
      let r = disjunction_runs ts x (t ∷ us) h ls a in
      let n = conjunction_runs us y vs i ls a (Some (x, o)) in
      record {
        k = tests (Some (x, o)) n.c n.r;
        n = n.n;
        p = n.p;
        runs = r.runs
            ∙ join_goes ls (frame a r.k r.n) r.p Disjunctions o t us e refl
            ∙ ap (λ w. run whole_trees (wants ls (frame a (tests (Some (w, o)) None None) no_terms)) us) r.holds
            ∙ n.runs;
        holds = ap (λ w. binary (place_of x) o x w) n.holds;
      }

  conjunction_runs : (ts : List Token) (x : Tree) (us : List Token) → Conjunction ts x us → (ls : List Frame) (a : ℕ) (d : Option (Tree × BinaryOperator)) → ConjunctionRuns ls a d ts us x
  conjunction_runs ts x us (one_relation _ _ _ h) ls a d =
      let r = relation_runs ts x us h ls a d None in
      record { c = None; r = r.r; n = r.n; p = r.p; runs = r.runs; holds = r.holds }
  conjunction_runs ts z vs (conjoined _ us _ x y t o h e i) ls a d =
      let r = conjunction_runs ts x (t ∷ us) h ls a d in
      let n = relation_runs us y vs i ls a d (Some (x, o)) in
      record {
        c = Some (x, o);
        r = n.r;
        n = n.n;
        p = n.p;
        runs = r.runs
            ∙ join_goes ls (frame a (tests d r.c r.r) r.n) r.p Conjunctions o t us e refl
            ∙ ap (λ w. run whole_trees (wants ls (frame a (tests d (Some (w, o)) None) no_terms)) us) r.holds
            ∙ n.runs;
        holds = ap (λ w. binary (place_of x) o x w) n.holds;
      }

  relation_runs : (ts : List Token) (x : Tree) (us : List Token) → Relation ts x us → (ls : List Frame) (a : ℕ) (d c : Option (Tree × BinaryOperator)) → RelationRuns ls a d c ts us x
  relation_runs ts x us (one_sum _ _ _ h) ls a d c =
      let r = sum_runs ts x us h ls a (tests d c None) in
      record { r = None; n = r.n; p = r.p; runs = r.runs; holds = r.holds }
  relation_runs ts z vs (related _ us _ x y t o h e i) ls a d c =
      let r = sum_runs ts x (t ∷ us) h ls a (tests d c None) in
      let n = sum_runs us y vs i ls a (tests d c (Some (x, o))) in
      record {
        r = Some (x, o);
        n = n.n;
        p = n.p;
        runs = r.runs
            ∙ join_goes ls (frame a (tests d c None) r.n) r.p Relations o t us e refl
            ∙ ap (λ w. run whole_trees (wants ls (frame a (tests d c (Some (w, o))) no_terms)) us) r.holds
            ∙ n.runs;
        holds = ap (λ w. binary (place_of x) o x w) n.holds;
      }

  sum_runs : (ts : List Token) (x : Tree) (us : List Token) → Sum ts x us → (ls : List Frame) (a : ℕ) (k : Tests) → SumRuns ls a k ts us x
  sum_runs ts x us (one_product _ _ _ h) ls a k =
      let r = product_runs ts x us h ls a k None in
      record { n = terms None r.q r.m; p = r.p; runs = r.runs; holds = r.holds }
  sum_runs ts z vs (summed _ us _ x y t o h e i) ls a k =
      let r = sum_runs ts x (t ∷ us) h ls a k in
      let n = product_runs us y vs i ls a k (Some (x, o)) in
      record {
        n = terms (Some (x, o)) n.q n.m;
        p = n.p;
        runs = r.runs
            ∙ join_goes ls (frame a k r.n) r.p Sums o t us e refl
            ∙ ap (λ w. run whole_trees (wants ls (frame a k (terms (Some (w, o)) None None))) us) r.holds
            ∙ n.runs;
        holds = ap (λ w. binary (place_of x) o x w) n.holds;
      }

  product_runs : (ts : List Token) (x : Tree) (us : List Token) → Product ts x us → (ls : List Frame) (a : ℕ) (k : Tests) (s : Option (Tree × BinaryOperator)) → ProductRuns ls a k s ts us x
  product_runs ts x us (one_factor _ _ _ h) ls a k s =
      let r = factor_runs ts x us h ls a k s None in
      record { q = None; m = r.m; p = r.p; runs = r.runs; holds = r.holds }
  product_runs ts z vs (multiplied _ us _ x y t o h e i) ls a k s =
      let r = product_runs ts x (t ∷ us) h ls a k s in
      let n = factor_runs us y vs i ls a k s (Some (x, o)) in
      record {
        q = Some (x, o);
        m = n.m;
        p = n.p;
        runs = r.runs
            ∙ join_goes ls (frame a k (terms s r.q r.m)) r.p Products o t us e refl
            ∙ ap (λ w. run whole_trees (wants ls (frame a k (terms s (Some (w, o)) None))) us) r.holds
            ∙ n.runs;
        holds = ap (λ w. binary (place_of x) o x w) n.holds;
      }

  factor_runs : (ts : List Token) (x : Tree) (us : List Token) → Factor ts x us → (ls : List Frame) (a : ℕ) (k : Tests) (s q : Option (Tree × BinaryOperator)) → FactorRuns ls a k s q ts us x
  factor_runs ts x us (bare _ _ _ h) ls a k s q = record { m = None; p = x; runs = primary_runs ts x us h ls (frame a k (terms s q None)); holds = refl }
  factor_runs ts z vs (led us _ x t at o e h) ls a k s q =
      let f = frame a k (terms s q None) in
      record {
        m = Some (at, o);
        p = x;
        runs = lead_goes ls f at o t us e refl ∙ primary_runs us x vs h ls (with_lead at o f);
        holds = refl;
      }

  primary_runs : (ts : List Token) (x : Tree) (us : List Token) → Primary ts x us → (ls : List Frame) (f : Frame)
      → run whole_trees (wants ls f) ts ≡ run whole_trees (has ls f x) us
  primary_runs ts x us (operand _ _ t e) ls f = run_goes whole_trees (wants ls f) (has ls f x) t us (turn_want ls f t (leaf x) e)
  primary_runs ts z vs (in_parentheses us _ x t u at e h i) ls f =
      let r = disjunction_runs us x (u ∷ vs) h (f ∷ ls) at in
      let g = frame at r.k r.n in
      run_goes whole_trees (wants ls f) (wants (f ∷ ls) (empty_frame at)) t us (turn_want ls f t (opens at) e)
      ∙ r.runs
      ∙ run_goes whole_trees (has (f ∷ ls) g r.p) (has ls f (placed at (closed whole_trees g r.p))) u vs (turn_have (f ∷ ls) g r.p u closes i)
      ∙ ap (λ w. run whole_trees (has ls f (placed at w)) vs) r.holds

have_done : (l : Frame) (x : Tree) (g : Sign) → is_some (between g) ≡ false → have_turn whole_trees [] l x g ≡ done (closed whole_trees l x)
have_done l x (joins level o) e = cc
have_done l x (minus at) e = cc
have_done l x closes e = refl
have_done l x (leaf y) e = refl
have_done l x (denies at) e = refl
have_done l x (opens at) e = refl
have_done l x other e = refl

run_ends : (l : Frame) (x : Tree) (us : List Token) → goes_on us ≡ false → run whole_trees (has [] l x) us ≡ read (closed whole_trees l x) us
unfolding run turn
run_ends l x [] e = refl
run_ends l x (u ∷ us) e = run_done whole_trees (has [] l x) (closed whole_trees l x) u us (have_done l x (sign u) e)

pub expression_complete : (ts : List Token) (x : Tree) (us : List Token) → Expressed ts x us → expression_at whole_trees ts ≡ read x us
unfolding expression_at
expression_complete ts x us e =
    let r = disjunction_runs ts x us e.reads [] 0 in
    r.runs ∙ run_ends (frame 0 r.k r.n) r.p us e.ends ∙ ap (λ z. read z us) r.holds
