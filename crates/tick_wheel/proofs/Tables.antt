-- Two tables of links, the lists that they make, and the effect of a change on these lists.
use Rattle.std.proofs.Common.{◌≡◌, ◌≢◌, ◌⊎◌, ℕ, zero, suc, ◌<◌, ◌≤◌, ◌+◌, true, false, not, cond, ◌||◌, List, [], ◌∷◌, ◌++◌, length, get_or, set, map, map-id, replicate, ltb, lt-ltb, le-ltb, refl, sym, ap, subst, ◌∙◌, inl, inr, arith, eqb, Some, None}
use Rattle.std.specs.List.{IsDistinct, AllByRecursion, slice_get, range_with_len}
use Rattle.std.proofs.lemmas.Bool.Decides.{nat_tests, eqb_tells, leb_tells}
use Rattle.std.proofs.lemmas.Bool.{true≢false, or_cases}
use Rattle.std.proofs.lemmas.List.{get_or-set_same, get_or-set_other, length-set, ext_get_or, length-map, get_or-map, get_or-replicate, length-replicate}
use Rattle.std.proofs.lemmas.Option.{same_Some}
use Rattle.std.proofs.lemmas.List.FromFn.{map-range_with_len_more, length-range_with_len, get_or-range_with_len, get_or-map-range_with_len, length-map-range_with_len}
use Rattle.std.proofs.lemmas.Map.Steps.{length-le_from_distinct_below}
use Rattle.std.proofs.Math.ListN.{get_or-eq_default}
use Rattle.std.proofs.Math.Bool.{or-true}
use Rattle.tick_wheel.specs.Sizes.{ITEMS, SLOTS, NODES}
use Rattle.tick_wheel.specs.Lists.{without}
use Rattle.tick_wheel.specs.Linked.{at, Chain, has, Linked, IsLinked, walk, list_of, lists_of, item_of, out_of, in_front, in_front_back}
use Rattle.tick_wheel.proofs.Chains.{led, unlinked, joined, joined_back, un-itself, chain-unlinked, unlinked-forth, unlinked-below, joined-forth, joined-back, joined-below, chain-apart, chain-joined}

-- ---- a walk along the links returns the list

item-small : (node : ℕ) → node < ITEMS → item_of node ≡ Some node
item-small node h = let t : ltb node ITEMS ≡ true = lt-ltb node ITEMS h in rw t refl

item-none : (node : ℕ) → ITEMS ≤ node → item_of node ≡ None
item-none node h = let t : ltb node ITEMS ≡ false = le-ltb node ITEMS h in rw t refl

front : (x : ℕ) (items : List ℕ) → has x (x ∷ items) ≡ true
front x items = let t : eqb x x ≡ true = grind (arith, nat_tests) in rw t refl

behind : (q x : ℕ) (items : List ℕ) → has q items ≡ true → has q (x ∷ items) ≡ true
behind q x items h = rw h (or-true (eqb q x))

walk-is : (next : ℕ → ℕ) (n from : ℕ) (items : List ℕ) (end : ℕ) → Chain next from items end → ((q : ℕ) → has q items ≡ true → q < ITEMS) → ITEMS ≤ end → length items ≤ n → walk next n (next from) ≡ items
unfolding walk
walk-is next zero from [] end c small e h = refl
walk-is next zero from (x ∷ items) end c small e h = absurd (omega arith)
walk-is next (suc n) from [] end c small e h =
    let t : ltb (next from) ITEMS ≡ false = le-ltb (next from) ITEMS (subst (λ q. ITEMS ≤ q) (sym c) e) in
    rw t refl
walk-is next (suc n) from (x ∷ items) end c small e h =
    let t : ltb x ITEMS ≡ true = lt-ltb x ITEMS (small x (front x items)) in
    ap (walk next (suc n)) c.0 ∙ rw t (ap (λ xs. x ∷ xs) (walk-is next n x items end c.1 (λ q m. small q (behind q x items m)) e (omega arith)))

list_of-is : (next previous : ℕ → ℕ) (lists : ℕ → List ℕ) → Linked next previous lists → (slot : ℕ) → slot < SLOTS → list_of next slot ≡ lists slot
unfolding list_of
list_of-is next previous lists l slot h =
    walk-is next ITEMS (ITEMS + slot) (lists slot) (ITEMS + slot) (l.chains slot h) (λ q. l.items slot q h) (omega arith)
    (length-le_from_distinct_below (lists slot) ITEMS (l.once slot h) (λ q. l.items slot q h))

same_lists : (next previous : ℕ → ℕ) (lists others : ℕ → List ℕ) → ((slot : ℕ) → slot < SLOTS → lists slot ≡ others slot) → Linked next previous lists → Linked next previous others
same_lists next previous lists others same l = record {
  forth = l.forth;
  back = l.back;
  nodes = l.nodes;
  chains = λ s h. subst (λ xs. Chain next (ITEMS + s) xs (ITEMS + s)) (same s h) (l.chains s h);
  items = λ s q h m. l.items s q h (ap (has q) (same s h) ∙ m);
  once = λ s h. subst (IsDistinct eqb) (same s h) (l.once s h);
  apart = λ s o q h g m n. l.apart s o q h g (ap (has q) (same s h) ∙ m) (ap (has q) (same o g) ∙ n);
}

-- ---- lists without an item

pub has-without : (q item : ℕ) (items : List ℕ) → has q (without item items) ≡ true → has q items ≡ true
has-without q item [] h = h
has-without q item (x ∷ items) h = elim (eqb item x) as (λ t. has q (cond (not t) (x ∷ without item items) (without item items)) ≡ true → has q (x ∷ items) ≡ true) [
  | true ↦ λ m. behind q x items (has-without q item items m)
  | false ↦ λ m. elim (or_cases (eqb q x) (has q (without item items)) m) [
    | inl here ↦ rw here refl
    | inr later ↦ behind q x items (has-without q item items later)
  ]
] h

pub without-gone : (item : ℕ) (items : List ℕ) → has item (without item items) ≡ false
without-gone item [] = refl
without-gone item (x ∷ items) = elim (eqb item x) as (λ t. eqb item x ≡ t → has item (cond (not t) (x ∷ without item items) (without item items)) ≡ false) [
  | true ↦ λ _. without-gone item items
  | false ↦ λ e. rw e (without-gone item items)
] refl

apart-without : (x item : ℕ) (items : List ℕ) → AllByRecursion (λ y. eqb x y ≡ false) items → AllByRecursion (λ y. eqb x y ≡ false) (without item items)
apart-without x item [] h = tt
apart-without x item (y ∷ items) h = elim (eqb item y) as (λ t. AllByRecursion (λ y. eqb x y ≡ false) (cond (not t) (y ∷ without item items) (without item items))) [
  | true ↦ apart-without x item items h.1
  | false ↦ (h.0, apart-without x item items h.1)
]

pub distinct-without : (item : ℕ) (items : List ℕ) → IsDistinct eqb items → IsDistinct eqb (without item items)
unfolding IsDistinct
distinct-without item [] h = tt
distinct-without item (x ∷ items) h = elim (eqb item x) as (λ t. IsDistinct eqb (cond (not t) (x ∷ without item items) (without item items))) [
  | true ↦ distinct-without item items h.1
  | false ↦ (apart-without x item items h.0, distinct-without item items h.1)
]

apart-absent : (x : ℕ) (items : List ℕ) → has x items ≡ false → AllByRecursion (λ y. eqb x y ≡ false) items
apart-absent x [] h = tt
apart-absent x (y ∷ items) h = elim (eqb x y) as (λ t. eqb x y ≡ t → AllByRecursion (λ y. eqb x y ≡ false) (y ∷ items)) [
  | true ↦ λ e. absurd (true≢false (ap (λ b. b || has x items) (sym e) ∙ h))
  | false ↦ λ e. (e, apart-absent x items (ap (λ b. b || has x items) (sym e) ∙ h))
] refl

pub distinct-more : (x : ℕ) (items : List ℕ) → has x items ≡ false → IsDistinct eqb items → IsDistinct eqb (x ∷ items)
unfolding IsDistinct
distinct-more x items h d = (apart-absent x items h, d)

-- ---- the links keep their invariant

pub Linked-unlinked : (next previous : ℕ → ℕ) (lists : ℕ → List ℕ) (item : ℕ) → item < ITEMS → Linked next previous lists → Linked (unlinked next previous item) (unlinked previous next item) (λ s. without item (lists s))
Linked-unlinked next previous lists item small l = record {
  forth = unlinked-forth next previous l.forth l.back item;
  back = unlinked-forth previous next l.back l.forth item;
  nodes = λ q h. (unlinked-below next previous l.forth l.back item NODES q (omega arith) l.nodes h, unlinked-below previous next l.back l.forth item NODES q (omega arith) (λ r g. ((l.nodes r g).1, (l.nodes r g).0)) h);
  chains = λ s h. (let off : ITEMS + s ≢ item = λ e. absurd (omega (arith, e)) in
      chain-unlinked next previous l.forth l.back item (ITEMS + s) (lists s) (ITEMS + s) off off (l.chains s h));
  items = λ s q h m. l.items s q h (has-without q item (lists s) m);
  once = λ s h. distinct-without item (lists s) (l.once s h);
  apart = λ s o q h g m n. l.apart s o q h g (has-without q item (lists s) m) (has-without q item (lists o) n);
}

-- the lists with one more item at the front of one
abbrev pub more : (ℕ → List ℕ) → ℕ → ℕ → ℕ → List ℕ
more lists slot item s = cond (eqb s slot) (item ∷ lists s) (lists s)

absent_node : (next previous : ℕ → ℕ) (lists : ℕ → List ℕ) → Linked next previous lists → (slot s : ℕ) → s < SLOTS → has (ITEMS + slot) (lists s) ≡ false
absent_node next previous lists l slot s h = elim (has (ITEMS + slot) (lists s)) as (λ t. has (ITEMS + slot) (lists s) ≡ t → t ≡ false) [
  | true ↦ λ e. absurd (omega (arith, l.items s (ITEMS + slot) h e))
  | false ↦ λ _. refl
] refl

in_more : (lists : ℕ → List ℕ) (slot item s q : ℕ) → has q (more lists slot item s) ≡ true → ((q ≡ item) × (s ≡ slot)) ⊎ (has q (lists s) ≡ true)
in_more lists slot item s q h = elim (eqb_tells s slot) [
  | inl is ↦ (let t : has q (item ∷ lists s) ≡ true = rw is.0 at h in
      elim (eqb_tells q item) [
        | inl own ↦ inl (own.1, is.1)
        | inr off ↦ inr (rw off.0 at t)
      ])
  | inr off ↦ inr (rw off.0 at h)
]

pub Linked-joined : (next previous : ℕ → ℕ) (lists : ℕ → List ℕ) (slot item : ℕ) → slot < SLOTS → item < ITEMS → next item ≡ item → ((s : ℕ) → s < SLOTS → has item (lists s) ≡ false) → Linked next previous lists
    → Linked (joined next (ITEMS + slot) item) (joined_back previous (ITEMS + slot) item (next (ITEMS + slot))) (more lists slot item)
Linked-joined next previous lists slot item within small alone absent l =
    let node = ITEMS + slot in
    let off : ITEMS + slot ≢ item = λ e. absurd (omega (arith, e)) in
    record {
      forth = joined-forth next previous l.forth l.back node item off alone;
      back = joined-back next previous l.forth l.back node item off alone;
      nodes = λ q h. joined-below next previous l.forth l.back node item off alone NODES q (omega arith) (omega arith) l.nodes h;
      chains = λ s h. elim (eqb_tells s slot) [
        | inl is ↦ rw is.0 (subst (λ e. Chain (joined next node item) e (item ∷ lists s) e) (omega (arith, is.1)) (chain-joined next previous l.forth l.back node item off alone (lists s) node (absent_node next previous lists l slot s h) (absent s h) (subst (λ e. Chain next e (lists s) e) (omega (arith, is.1)) (l.chains s h))))
        | inr other ↦ rw other.0 (chain-apart next previous l.forth l.back node item off alone (ITEMS + s) (lists s) (ITEMS + s) (λ e. other.1 (omega (arith, e))) (λ e. absurd (omega (arith, e))) (absent_node next previous lists l slot s h) (absent s h) (l.chains s h))
      ];
      items = λ s q h m. elim (in_more lists slot item s q m) [
        | inl own ↦ omega (arith, own.0)
        | inr had ↦ l.items s q h had
      ];
      once = λ s h. elim (eqb s slot) as (λ t. IsDistinct eqb (cond t (item ∷ lists s) (lists s))) [
        | true ↦ distinct-more item (lists s) (absent s h) (l.once s h)
        | false ↦ l.once s h
      ];
      apart = λ s o q h g m n. elim (in_more lists slot item s q m) [
        | inl own ↦ elim (in_more lists slot item o q n) [
          | inl same ↦ own.1 ∙ sym same.1
          | inr had ↦ absurd (true≢false (sym had ∙ ap (λ x. has x (lists o)) own.0 ∙ absent o g))
        ]
        | inr here ↦ elim (in_more lists slot item o q n) [
          | inl own ↦ absurd (true≢false (sym here ∙ ap (λ x. has x (lists s)) own.0 ∙ absent s h))
          | inr there ↦ l.apart s o q h g here there
        ]
      ];
    }

-- ---- tables

at-set : (links : List ℕ) (node to q : ℕ) → node < length links → at (set links node to) q ≡ led (at links) node to q
at-set links node to q h = elim (eqb_tells node q) [
  | inl is ↦ rw is.0 (ap (λ x. get_or (set links node to) x q) (sym is.1) ∙ get_or-set_same links node to q h)
  | inr off ↦ rw off.0 (get_or-set_other links node q to q (λ e. off.1 (sym e)))
]

at-twice : (links : List ℕ) (a b c d : ℕ) → a < length links → c < length links → at (set (set links a b) c d) ≡ led (led (at links) a b) c d
at-twice links a b c d h g = λ i q. (at-set (set links a b) c d q (omega (arith, length-set links a b)) ∙ ap (λ x. cond (eqb c q) d x) (at-set links a b q h)) i

lists_of-at : (next : ℕ → ℕ) (slot : ℕ) → slot < SLOTS → get_or (lists_of next) slot [] ≡ list_of next slot
unfolding lists_of
lists_of-at next slot h = get_or-map-range_with_len (list_of next) 0 SLOTS slot slot [] h (omega arith)

lists_of-length : (next : ℕ → ℕ) → length (lists_of next) ≡ SLOTS
unfolding lists_of
lists_of-length next = length-map-range_with_len (list_of next) 0 SLOTS

lists_of-is : (next : ℕ → ℕ) (lists : List (List ℕ)) → length lists ≡ SLOTS → ((slot : ℕ) → slot < SLOTS → list_of next slot ≡ get_or lists slot []) → lists_of next ≡ lists
lists_of-is next lists len h = ext_get_or [] (lists_of next) lists (lists_of-length next ∙ sym len) (λ s g. let low : s < SLOTS = omega (arith, g, lists_of-length next) in lists_of-at next s low ∙ h s low)

-- two tables make the lists that their links make
made : (next previous : List ℕ) (n p : ℕ → ℕ) (lists : ℕ → List ℕ) → length next ≡ NODES → length previous ≡ NODES → at next ≡ n → at previous ≡ p → Linked n p lists → IsLinked next previous
made next previous n p lists a b e f l =
    let own = same_lists n p lists (list_of n) (λ s h. sym (list_of-is n p lists l s h)) l in
    record {
      lengths = (a, b);
      linked = subst (λ m. Linked m (at previous) (list_of m)) (sym e) (subst (λ q. Linked n q (list_of n)) (sym f) own);
    }

made-lists : (next : List ℕ) (n p : ℕ → ℕ) (lists : ℕ → List ℕ) → at next ≡ n → Linked n p lists → (slot : ℕ) → slot < SLOTS → list_of (at next) slot ≡ lists slot
made-lists next n p lists e l s h = ap (λ m. list_of m s) e ∙ list_of-is n p lists l s h

-- ---- a table in which each node links to itself

pub range-more : (n : ℕ) → range_with_len 0 (n + 1) ≡ range_with_len 0 n ++ n ∷ []
range-more n = sym (map-id _) ∙ map-range_with_len_more (λ x. x) 0 n n (omega arith) ∙ ap (λ xs. xs ++ n ∷ []) (map-id _)

at-range : (n q : ℕ) → at (range_with_len 0 n) q ≡ q
at-range n q = elim (leb_tells n q) [
  | inl out ↦ get_or-eq_default (range_with_len 0 n) q (omega (arith, out.1, length-range_with_len 0 n))
  | inr within ↦ get_or-range_with_len 0 n q q within.1 ∙ omega arith
]

Linked-none : Linked (λ q. q) (λ q. q) (λ _. [])
unfolding IsDistinct
Linked-none = record {
  forth = λ _. refl;
  back = λ _. refl;
  nodes = λ _ h. (h, h);
  chains = λ _ _. refl;
  items = λ _ _ _ m. absurd (true≢false (sym m));
  once = λ _ _. tt;
  apart = λ _ _ _ _ _ m _. absurd (true≢false (sym m));
}

pub IsLinked-range : (next previous : List ℕ) → next ≡ range_with_len 0 NODES → previous ≡ range_with_len 0 NODES → IsLinked next previous
IsLinked-range next previous e f =
    made next previous (λ q. q) (λ q. q) (λ _. [])
    (ap length e ∙ length-range_with_len 0 NODES) (ap length f ∙ length-range_with_len 0 NODES)
    (ap at e ∙ (λ i q. at-range NODES q i)) (ap at f ∙ (λ i q. at-range NODES q i)) Linked-none

pub lists_of-range : (next : List ℕ) → next ≡ range_with_len 0 NODES → lists_of (at next) ≡ replicate SLOTS []
lists_of-range next e = lists_of-is (at next) (replicate SLOTS []) (length-replicate {A = List ℕ} SLOTS []) (λ s h.
    made-lists next (λ q. q) (λ q. q) (λ _. []) (ap at e ∙ (λ i q. at-range NODES q i)) Linked-none s h ∙ sym (get_or-replicate SLOTS s [] [] h))

-- ---- an item is removed

module _ (next previous : List ℕ) (item : ℕ) (small : item < ITEMS) (l : IsLinked next previous) where
  before_in : at previous item < NODES
  before_in = (l.linked.nodes item (omega arith)).1

  behind_in : at next item < NODES
  behind_in = (l.linked.nodes item (omega arith)).0

  out-at : at (out_of next previous item) ≡ unlinked (at next) (at previous) item
  out-at = at-twice next (at previous item) (at next item) item item (omega (arith, before_in, l.lengths.0)) (omega (arith, l.lengths.0))

  out-at_back : at (out_of previous next item) ≡ unlinked (at previous) (at next) item
  out-at_back = at-twice previous (at next item) (at previous item) item item (omega (arith, behind_in, l.lengths.1)) (omega (arith, l.lengths.1))

  out-length : length (out_of next previous item) ≡ NODES
  out-length = length-set (set next (at previous item) (at next item)) item item ∙ length-set next (at previous item) (at next item) ∙ l.lengths.0

  out-length_back : length (out_of previous next item) ≡ NODES
  out-length_back = length-set (set previous (at next item) (at previous item)) item item ∙ length-set previous (at next item) (at previous item) ∙ l.lengths.1

  out-linked : Linked (unlinked (at next) (at previous) item) (unlinked (at previous) (at next) item) (λ s. without item (list_of (at next) s))
  out-linked = Linked-unlinked (at next) (at previous) (list_of (at next)) item small l.linked

  pub IsLinked-out : IsLinked (out_of next previous item) (out_of previous next item)
  IsLinked-out = made _ _ _ _ _ out-length out-length_back out-at out-at_back out-linked

  pub out-lists : lists_of (at (out_of next previous item)) ≡ map (without item) (lists_of (at next))
  out-lists = lists_of-is _ (map (without item) (lists_of (at next))) (length-map (lists_of (at next)) (without item) ∙ lists_of-length (at next)) (λ s h.
      made-lists _ _ _ _ out-at out-linked s h ∙ ap (without item) (sym (lists_of-at (at next) s h))
      ∙ sym (get_or-map (without item) (lists_of (at next)) s [] [] (omega (arith, h, lists_of-length (at next)))))

-- ---- an item is inserted at the front of a list

module _ (next previous : List ℕ) (slot item : ℕ) (within : slot < SLOTS) (small : item < ITEMS) (l : IsLinked next previous) (alone : at next item ≡ item) (absent : (s : ℕ) → s < SLOTS → has item (list_of (at next) s) ≡ false) where
  node_in : ITEMS + slot < NODES
  node_in = omega arith

  next_in : at next (ITEMS + slot) < NODES
  next_in = (l.linked.nodes (ITEMS + slot) node_in).0

  in-at : at (in_front next (ITEMS + slot) item) ≡ joined (at next) (ITEMS + slot) item
  in-at = at-twice next item (at next (ITEMS + slot)) (ITEMS + slot) item (omega (arith, l.lengths.0)) (omega (arith, node_in, l.lengths.0))

  in-at_back : at (in_front_back next previous (ITEMS + slot) item) ≡ joined_back (at previous) (ITEMS + slot) item (at next (ITEMS + slot))
  in-at_back = at-twice previous item (ITEMS + slot) (at next (ITEMS + slot)) item (omega (arith, l.lengths.1)) (omega (arith, next_in, l.lengths.1))

  in-length : length (in_front next (ITEMS + slot) item) ≡ NODES
  in-length = length-set (set next item (at next (ITEMS + slot))) (ITEMS + slot) item ∙ length-set next item (at next (ITEMS + slot)) ∙ l.lengths.0

  in-length_back : length (in_front_back next previous (ITEMS + slot) item) ≡ NODES
  in-length_back = length-set (set previous item (ITEMS + slot)) (at next (ITEMS + slot)) item ∙ length-set previous item (ITEMS + slot) ∙ l.lengths.1

  in-linked : Linked (joined (at next) (ITEMS + slot) item) (joined_back (at previous) (ITEMS + slot) item (at next (ITEMS + slot))) (more (list_of (at next)) slot item)
  in-linked = Linked-joined (at next) (at previous) (list_of (at next)) slot item within small alone absent l.linked

  pub IsLinked-in : IsLinked (in_front next (ITEMS + slot) item) (in_front_back next previous (ITEMS + slot) item)
  IsLinked-in = made _ _ _ _ _ in-length in-length_back in-at in-at_back in-linked

  pub in-lists : lists_of (at (in_front next (ITEMS + slot) item)) ≡ set (lists_of (at next)) slot (item ∷ get_or (lists_of (at next)) slot [])
  in-lists =
      let old = lists_of (at next) in
      lists_of-is _ (set old slot (item ∷ get_or old slot [])) (length-set old slot (item ∷ get_or old slot []) ∙ lists_of-length (at next)) (λ s h.
      made-lists _ _ _ _ in-at in-linked s h ∙ elim (eqb_tells s slot) [
        | inl is ↦ rw is.0 (ap (λ xs. item ∷ xs) (ap (list_of (at next)) is.1 ∙ sym (lists_of-at (at next) slot within)) ∙ sym (get_or-set_same old slot (item ∷ get_or old slot []) [] (omega (arith, within, lists_of-length (at next)))) ∙ ap (λ x. get_or (set old slot (item ∷ get_or old slot [])) x []) (sym is.1))
        | inr other ↦ rw other.0 (sym (lists_of-at (at next) s h) ∙ sym (get_or-set_other old slot s (item ∷ get_or old slot []) [] other.1))
      ])

-- a removed item links only to itself, and is in no list
module _ (next previous : List ℕ) (item : ℕ) (small : item < ITEMS) (l : IsLinked next previous) where
  pub out-alone : at (out_of next previous item) item ≡ item
  out-alone = ap (λ f. f item) (out-at next previous item small l) ∙ un-itself (at next) (at previous) l.linked.forth l.linked.back item

  pub out-absent : (s : ℕ) → s < SLOTS → has item (list_of (at (out_of next previous item)) s) ≡ false
  out-absent s h = ap (has item) (made-lists _ _ _ _ (out-at next previous item small l) (out-linked next previous item small l) s h) ∙ without-gone item (list_of (at next) s)

-- ---- the next item

chain-place : (next : ℕ → ℕ) (from : ℕ) (items : List ℕ) (end k x : ℕ) → Chain next from items end → ((q : ℕ) → has q items ≡ true → q < ITEMS) → ITEMS ≤ end → slice_get items k ≡ Some x → slice_get items (suc k) ≡ item_of (next x)
chain-place next from [] end k x c small e h = cc
chain-place next from (y ∷ []) end zero x c small e h = let same : y ≡ x = same_Some y x h in sym (ap (λ q. item_of (next q)) (sym same) ∙ ap item_of c.1 ∙ item-none end e)
chain-place next from (y ∷ z ∷ items) end zero x c small e h =
    let same : y ≡ x = same_Some y x h in
    sym (ap (λ q. item_of (next q)) (sym same) ∙ ap item_of c.1.0 ∙ item-small z (small z (behind z y (z ∷ items) (front z items))))
chain-place next from (y ∷ items) end (suc k) x c small e h = chain-place next y items end k x c.1 (λ q m. small q (behind q y items m)) e h

chain-front : (next : ℕ → ℕ) (from : ℕ) (items : List ℕ) (end : ℕ) → Chain next from items end → ((q : ℕ) → has q items ≡ true → q < ITEMS) → ITEMS ≤ end → slice_get items 0 ≡ item_of (next from)
chain-front next from [] end c small e = sym (ap item_of c ∙ item-none end e)
chain-front next from (y ∷ items) end c small e = sym (ap item_of c.0 ∙ item-small y (small y (front y items)))

module _ (next previous : List ℕ) (l : IsLinked next previous) where
  pub first-is : (slot : ℕ) → slot < SLOTS → slice_get (get_or (lists_of (at next)) slot []) 0 ≡ item_of (at next (ITEMS + slot))
  first-is s h = ap (λ xs. slice_get xs 0) (lists_of-at (at next) s h) ∙ chain-front (at next) (ITEMS + s) (list_of (at next) s) (ITEMS + s) (l.linked.chains s h) (λ q. l.linked.items s q h) (omega arith)

  pub after-is : (slot place x : ℕ) → slice_get (get_or (lists_of (at next)) slot []) place ≡ Some x → item_of (at next x) ≡ slice_get (get_or (lists_of (at next)) slot []) (place + 1)
  after-is s k x g = elim (leb_tells SLOTS s) [
    | inl out ↦ (let none = get_or-eq_default (lists_of (at next)) [] {n = s} (omega (arith, out.1, lists_of-length (at next))) in
        let never : None ≡ Some x = ap (λ xs. slice_get xs k) (sym none) ∙ g in cc)
    | inr within ↦ (let at_slot = lists_of-at (at next) s within.1 in
        sym (ap (λ xs. slice_get xs (k + 1)) at_slot
        ∙ ap (slice_get (list_of (at next) s)) (omega arith)
        ∙ chain-place (at next) (ITEMS + s) (list_of (at next) s) (ITEMS + s) k x (l.linked.chains s within.1) (λ q. l.linked.items s q within.1) (omega arith) (ap (λ xs. slice_get xs k) (sym at_slot) ∙ g)))
  ]

-- ---- removal and then insertion

module _ (next previous : List ℕ) (slot item : ℕ) (within : slot < SLOTS) (small : item < ITEMS) (l : IsLinked next previous) where
  pub IsLinked-put : IsLinked (in_front (out_of next previous item) (ITEMS + slot) item) (in_front_back (out_of next previous item) (out_of previous next item) (ITEMS + slot) item)
  IsLinked-put = IsLinked-in (out_of next previous item) (out_of previous next item) slot item within small (IsLinked-out next previous item small l) (out-alone next previous item small l) (out-absent next previous item small l)

  pub put-lists : lists_of (at (in_front (out_of next previous item) (ITEMS + slot) item)) ≡ set (map (without item) (lists_of (at next))) slot (item ∷ without item (get_or (lists_of (at next)) slot []))
  put-lists =
      in-lists (out_of next previous item) (out_of previous next item) slot item within small (IsLinked-out next previous item small l) (out-alone next previous item small l) (out-absent next previous item small l)
      ∙ ap (λ ls. set ls slot (item ∷ get_or ls slot [])) (out-lists next previous item small l)
      ∙ ap (λ xs. set (map (without item) (lists_of (at next))) slot (item ∷ xs)) (get_or-map (without item) (lists_of (at next)) slot [] [] (omega (arith, within, lists_of-length (at next))))
