-- The lists after an item is removed, and after one is inserted at the front.
use Rattle.std.proofs.Common.{◌≡◌, ◌≢◌, ℕ, ◌<◌, true, false, cond, List, [], ◌∷◌, refl, sym, ap, subst, ◌∙◌, inl, inr, arith, ◌==◌, eqb}
use Rattle.std.proofs.lemmas.Bool.Decides.{nat_tests, eqb_tells}
use Rattle.std.proofs.lemmas.Bool.{true≢false}
use Rattle.tick_wheel.specs.Lists.{without}
use Rattle.tick_wheel.specs.Linked.{Chain, has}

-- links of which one is changed
abbrev pub led : (ℕ → ℕ) → ℕ → ℕ → ℕ → ℕ
led next node to q = cond (node == q) to (next q)

pub led-there : (next : ℕ → ℕ) (node to q : ℕ) → node ≡ q → led next node to q ≡ to
led-there next node to q e = let t : eqb node q ≡ true = grind (arith, nat_tests) in ap (λ b. cond b to (next q)) t

pub led-other : (next : ℕ → ℕ) (node to q : ℕ) → node ≢ q → led next node to q ≡ next q
led-other next node to q e = let t : eqb node q ≡ false = grind (arith, nat_tests) in ap (λ b. cond b to (next q)) t

-- the links after an item is removed, which then links only to itself
abbrev pub unlinked : (ℕ → ℕ) → (ℕ → ℕ) → ℕ → ℕ → ℕ
unlinked next previous item = led (led next (previous item) (next item)) item item

-- ---- removal

module _ (next previous : ℕ → ℕ) (forth : (q : ℕ) → previous (next q) ≡ q) (back : (q : ℕ) → next (previous q) ≡ q) (item : ℕ) where
  un-far : (q : ℕ) → q ≢ item → next q ≢ item → unlinked next previous item q ≡ next q
  un-far q off away = led-other (led next (previous item) (next item)) item item q (λ e. off (sym e)) ∙ led-other next (previous item) (next item) q (λ e. away (ap next (sym e) ∙ back item))

  un-before : (q : ℕ) → q ≢ item → next q ≡ item → unlinked next previous item q ≡ next item
  un-before q off e = led-other (led next (previous item) (next item)) item item q (λ s. off (sym s)) ∙ led-there next (previous item) (next item) q (ap previous (sym e) ∙ forth q)

  pub un-itself : unlinked next previous item item ≡ item
  un-itself = led-there (led next (previous item) (next item)) item item item refl

  pub chain-unlinked : (from : ℕ) (items : List ℕ) (end : ℕ) → from ≢ item → end ≢ item → Chain next from items end → Chain (unlinked next previous item) from (without item items) end
  chain-unlinked from [] end f e c = un-far from f (λ s. e (sym c ∙ s)) ∙ c
  chain-unlinked from (x ∷ []) end f e c = elim (eqb_tells item x) [
    | inl is ↦ rw is.0 (un-before from f (c.0 ∙ sym is.1) ∙ ap next is.1 ∙ c.1)
    | inr off ↦ rw off.0 (un-far from f (λ s. off.1 (sym s ∙ c.0)) ∙ c.0, un-far x (λ s. off.1 (sym s)) (λ s. e (sym c.1 ∙ s)) ∙ c.1)
  ]
  chain-unlinked from (x ∷ y ∷ items) end f e c = elim (eqb_tells item x) [
    | inl is ↦
        (let later : y ≢ item = λ s. f (sym (forth from) ∙ ap previous (c.0 ∙ sym is.1 ∙ sym s ∙ sym c.1.0) ∙ forth x ∙ sym is.1) in
        let off : eqb item y ≡ false = grind (arith, nat_tests) in
        let rest = chain-unlinked y items end later e c.1.1 in
        rw (is.0, off) (un-before from f (c.0 ∙ sym is.1) ∙ ap next is.1 ∙ c.1.0, rest))
    | inr off ↦ rw off.0 (un-far from f (λ s. off.1 (sym s ∙ c.0)) ∙ c.0, chain-unlinked x (y ∷ items) end (λ s. off.1 (sym s)) e c.1)
  ]

  -- the two links still undo each other
  pub unlinked-forth : (q : ℕ) → unlinked previous next item (unlinked next previous item q) ≡ q
  unlinked-forth q = elim (eqb_tells q item) [
    | inl is ↦ ap (λ x. unlinked previous next item (unlinked next previous item x)) is.1 ∙ ap (unlinked previous next item) un-itself ∙ led-there (led previous (next item) (previous item)) item item item refl ∙ sym is.1
    | inr off ↦ elim (eqb_tells (next q) item) [
      | inl front ↦ (let itself : next item ≢ item = λ s. off.1 (sym (forth q) ∙ ap previous (front.1 ∙ sym s) ∙ forth item) in
          ap (unlinked previous next item) (un-before q off.1 front.1)
          ∙ led-other (led previous (next item) (previous item)) item item (next item) (λ s. itself (sym s))
          ∙ led-there previous (next item) (previous item) (next item) refl
          ∙ ap previous (sym front.1) ∙ forth q)
      | inr far ↦
          ap (unlinked previous next item) (un-far q off.1 far.1)
          ∙ led-other (led previous (next item) (previous item)) item item (next q) (λ s. far.1 (sym s))
          ∙ led-other previous (next item) (previous item) (next q) (λ s. off.1 (sym (forth q) ∙ ap previous (sym s) ∙ forth item))
          ∙ forth q
    ]
  ]

  pub unlinked-below : (n q : ℕ) → item < n → ((q : ℕ) → q < n → (next q < n) × (previous q < n)) → q < n → unlinked next previous item q < n
  unlinked-below n q i within h = elim (eqb_tells q item) [
    | inl is ↦ subst (λ x. x < n) (sym (ap (unlinked next previous item) is.1 ∙ un-itself)) i
    | inr off ↦ elim (eqb_tells (next q) item) [
      | inl front ↦ subst (λ x. x < n) (sym (un-before q off.1 front.1)) (within item i).0
      | inr far ↦ subst (λ x. x < n) (sym (un-far q off.1 far.1)) (within q h).0
    ]
  ]

-- ---- insertion

-- the links after an item that links only to itself is inserted after a node
abbrev pub joined : (ℕ → ℕ) → ℕ → ℕ → ℕ → ℕ
joined next node item = led (led next item (next node)) node item

abbrev pub joined_back : (ℕ → ℕ) → ℕ → ℕ → ℕ → ℕ → ℕ
joined_back previous node item behind = led (led previous item node) behind item

module _ (next previous : ℕ → ℕ) (forth : (q : ℕ) → previous (next q) ≡ q) (back : (q : ℕ) → next (previous q) ≡ q) (node item : ℕ) (apart : node ≢ item) (alone : next item ≡ item) where
  in-node : joined next node item node ≡ item
  in-node = led-there (led next item (next node)) node item node refl

  in-item : joined next node item item ≡ next node
  in-item = led-other (led next item (next node)) node item item apart ∙ led-there next item (next node) item refl

  in-other : (q : ℕ) → node ≢ q → item ≢ q → joined next node item q ≡ next q
  in-other q a b = led-other (led next item (next node)) node item q a ∙ led-other next item (next node) q b

  alone_back : previous item ≡ item
  alone_back = ap previous (sym alone) ∙ forth item

  behind_off : next node ≢ item
  behind_off s = apart (sym (forth node) ∙ ap previous s ∙ alone_back)

  back-behind : joined_back previous node item (next node) (next node) ≡ item
  back-behind = led-there (led previous item node) (next node) item (next node) refl

  back-item : joined_back previous node item (next node) item ≡ node
  back-item = led-other (led previous item node) (next node) item item behind_off ∙ led-there previous item node item refl

  back-other : (q : ℕ) → next node ≢ q → item ≢ q → joined_back previous node item (next node) q ≡ previous q
  back-other q a b = led-other (led previous item node) (next node) item q a ∙ led-other previous item node q b

  pub joined-forth : (q : ℕ) → joined_back previous node item (next node) (joined next node item q) ≡ q
  joined-forth q = elim (eqb_tells node q) [
    | inl is ↦ ap (λ x. joined_back previous node item (next node) (joined next node item x)) (sym is.1) ∙ ap (joined_back previous node item (next node)) in-node ∙ back-item ∙ is.1
    | inr off ↦ elim (eqb_tells item q) [
      | inl own ↦ ap (λ x. joined_back previous node item (next node) (joined next node item x)) (sym own.1) ∙ ap (joined_back previous node item (next node)) in-item ∙ back-behind ∙ own.1
      | inr far ↦ ap (joined_back previous node item (next node)) (in-other q off.1 far.1)
          ∙ back-other (next q) (λ s. off.1 (sym (forth node) ∙ ap previous s ∙ forth q)) (λ s. far.1 (sym alone_back ∙ ap previous s ∙ forth q))
          ∙ forth q
    ]
  ]

  pub joined-back : (q : ℕ) → joined next node item (joined_back previous node item (next node) q) ≡ q
  joined-back q = elim (eqb_tells (next node) q) [
    | inl is ↦ ap (λ x. joined next node item (joined_back previous node item (next node) x)) (sym is.1) ∙ ap (joined next node item) back-behind ∙ in-item ∙ is.1
    | inr off ↦ elim (eqb_tells item q) [
      | inl own ↦ ap (λ x. joined next node item (joined_back previous node item (next node) x)) (sym own.1) ∙ ap (joined next node item) back-item ∙ in-node ∙ own.1
      | inr far ↦ ap (joined next node item) (back-other q off.1 far.1)
          ∙ in-other (previous q) (λ s. off.1 (ap next s ∙ back q)) (λ s. far.1 (sym alone ∙ ap next s ∙ back q))
          ∙ back q
    ]
  ]

  pub joined-below : (n q : ℕ) → node < n → item < n → ((q : ℕ) → q < n → (next q < n) × (previous q < n)) → q < n → (joined next node item q < n) × (joined_back previous node item (next node) q < n)
  joined-below n q a b within h = (
    elim (eqb_tells node q) [
      | inl is ↦ subst (λ x. x < n) (sym in-node ∙ ap (joined next node item) is.1) b
      | inr off ↦ elim (eqb_tells item q) [
        | inl own ↦ subst (λ x. x < n) (sym in-item ∙ ap (joined next node item) own.1) (within node a).0
        | inr far ↦ subst (λ x. x < n) (sym (in-other q off.1 far.1)) (within q h).0
      ]
    ],
    elim (eqb_tells (next node) q) [
      | inl is ↦ subst (λ x. x < n) (sym back-behind ∙ ap (joined_back previous node item (next node)) is.1) b
      | inr off ↦ elim (eqb_tells item q) [
        | inl own ↦ subst (λ x. x < n) (sym back-item ∙ ap (joined_back previous node item (next node)) own.1) a
        | inr far ↦ subst (λ x. x < n) (sym (back-other q off.1 far.1)) (within q h).1
      ]
    ],
  )

  -- a chain that contains neither the node nor the item
  pub chain-apart : (from : ℕ) (items : List ℕ) (end : ℕ) → node ≢ from → item ≢ from → has node items ≡ false → has item items ≡ false → Chain next from items end → Chain (joined next node item) from items end
  chain-apart from [] end a b m n c = in-other from a b ∙ c
  chain-apart from (x ∷ items) end a b m n c = elim (eqb_tells node x) [
    | inl is ↦ (let at_front : has node (x ∷ items) ≡ true = rw is.0 refl in absurd (true≢false (sym at_front ∙ m)))
    | inr off ↦ elim (eqb_tells item x) [
      | inl own ↦ (let at_front : has item (x ∷ items) ≡ true = rw own.0 refl in absurd (true≢false (sym at_front ∙ n)))
      | inr far ↦ (in-other from a b ∙ c.0, chain-apart x items end off.1 far.1 (rw off.0 at m) (rw far.0 at n) c.1)
    ]
  ]

  -- the chain after the node
  pub chain-joined : (items : List ℕ) (end : ℕ) → has node items ≡ false → has item items ≡ false → Chain next node items end → Chain (joined next node item) node (item ∷ items) end
  chain-joined [] end m n c = (in-node, in-item ∙ c)
  chain-joined (x ∷ items) end m n c = elim (eqb_tells node x) [
    | inl is ↦ (let at_front : has node (x ∷ items) ≡ true = rw is.0 refl in absurd (true≢false (sym at_front ∙ m)))
    | inr off ↦ elim (eqb_tells item x) [
      | inl own ↦ (let at_front : has item (x ∷ items) ≡ true = rw own.0 refl in absurd (true≢false (sym at_front ∙ n)))
      | inr far ↦ (in-node, (in-item ∙ c.0, chain-apart x items end off.1 far.1 (rw off.0 at m) (rw far.0 at n) c.1))
    ]
  ]
