-- The items of a port in its ring, and their order while they move from the front to the back.
use Rattle.std.proofs.Common.{◌≡◌, ℕ, zero, suc, ◌+◌, ◌-◌, ◌<◌, ◌≤◌, Bool, true, false, not, ◌||◌, cond, List, [], ◌∷◌, ◌++◌, length, get_or, take, drop, filter, Some, None, refl, sym, ap, subst, ◌∙◌, arith, append_assoc, take-suc, drop-cons, length-append, length-take, length-drop, take_at, drop_at}
use Rattle.std.specs.List.{slice_get, list_any, remove}
use Rattle.std.proofs.lemmas.Option.{same_Some}
use Rattle.std.proofs.lemmas.List.{drop_all}
use Rattle.circular_buffer.specs.Buffer.{Buffer, buffer}
use Rattle.plain_laws.specs.Limits.{MOST_TIMERS_EACH}
use Rattle.input_port.specs.declared.queue.Item.{Item}
use Rattle.input_port.specs.Queue.{is_of_timer, IsQueue}

-- a ring with a place for each item that may arrive
pub held : {capacity : ℕ} {ring : Buffer Item} {items : List Item} {places : ℕ} → ring ≡ buffer items places → places ≡ capacity + MOST_TIMERS_EACH → IsQueue capacity items
    → IsQueue capacity ring.items × (ring.capacity ≡ capacity + MOST_TIMERS_EACH)
held {capacity} e same q = (subst (λ (r : Buffer Item). IsQueue capacity r.items) (sym e) q, ap (λ (r : Buffer Item). r.capacity) e ∙ same)

-- whether an item stays when the signal of this timer is removed
abbrev pub stays_beside : ℕ → Item → Bool
stays_beside number item = not (is_of_timer number item)

one_more : (i : ℕ) → i + 1 ≡ suc i
one_more i = omega arith

module _ {X : Type 0} where
  append_none : (xs : List X) → xs ++ [] ≡ xs
  append_none [] = refl
  append_none (x ∷ xs) = ap (λ ys. x ∷ ys) (append_none xs)

  -- the first item that has not moved yet; kept holds those moved to the back
  first_of : (xs kept : List X) (i : ℕ) (x : X) → i < length xs → slice_get (drop i xs ++ kept) 0 ≡ Some x → get_or xs i x ≡ x
  first_of xs kept i x lt e = same_Some (get_or xs i x) x (ap (λ ys. slice_get (ys ++ kept) 0) (sym (drop-cons xs i x lt)) ∙ e)

  left_of : (xs kept : List X) (i : ℕ) → i < length xs → drop 1 (drop i xs ++ kept) ≡ drop (suc i) xs ++ kept
  left_of [] kept i lt = absurd (omega arith)
  left_of (x ∷ xs) kept zero lt = refl
  left_of (x ∷ xs) kept (suc i) lt = left_of xs kept i (omega arith)

  some_first : (xs kept : List X) (i : ℕ) → i < length xs → slice_get (drop i xs ++ kept) 0 ≡ None → ⊥
  some_first [] kept i lt e = omega arith
  some_first (x ∷ xs) kept zero lt e = cc
  some_first (x ∷ xs) kept (suc i) lt e = some_first xs kept i (omega arith) e

  filter_one : (p : X → Bool) (xs : List X) (x : X) → filter p (xs ++ x ∷ []) ≡ filter p xs ++ cond (p x) (x ∷ []) []
  filter_one p [] x = refl
  filter_one p (y ∷ xs) x = elim (p y) as (λ b. cond b (y ∷ filter p (xs ++ x ∷ [])) (filter p (xs ++ x ∷ [])) ≡ cond b (y ∷ filter p xs) (filter p xs) ++ cond (p x) (x ∷ []) []) [
    | true ↦ ap (λ ys. y ∷ ys) (filter_one p xs x)
    | false ↦ filter_one p xs x
  ]

  more_filtered : (p : X → Bool) (xs : List X) (i : ℕ) (x : X) → i < length xs → get_or xs i x ≡ x → filter p (take (suc i) xs) ≡ filter p (take i xs) ++ cond (p x) (x ∷ []) []
  more_filtered p xs i x lt e = ap (filter p) (take-suc xs i x lt ∙ ap (λ y. take i xs ++ y ∷ []) e) ∙ filter_one p (take i xs) x

  fewer : (p : X → Bool) (xs : List X) → length (filter p xs) ≤ length xs
  fewer p [] = omega arith
  fewer p (x ∷ xs) = elim (p x) as (λ b. length (cond b (x ∷ filter p xs) (filter p xs)) ≤ length (x ∷ xs)) [
    | true ↦ omega (arith, fewer p xs)
    | false ↦ omega (arith, fewer p xs)
  ]

  -- the first item is removed
  popped_of : (xs kept : List X) (i places : ℕ) (before popped : Buffer X) → i < length xs → before ≡ buffer (drop i xs ++ kept) places
      → popped ≡ buffer (drop 1 before.items) before.capacity → popped ≡ buffer (drop (suc i) xs ++ kept) places
  popped_of xs kept i places before popped lt was pops =
      pops ∙ ap (λ (b : Buffer X). buffer (drop 1 b.items) b.capacity) was ∙ ap (λ ys. buffer ys places) (left_of xs kept i lt)

  room_of : (xs kept : List X) (i places : ℕ) (popped : Buffer X) → i < length xs → length xs ≤ places → length kept ≤ i
      → popped ≡ buffer (drop (suc i) xs ++ kept) places → length popped.items < popped.capacity
  room_of xs kept i places popped lt fits few is =
      omega (
        arith,
        ap (λ (b : Buffer X). length b.items) is,
        ap (λ (b : Buffer X). b.capacity) is,
        length-append (drop (suc i) xs) kept,
        length-drop (suc i) xs,
      )

  -- Items move to the back: i of them have moved, and this is the next one.
  module _ (xs : List X) (i places : ℕ) (before popped : Buffer X) where
    -- all stay
    module _ (lt : i < length xs) (was : before ≡ buffer (drop i xs ++ take i xs) places) (pops : popped ≡ buffer (drop 1 before.items) before.capacity) where
      pub turned_room : length xs ≤ places → length popped.items < popped.capacity
      turned_room fits = room_of xs (take i xs) i places popped lt fits (omega (arith, length-take i xs)) (popped_of xs (take i xs) i places before popped lt was pops)

      pub turned_one : (x : X) (after : Buffer X) → slice_get before.items 0 ≡ Some x → after ≡ buffer (popped.items ++ x ∷ []) popped.capacity
          → after ≡ buffer (drop (i + 1) xs ++ take (i + 1) xs) places
      turned_one x after first pushes =
          let here = first_of xs (take i xs) i x lt (sym (ap (λ (b : Buffer X). slice_get b.items 0) was) ∙ first) in
          pushes
          ∙ ap (λ (b : Buffer X). buffer (b.items ++ x ∷ []) b.capacity) (popped_of xs (take i xs) i places before popped lt was pops)
          ∙ ap (λ ys. buffer ys places) (
          append_assoc (drop (suc i) xs) (take i xs) (x ∷ [])
          ∙ ap (λ y. drop (suc i) xs ++ (take i xs ++ y ∷ [])) (sym here)
          ∙ ap (λ ys. drop (suc i) xs ++ ys) (sym (take-suc xs i x lt))
          ∙ ap (λ k. drop k xs ++ take k xs) (sym (one_more i))
          )

      pub turned_none : slice_get before.items 0 ≡ None → ⊥
      turned_none none = some_first xs (take i xs) i lt (sym (ap (λ (b : Buffer X). slice_get b.items 0) was) ∙ none)

    -- only the items for which p holds stay
    module _ (p : X → Bool) (lt : i < length xs) (was : before ≡ buffer (drop i xs ++ filter p (take i xs)) places) (pops : popped ≡ buffer (drop 1 before.items) before.capacity) where
      pub kept_room : length xs ≤ places → length popped.items < popped.capacity
      kept_room fits = room_of xs (filter p (take i xs)) i places popped lt fits (omega (arith, length-take i xs, fewer p (take i xs))) (popped_of xs (filter p (take i xs)) i places before popped lt was pops)

      pub kept_one : (x : X) (after : Buffer X) → slice_get before.items 0 ≡ Some x → p x ≡ true → after ≡ buffer (popped.items ++ x ∷ []) popped.capacity
          → after ≡ buffer (drop (i + 1) xs ++ filter p (take (i + 1) xs)) places
      kept_one x after first stays pushes =
          let kept = filter p (take i xs) in
          let here = first_of xs kept i x lt (sym (ap (λ (b : Buffer X). slice_get b.items 0) was) ∙ first) in
          pushes
          ∙ ap (λ (b : Buffer X). buffer (b.items ++ x ∷ []) b.capacity) (popped_of xs kept i places before popped lt was pops)
          ∙ ap (λ ys. buffer ys places) (
          append_assoc (drop (suc i) xs) kept (x ∷ [])
          ∙ ap (λ b. drop (suc i) xs ++ (kept ++ cond b (x ∷ []) [])) (sym stays)
          ∙ ap (λ ys. drop (suc i) xs ++ ys) (sym (more_filtered p xs i x lt here))
          ∙ ap (λ k. drop k xs ++ filter p (take k xs)) (sym (one_more i))
          )

      pub gone_one : (x : X) → slice_get before.items 0 ≡ Some x → p x ≡ false → popped ≡ buffer (drop (i + 1) xs ++ filter p (take (i + 1) xs)) places
      gone_one x first goes =
          let kept = filter p (take i xs) in
          let here = first_of xs kept i x lt (sym (ap (λ (b : Buffer X). slice_get b.items 0) was) ∙ first) in
          popped_of xs kept i places before popped lt was pops
          ∙ ap (λ ys. buffer ys places) (
          ap (λ ys. drop (suc i) xs ++ ys) (sym (more_filtered p xs i x lt here ∙ ap (λ b. kept ++ cond b (x ∷ []) []) goes ∙ append_none kept))
          ∙ ap (λ k. drop k xs ++ filter p (take k xs)) (sym (one_more i))
          )

      pub kept_none : slice_get before.items 0 ≡ None → ⊥
      kept_none none = some_first xs (filter p (take i xs)) i lt (sym (ap (λ (b : Buffer X). slice_get b.items 0) was) ∙ none)

  -- all have moved
  pub all_kept : (p : X → Bool) (xs : List X) (i : ℕ) → length xs ≤ i → drop i xs ++ filter p (take i xs) ≡ filter p xs
  all_kept p xs i le = ap (λ ys. ys ++ filter p (take i xs)) (drop_all i xs le) ∙ ap (filter p) (taken_all xs i le)
    where
      taken_all : (ys : List X) (j : ℕ) → length ys ≤ j → take j ys ≡ ys
      taken_all [] zero h = refl
      taken_all [] (suc j) h = refl
      taken_all (y ∷ ys) zero h = absurd (omega arith)
      taken_all (y ∷ ys) (suc j) h = ap (λ zs. y ∷ zs) (taken_all ys j (omega arith))

  -- if none is removed, all stay
  pub all_stay : (p : X → Bool) (xs : List X) → list_any p xs ≡ false → filter (λ x. not (p x)) xs ≡ xs
  all_stay p [] e = refl
  all_stay p (x ∷ xs) e =
      elim (p x) as (λ b. (b || list_any p xs) ≡ false → cond (not b) (x ∷ filter (λ y. not (p y)) xs) (filter (λ y. not (p y)) xs) ≡ x ∷ xs) [
        | true ↦ λ h. cc
        | false ↦ λ h. ap (λ ys. x ∷ ys) (all_stay p xs h)
      ] e

  -- an item is removed at an index, and the items after it move until the order is whole again
  pub taken_out : (xs : List X) (i len places : ℕ) (turned popped after : Buffer X) → i < length xs → turned ≡ buffer (drop i xs ++ take i xs) places
      → popped ≡ buffer (drop 1 turned.items) turned.capacity → len ≡ length popped.items
      → after ≡ buffer (drop (len - i) popped.items ++ take (len - i) popped.items) popped.capacity → after ≡ buffer (remove xs i) places
  taken_out xs i len places turned popped after lt turns pops counts goes =
      let is = popped_of xs (take i xs) i places turned popped lt turns pops in
      let behind : length (drop (suc i) xs) ≡ len - i =
      omega (arith, counts, ap (λ (b : Buffer X). length b.items) is, length-append (drop (suc i) xs) (take i xs), length-take i xs, length-drop (suc i) xs) in
      goes
      ∙ ap (λ (b : Buffer X). buffer (drop (len - i) b.items ++ take (len - i) b.items) b.capacity) is
      ∙ (λ j. buffer (drop_at (drop (suc i) xs) (take i xs) (len - i) behind j ++ take_at (drop (suc i) xs) (take i xs) (len - i) behind j) places)
