-- A queue turned round once: messages of a selection leave, the rest stay in order.
use Rattle.std.proofs.Common.{◌≡◌, ℕ, ◌+◌, ◌<◌, ◌≤◌, ◌==◌, zero, suc, Bool, true, false, not, cond, List, [], ◌∷◌, ◌++◌, length, take, drop, get_or, refl, sym, ap, ◌∙◌, arith, append_assoc, subst, inl, inr}
use Rattle.std.specs.Prelude.{All, ◌⊎◌, ◌≢◌}
use Rattle.std.proofs.lemmas.List.Elements.{filter-append}
use Rattle.std.proofs.lemmas.Bool.{eq-eqb}
use Rattle.std.proofs.lemmas.Bool.Decides.{eqb_tells}
use Rattle.std.proofs.lemmas.List.{append-nil, drop_more, take_more, length-append}
use Rattle.resend_store.specs.declared.messages.Msu.{Msu}
use Rattle.resend_store.specs.Messages.{IsMessage}
use Rattle.resend_store.specs.Limits.{MOST_KEPT}
use Rattle.group_changeover.specs.Sharing.{selection_of, is_on, of, off}
use Rattle.group_changeover.proofs.Lists.{of-append, of-off}
use Rattle.link_term.specs.Term.{Term}
use Rattle.link_group.specs.Moving.{term_takes}

abbrev kept : Term → List Msu
kept t = t.processes.transceiver.sender.kept

pub takes-none : (t : Term) → term_takes [] t ≡ t
unfolding term_takes
takes-none t = rw (append-nil t.processes.transceiver.sender.kept) refl

pub takes-takes : (xs ys : List Msu) (t : Term) → term_takes ys (term_takes xs t) ≡ term_takes (xs ++ ys) t
unfolding term_takes
takes-takes xs ys t = rw (append_assoc t.processes.transceiver.sender.kept xs ys) refl

takes-kept : (xs : List Msu) (t : Term) → kept (term_takes xs t) ≡ kept t ++ xs
unfolding term_takes
takes-kept xs t = refl

-- ---- the oldest message

case-on : (m : Msu) (b : Bool) → b ≡ true → cond b (m ∷ []) [] ≡ m ∷ []
case-on m b e = rw e refl

case-off : (m : Msu) (b : Bool) → b ≡ false → cond b (m ∷ []) [] ≡ []
case-off m b e = rw e refl

test-off : (n s : ℕ) → ((n == s) ≡ true) × (n ≡ s) ⊎ ((n == s) ≡ false) × (n ≢ s) → (n ≡ s → ⊥) → (n == s) ≡ false
test-off n s (inl x) other = absurd (other x.1)
test-off n s (inr x) other = x.0

pub of-one : (s : ℕ) (m : Msu) → selection_of m ≡ s → of s (m ∷ []) ≡ m ∷ []
unfolding of
of-one s m e = case-on m (is_on s m) (eq-eqb (selection_of m) s e)

pub off-one : (s : ℕ) (m : Msu) → selection_of m ≡ s → off s (m ∷ []) ≡ []
unfolding off
off-one s m e = case-off m (not (is_on s m)) (ap not (eq-eqb (selection_of m) s e))

pub of-other : (s : ℕ) (m : Msu) → (selection_of m ≡ s → ⊥) → of s (m ∷ []) ≡ []
unfolding of
of-other s m other = case-off m (is_on s m) (test-off (selection_of m) s (eqb_tells (selection_of m) s) other)

pub off-other : (s : ℕ) (m : Msu) → (selection_of m ≡ s → ⊥) → off s (m ∷ []) ≡ m ∷ []
unfolding off
off-other s m other = case-on m (not (is_on s m)) (ap not (test-off (selection_of m) s (eqb_tells (selection_of m) s) other))

pub on-terminal : (s : ℕ) (m : Msu) (old rest : List Msu) (t u : Term) → old ≡ m ∷ rest → selection_of m ≡ s → u ≡ term_takes (m ∷ []) t → u ≡ term_takes (of s (take 1 old)) t
on-terminal s m old rest t u e on is = is ∙ sym (ap (λ (xs : List Msu). term_takes (of s (take 1 xs)) t) e ∙ ap (λ (xs : List Msu). term_takes xs t) (of-one s m on))

pub on-rest : (s : ℕ) (m : Msu) (old rest : List Msu) → old ≡ m ∷ rest → selection_of m ≡ s → rest ≡ drop 1 old ++ off s (take 1 old)
on-rest s m old rest e on = sym (ap (λ (xs : List Msu). drop 1 xs ++ off s (take 1 xs)) e ∙ ap (λ (xs : List Msu). rest ++ xs) (off-one s m on) ∙ append-nil rest)

pub other-terminal : (s : ℕ) (m : Msu) (old rest : List Msu) (t : Term) → old ≡ m ∷ rest → (selection_of m ≡ s → ⊥) → t ≡ term_takes (of s (take 1 old)) t
other-terminal s m old rest t e other = sym (ap (λ (xs : List Msu). term_takes (of s (take 1 xs)) t) e ∙ ap (λ (xs : List Msu). term_takes xs t) (of-other s m other) ∙ takes-none t)

pub other-rest : (s : ℕ) (m : Msu) (old rest new : List Msu) → old ≡ m ∷ rest → (selection_of m ≡ s → ⊥) → new ≡ rest ++ m ∷ [] → new ≡ drop 1 old ++ off s (take 1 old)
other-rest s m old rest new e other is = is ∙ sym (ap (λ (xs : List Msu). drop 1 xs ++ off s (take 1 xs)) e ∙ ap (λ (xs : List Msu). rest ++ xs) (off-other s m other))

pub none-terminal : (s : ℕ) (old : List Msu) (t : Term) → old ≡ [] → t ≡ term_takes (of s (take 1 old)) t
unfolding of
none-terminal s old t e = sym (ap (λ (xs : List Msu). term_takes (of s (take 1 xs)) t) e ∙ takes-none t)

pub none-rest : (s : ℕ) (old new : List Msu) → old ≡ [] → new ≡ [] → new ≡ drop 1 old ++ off s (take 1 old)
unfolding off
none-rest s old new e is = is ∙ sym (ap (λ (xs : List Msu). drop 1 xs ++ off s (take 1 xs)) e)

-- ---- each is a message

pub whole-first : (old rest : List Msu) (m : Msu) → old ≡ m ∷ rest → All IsMessage old → IsMessage m
whole-first old rest m e all = let whole : All IsMessage (m ∷ rest) = subst (λ (xs : List Msu). All IsMessage xs) e all in whole 0 m (omega arith)

pub whole-rest : (old rest : List Msu) (m : Msu) → old ≡ m ∷ rest → All IsMessage old → All IsMessage rest
whole-rest old rest m e all = let whole : All IsMessage (m ∷ rest) = subst (λ (xs : List Msu). All IsMessage xs) e all in λ k d h. whole (suc k) d (omega (arith, h))

pub room-one : (s k : ℕ) (m : Msu) (old rest : List Msu) → old ≡ m ∷ rest → selection_of m ≡ s → length (of s old) + k ≤ MOST_KEPT → k < MOST_KEPT
room-one s k m old rest e on room =
    let parts : of s old ≡ m ∷ of s rest = ap (of s) e ∙ of-append s (m ∷ []) rest ∙ ap (λ (xs : List Msu). xs ++ of s rest) (of-one s m on) in
    let count : length (of s old) ≡ length (of s rest) + 1 = ap length parts ∙ omega arith in
    omega (arith, count, room)

-- ---- the whole queue

joined : (n : ℕ) (ms : List Msu) → take n ms ++ drop n ms ≡ ms
joined zero ms = refl
joined (suc n) [] = refl
joined (suc n) (m ∷ ms) = ap (λ (xs : List Msu). m ∷ xs) (joined n ms)

sum : (a b c d e f : ℕ) → d ≡ a + b → e ≡ b → f ≡ c + a → d + c ≤ MOST_KEPT → e + f ≤ MOST_KEPT
sum a b c d e f p q r h = omega (arith, p, q, r, h)

of-parts : (s n : ℕ) (ms : List Msu) → length (of s ms) ≡ length (of s (take n ms)) + length (of s (drop n ms))
of-parts s n ms = sym (ap (λ (xs : List Msu). length (of s xs)) (joined n ms)) ∙ ap length (of-append s (take n ms) (drop n ms)) ∙ length-append (of s (take n ms)) (of s (drop n ms))

of-turned : (s n : ℕ) (ms items : List Msu) → items ≡ drop n ms ++ off s (take n ms) → of s items ≡ of s (drop n ms)
of-turned s n ms items e = ap (of s) e ∙ of-append s (drop n ms) (off s (take n ms)) ∙ ap (λ (xs : List Msu). of s (drop n ms) ++ xs) (of-off s (take n ms)) ∙ append-nil (of s (drop n ms))

pub room-left : (s n : ℕ) (ms items : List Msu) (t u : Term) → items ≡ drop n ms ++ off s (take n ms) → u ≡ term_takes (of s (take n ms)) t
    → length (of s ms) + length t.processes.transceiver.sender.kept ≤ MOST_KEPT → length (of s items) + length u.processes.transceiver.sender.kept ≤ MOST_KEPT
room-left s n ms items t u e is room =
    sum (length (of s (take n ms))) (length (of s (drop n ms))) (length (kept t)) (length (of s ms)) (length (of s items)) (length (kept u))
    (of-parts s n ms) (ap length (of-turned s n ms items e))
    (ap (λ (x : Term). length (kept x)) is ∙ ap length (takes-kept (of s (take n ms)) t) ∙ length-append (kept t) (of s (take n ms))) room

-- the message at a place is followed by all later ones
pub begun : (n : ℕ) (ms : List Msu) → n < length ms → (m : Msu) × (drop n ms ≡ m ∷ drop (n + 1) ms) × (take (n + 1) ms ≡ take n ms ++ m ∷ [])
begun n [] h = absurd (omega (arith, h))
begun n (x ∷ xs) h = (get_or (x ∷ xs) n x, drop_more (x ∷ xs) n x h, take_more (x ∷ xs) n x h)

move : (a b : List Msu) (m : Msu) (s : ℕ) (front : List Msu) → a ++ off s front ++ off s (m ∷ []) ≡ a ++ off s (front ++ m ∷ [])
unfolding off
move a b m s front = append_assoc a (off s front) (off s (m ∷ [])) ∙ ap (λ (xs : List Msu). a ++ xs) (sym (filter-append (λ k. not (is_on s k)) front (m ∷ [])))

pub more-items : (s n : ℕ) (ms items new : List Msu) → n < length ms → items ≡ drop n ms ++ off s (take n ms) → new ≡ drop 1 items ++ off s (take 1 items)
    → new ≡ drop (n + 1) ms ++ off s (take (n + 1) ms)
more-items s n ms items new h e is =
    let at = begun n ms h in
    let front : items ≡ at.0 ∷ (drop (n + 1) ms ++ off s (take n ms)) = e ∙ ap (λ (xs : List Msu). xs ++ off s (take n ms)) at.1 in
    is ∙ ap (λ (xs : List Msu). drop 1 xs ++ off s (take 1 xs)) front ∙ move (drop (n + 1) ms) [] at.0 s (take n ms) ∙ ap (λ (xs : List Msu). drop (n + 1) ms ++ off s xs) (sym at.2)

pub more-taken : (s n : ℕ) (ms items : List Msu) (t u v : Term) → n < length ms → items ≡ drop n ms ++ off s (take n ms) → u ≡ term_takes (of s (take n ms)) t → v ≡ term_takes (of s (take 1 items)) u
    → v ≡ term_takes (of s (take (n + 1) ms)) t
more-taken s n ms items t u v h e is now =
    let at = begun n ms h in
    let front : items ≡ at.0 ∷ (drop (n + 1) ms ++ off s (take n ms)) = e ∙ ap (λ (xs : List Msu). xs ++ off s (take n ms)) at.1 in
    now ∙ ap (λ (xs : List Msu). term_takes (of s (take 1 xs)) u) front ∙ ap (term_takes (of s (at.0 ∷ []))) is
    ∙ takes-takes (of s (take n ms)) (of s (at.0 ∷ [])) t ∙ ap (λ (xs : List Msu). term_takes xs t) (sym (of-append s (take n ms) (at.0 ∷ [])))
    ∙ ap (λ (xs : List Msu). term_takes (of s xs) t) (sym at.2)

pub all-items : (s n : ℕ) (ms items : List Msu) → n ≡ length ms → items ≡ drop n ms ++ off s (take n ms) → items ≡ off s ms
all-items s n ms items e is = is ∙ ap (λ (k : ℕ). drop k ms ++ off s (take k ms)) e ∙ ap (λ (xs : List Msu). xs ++ off s (take (length ms) ms)) (none ms) ∙ ap (off s) (all ms)
  where
    none : (xs : List Msu) → drop (length xs) xs ≡ []
    none [] = refl
    none (x ∷ xs) = none xs

    all : (xs : List Msu) → take (length xs) xs ≡ xs
    all [] = refl
    all (x ∷ xs) = ap (λ (ys : List Msu). x ∷ ys) (all xs)

pub all-taken : (s n : ℕ) (ms : List Msu) (t u : Term) → n ≡ length ms → u ≡ term_takes (of s (take n ms)) t → u ≡ term_takes (of s ms) t
all-taken s n ms t u e is = is ∙ ap (λ (k : ℕ). term_takes (of s (take k ms)) t) e ∙ ap (λ (xs : List Msu). term_takes (of s xs) t) (all ms)
  where
    all : (xs : List Msu) → take (length xs) xs ≡ xs
    all [] = refl
    all (x ∷ xs) = ap (λ (ys : List Msu). x ∷ ys) (all xs)

pub of-none : (s : ℕ) (t : Term) → t ≡ term_takes (of s []) t
unfolding of
of-none s t = sym (takes-none t)

pub off-none : (s : ℕ) (ms : List Msu) → ms ≡ ms ++ off s []
unfolding off
off-none s ms = sym (append-nil ms)

-- ---- all messages go back

pub gives-back : (m : Msu) (old rest : List Msu) (t u : Term) → old ≡ m ∷ rest → u ≡ term_takes (m ∷ []) t → term_takes rest u ≡ term_takes old t
gives-back m old rest t u e is = ap (term_takes rest) is ∙ takes-takes (m ∷ []) rest t ∙ ap (λ (xs : List Msu). term_takes xs t) (sym e)

pub room-back : (m : Msu) (old rest : List Msu) (t u : Term) → old ≡ m ∷ rest → u ≡ term_takes (m ∷ []) t → length old + length t.processes.transceiver.sender.kept ≤ MOST_KEPT
    → length rest + length u.processes.transceiver.sender.kept ≤ MOST_KEPT
room-back m old rest t u e is room =
    let grown : length (kept u) ≡ length (kept t) + 1 = ap (λ (x : Term). length (kept x)) is ∙ ap length (takes-kept (m ∷ []) t) ∙ length-append (kept t) (m ∷ []) in
    let less : length old ≡ length rest + 1 = ap length e ∙ omega arith in
    omega (arith, grown, less, room)

pub all-back : (left : List Msu) (t u : Term) → left ≡ [] → term_takes left t ≡ u → t ≡ u
all-back left t u e is = sym (ap (λ (xs : List Msu). term_takes xs t) e ∙ takes-none t) ∙ is
