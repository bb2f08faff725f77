-- Copying words from the top of the stack into an array.
use Rattle.std.proofs.Common.{◌≡◌, ℕ, zero, suc, ◌+◌, ◌-◌, ◌<◌, ◌≤◌, ℤ, pos, List, [], ◌∷◌, ◌++◌, length, take, drop, reverse, replicate, Some, refl, sym, ap, ◌∙◌, arith}
use Rattle.std.specs.Prelude.{slice_get, slice_set, slice_index_or}
use Rattle.std.proofs.lemmas.List.{length-take, length-drop, get_or-drop}
use Rattle.std.proofs.lemmas.Option.{slice_get-get_or}
use Rattle.turn_code.proofs.Lists.{last_taken, last_dropped}
use Rattle.turn_code.specs.declared.numbers.SignalNumber.{SignalNumber}
use Rattle.turn_code.specs.declared.instruction.Receiver.{Receiver}
use Rattle.turn_code.specs.declared.words.Words.{Words}
use Rattle.turn_code.specs.declared.after.BareAfter.{BareAfter}
use Rattle.turn_code.specs.declared.after.BareEffect.TheVariants as gives
use Rattle.turn_code.specs.declared.after.Next.TheVariants.{Goes}
use Rattle.turn_code.specs.Bare.{Bare, bare_of, went, did_next, with_stack, words_taken, sent}

-- an array of p words and then zeros: a write puts one more word in the place of the first 0
filled : (ds : List ℤ) (p m : ℕ) (x : ℤ) → slice_get ds p ≡ Some x
    → slice_set (take p ds ++ replicate (suc m) (pos 0)) p x ≡ take (suc p) ds ++ replicate m (pos 0)
filled [] p m x h = cc
filled (d ∷ ds) zero m x h = let e : d ≡ x = cc in ap (λ u. u ∷ replicate m (pos 0)) (sym e)
filled (d ∷ ds) (suc p) m x h = ap (λ u. d ∷ u) (filled ds p m x h)

pub one_filled : (ds ws : List ℤ) (n p : ℕ) (x : ℤ) → p < n → slice_get ds p ≡ Some x
    → ws ≡ take p ds ++ replicate (n - p) (pos 0) → slice_set ws p x ≡ take (p + 1) ds ++ replicate (n - (p + 1)) (pos 0)
one_filled ds ws n p x h there e =
    let left : n - p ≡ suc (n - (p + 1)) = omega arith in
    let next : suc p ≡ p + 1 = omega arith in
    ap (λ u. slice_set u p x) (e ∙ ap (λ u. take p ds ++ replicate u (pos 0)) left)
    ∙ filled ds p (n - (p + 1)) x there ∙ ap (λ u. take u ds ++ replicate (n - (p + 1)) (pos 0)) next

pub word_behind : (xs : List ℤ) (a p : ℕ) → a + p < length xs → slice_get (drop a xs) p ≡ Some (slice_index_or xs (a + p) (pos 0))
word_behind xs a p h =
    let room : p < length (drop a xs) = simp length-drop (omega (arith, h)) in
    slice_get-get_or (drop a xs) p (pos 0) room ∙ ap Some (get_or-drop a xs p (pos 0))

drop_taken : (xs : List ℤ) (a m : ℕ) → drop a (take (a + m) xs) ≡ take m (drop a xs)
drop_taken xs zero m = let e : 0 + m ≡ m = omega arith in ap (λ u. take u xs) e
drop_taken [] (suc a) m = let e : suc a + m ≡ suc (a + m) = omega arith in rw e (sym (none m))
  where
    none : (m : ℕ) → ◌≡◌ {A = List ℤ} (take m []) []
    none zero = refl
    none (suc m) = refl
drop_taken (x ∷ xs) (suc a) m = let e : suc a + m ≡ suc (a + m) = omega arith in rw e (drop_taken xs a m)

-- the topmost n words of a stack of this depth, the topmost last
pub topmost : (xs : List ℤ) (first n depth : ℕ) → first + n ≡ depth → depth ≤ length xs
    → reverse (take n (reverse (take depth xs))) ≡ take n (drop first xs)
topmost xs first n depth e h =
    let long : first + n ≡ length (take depth xs) = e ∙ sym (simp length-take (omega arith)) in
    last_taken (take depth xs) first n long ∙ ap (λ u. drop first (take u xs)) (sym e) ∙ drop_taken xs first n

taken_twice : (xs : List ℤ) (a m : ℕ) → take a (take (a + m) xs) ≡ take a xs
taken_twice xs zero m = refl
taken_twice [] (suc a) m = let e : suc a + m ≡ suc (a + m) = omega arith in rw e refl
taken_twice (x ∷ xs) (suc a) m = let e : suc a + m ≡ suc (a + m) = omega arith in rw e (ap (λ u. x ∷ u) (taken_twice xs a m))

-- the words below the topmost n
below_them : (xs : List ℤ) (first n depth : ℕ) → first + n ≡ depth → depth ≤ length xs → reverse (take first xs) ≡ drop n (reverse (take depth xs))
below_them xs first n depth e h =
    let long : first + n ≡ length (take depth xs) = e ∙ sym (simp length-take (omega arith)) in
    sym (ap reverse (ap (λ u. take first (take u xs)) (sym e) ∙ taken_twice xs first n)) ∙ sym (last_dropped (take depth xs) first n long)

pub given_out : (w : Words) (a : BareAfter) (first : ℕ) (n : SignalNumber) (r : Receiver) (c : ℕ) (ws : List ℤ) (k : ℕ)
    → a ≡ record { effect = Some (gives.Output n r c ws); next = Goes k } → ws ≡ words_taken c (bare_of w)
    → first + c ≡ w.depth → w.depth ≤ length w.operands
    → did_next a.next a.effect (with_stack (bare_of w) (reverse (take first w.operands)) (w.depth - c)) ≡ sent n r c k (bare_of w)
given_out w a first n r c ws k e words sum room =
    let b : Bare = with_stack (bare_of w) (reverse (take first w.operands)) (w.depth - c) in
    ap (λ (a : BareAfter). did_next a.next a.effect b) e ∙ ap (λ u. went k (Some (gives.Output n r c u)) b) words
    ∙ ap (λ u. went k (Some (gives.Output n r c (words_taken c (bare_of w)))) (with_stack (bare_of w) u (w.depth - c)))
    (below_them w.operands first c w.depth sum room)
