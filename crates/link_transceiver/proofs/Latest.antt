-- The latest statuses, after one more is put last.
use Rattle.std.proofs.Common.{◌≡◌, ℕ, ◌-◌, ◌<◌, ◌≤◌, List, [], ◌∷◌, ◌++◌, length, drop, refl, sym, arith, length-append}
use Rattle.std.proofs.lemmas.List.{drop-append-le}
use Rattle.std.proofs.lemmas.Grind.{common_steps}

-- if the queue is full, the oldest is dropped
pub latest_full : {A : Type 0} (xs : List A) (x : A) (n : ℕ) → length xs ≡ n → 0 < n →
    drop 1 xs ++ x ∷ [] ≡ drop (length (xs ++ x ∷ []) - n) (xs ++ x ∷ [])
latest_full xs x n full some =
    let one : length (xs ++ x ∷ []) - n ≡ 1 = grind (arith, common_steps, length-append) in
    let le : 1 ≤ length xs = omega arith in
    rw one (sym (drop-append-le 1 xs (x ∷ []) le))

-- if there is room, none is dropped
pub latest_with_room : {A : Type 0} (xs : List A) (x : A) (n : ℕ) → length xs < n →
    xs ++ x ∷ [] ≡ drop (length (xs ++ x ∷ []) - n) (xs ++ x ∷ [])
latest_with_room xs x n room =
    let none : length (xs ++ x ∷ []) - n ≡ 0 = grind (arith, common_steps, length-append) in
    rw none refl
