-- Depths of lists with one more element.
use Rattle.std.proofs.Common.{◌≡◌, ℕ, ◌+◌, ◌≤◌, Bool, true, false, List, [], ◌∷◌, ◌++◌, max, length, Option, None, Some, cond, find, arith}
use Rattle.sdl_ast.specs.declared.expression.Identifier.{Identifier}
use Rattle.sdl_ast.specs.Plain.{Tree, PlainAssignment, PlainSending}
use Rattle.sdl_sound.specs.Longest.{depth_of, assignments_depth, parameters_depth, sendings_depth, place_depth, places_depth}
use Rattle.plain_laws.proofs.Options.{none_some, some_none}

-- One more parameter waits for all before it.
pub parameters_depth-push : (n : ℕ) (xs : List Tree) (y : Tree)
    → parameters_depth n (xs ++ y ∷ []) ≡ max (parameters_depth n xs) ((n + length xs) + depth_of y)
parameters_depth-push n [] y = omega arith
parameters_depth-push n (x ∷ xs) y = omega (arith, parameters_depth-push (n + 1) xs y)

pub sendings_depth-push : (xs : List PlainSending) (y : PlainSending) → sendings_depth (xs ++ y ∷ []) ≡ max (sendings_depth xs) (parameters_depth 0 y.parameters)
sendings_depth-push [] y = omega arith
sendings_depth-push (x ∷ xs) y = omega (arith, sendings_depth-push xs y)

pub assignments_depth-push : (xs : List PlainAssignment) (y : PlainAssignment) → assignments_depth (xs ++ y ∷ []) ≡ max (assignments_depth xs) (depth_of y.value)
assignments_depth-push [] y = omega arith
assignments_depth-push (x ∷ xs) y = omega (arith, assignments_depth-push xs y)

pub places_depth-push : (xs : List (Option Identifier)) (y : Option Identifier) → places_depth (xs ++ y ∷ []) ≡ max (places_depth xs) (place_depth y)
places_depth-push [] y = omega arith
places_depth-push (x ∷ xs) y = omega (arith, places_depth-push xs y)

pub place_depth_le : (p : Option Identifier) → place_depth p ≤ 1
place_depth_le None = omega arith
place_depth_le (Some id) = omega arith

some_first : {X : Type 0} (b : Bool) (x y : X) (o q : Option X) → (o ≡ Some y → q ≡ Some y) → cond b (Some x) o ≡ Some y → cond b (Some x) q ≡ Some y
some_first true x y o q f e = e
some_first false x y o q f e = f e

pub find-left : {X : Type 0} (t : X → Bool) (xs ys : List X) (y : X) → find t xs ≡ Some y → find t (xs ++ ys) ≡ Some y
find-left t [] ys y e = absurd (none_some e)
find-left t (x ∷ xs) ys y e = some_first (t x) x y (find t xs) (find t (xs ++ ys)) (find-left t xs ys y) e

none_after : {X : Type 0} (b : Bool) (x : X) (o q r : Option X) → (o ≡ None → r ≡ q) → cond b (Some x) o ≡ None → r ≡ cond b (Some x) q
none_after true x o q r f e = absurd (some_none e)
none_after false x o q r f e = f e

pub find-right : {X : Type 0} (t : X → Bool) (xs ys : List X) (r : Option X) → find t xs ≡ None → r ≡ find t ys → r ≡ find t (xs ++ ys)
find-right t [] ys r e h = h
find-right t (x ∷ xs) ys r e h = none_after (t x) x (find t xs) (find t (xs ++ ys)) r (λ k. find-right t xs ys r k h) e

pub ruleset texts = (assignments_depth-push, places_depth-push)
