-- Marks of the connections that are placed.
use Rattle.std.proofs.Common.{◌≡◌, ℕ, zero, suc, ◌+◌, ◌<◌, Bool, false, List, [], ◌∷◌, length, drop, get_or, replicate, Some, IsSome, refl, sym, ap, ◌∙◌, arith}
use Rattle.std.specs.Prelude.{slice_get}
use Rattle.std.proofs.lemmas.List.{length-replicate}
use Rattle.sdl_ast.specs.declared.expression.Identifier.{Identifier}
use Rattle.sdl_meaning.specs.Outcomes.{Scope, connector_at}
use Rattle.sdl_meaning.specs.Code.{number_or_zero}
use Rattle.sdl_emit.specs.Placing.{AreMarked}
use Rattle.sdl_meaning.proofs.Joining.{has_connection}
use Rattle.turn_code.proofs.Lists.{within as none_past}

-- ---- marks

free_at : (size n : ℕ) → n < size → slice_get (replicate size false) n ≡ Some false
free_at zero n lt = absurd (omega (arith, lt))
free_at (suc size) zero lt = refl
free_at (suc size) (suc n) lt = free_at size n (omega (arith, lt))

-- ---- one more connection

module _ (c : Scope) where
  -- The number of a connection that exists has a mark.
  pub mark_there : (ns : List ℕ) (marks : List Bool) (id : Identifier) → AreMarked c ns marks → IsSome (connector_at c id) → number_or_zero (connector_at c id) < length marks
  mark_there ns marks id are some =
      let w = has_connection c id some in
      let lt = none_past c.process.connections (number_or_zero (connector_at c id)) w.connection w.there in
      omega (arith, lt, are.count)

  pub none_marked : (size : ℕ) → size ≡ length c.process.connections → AreMarked c [] (replicate size false)
  none_marked size is = record {
    count = length-replicate size false ∙ is;
    each = λ n lt. free_at size n (omega (arith, lt, length-replicate size false));
  }

-- ---- one more JOIN

pub next_first : {A : Type 0} (xs : List A) (i : ℕ) (x : A) → i < length xs → x ≡ get_or xs i x → drop i xs ≡ x ∷ drop (i + 1) xs
next_first [] i x lt e = absurd (omega (arith, lt))
next_first (y ∷ xs) zero x lt e = ap (λ z. z ∷ xs) (sym e)
next_first (y ∷ xs) (suc i) x lt e =
    let f : suc (i + 1) ≡ suc i + 1 = omega arith in
    next_first xs i x (omega (arith, lt)) e ∙ ap (λ n. x ∷ drop n (y ∷ xs)) f
