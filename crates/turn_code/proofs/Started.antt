-- The initial values of a process fit its START.
use Rattle.std.proofs.Common.{◌≡◌, ℕ, zero, suc, ◌+◌, ◌*◌, ◌/◌, ◌%◌, List, [], ◌∷◌, map, is_some, if◌then◌else◌, Option, Some, None, refl, sym, ap, ◌∙◌, subst, arith}
use Rattle.std.specs.Prelude.{slice_get, All}
use Rattle.std.specs.Int.{bit_at}
use Rattle.std.proofs.lemmas.Nat.Bits.{bit_at-zero, bit_at_lowest, bit_at-suc}
use Rattle.turn_code.specs.Values.{sort_of}
use Rattle.turn_code.specs.Sets.{initial_bits, initial_set}
use Rattle.turn_code.specs.Transitions.{Transition, transition_at, start_of, process_at}
use Rattle.turn_code.specs.Rules.{StartsRight}
use Rattle.turn_code.specs.Valid.{IsValid, IsValidTransition}
use Rattle.turn_code.specs.Fits.{HaveSorts, AreSet, FitsTransition}
use Rattle.turn_code.specs.Start.{initial_values, IsBeginning}
use Rattle.turn_code.specs.declared.value.Value.{Value}
use Rattle.turn_code.specs.declared.input.Input.{Input}
use Rattle.turn_code.specs.declared.input.Place.TheVariants.{Start}
use Rattle.turn_code.specs.declared.draft.Draft.{Draft}
use Rattle.turn_code.specs.declared.draft.DraftProcess.{DraftProcess}
use Rattle.turn_code.specs.declared.draft.DraftVariable.{DraftVariable}

begin_right : (xs : List DraftVariable) → All StartsRight xs → HaveSorts xs (initial_values xs)
begin_right [] h = tt
begin_right (x ∷ xs) h = (h 0 x (omega arith), begin_right xs (λ k d less. h (suc k) d (omega arith)))

set_at : (xs : List DraftVariable) (v : ℕ) → bit_at (initial_bits xs) v ≡ 1 → (x : Value) × (slice_get (initial_values xs) v ≡ Some (Some x))
set_at [] v h = let none : bit_at 0 v ≡ 0 = bit_at-zero v in absurd (omega arith)
set_at (x ∷ xs) zero h = by x.initial (sym (bit_at_lowest (initial_bits (x ∷ xs))) ∙ h)
  where
    by : (o : Option Value) → ((if is_some o then 1 else 0) + 2 * initial_bits xs) % 2 ≡ 1 → (y : Value) × (Some o ≡ Some (Some y))
    by None e = absurd (omega arith)
    by (Some y) e = (y, refl)
set_at (x ∷ xs) (suc v) h = set_at xs v (sym (ap (λ n. bit_at n v) (half x.initial)) ∙ sym (bit_at-suc (initial_bits (x ∷ xs)) v) ∙ h)
  where
    half : (o : Option Value) → ((if is_some o then 1 else 0) + 2 * initial_bits xs) / 2 ≡ initial_bits xs
    half None = omega arith
    half (Some y) = omega arith

begins_set : (xs : List DraftVariable) → AreSet (initial_set xs) (initial_values xs)
begins_set xs = λ v has. set_at xs v has

begin_fits : (d : Draft) (p : ℕ) (q : DraftProcess) (x : Input) → IsValidTransition d (start_of p q) → IsBeginning q.variables x → FitsTransition d (start_of p q) x
begin_fits d p q x valid b = record {
  parameters = ap (map sort_of) b.parameters;
  variables = subst (HaveSorts q.variables) (sym b.variables) (begin_right q.variables ((valid.sort 0).initial refl refl));
  set = subst (AreSet (initial_set q.variables)) (sym b.variables) (begins_set q.variables);
  brought = tt;
}

pub started : (d : Draft) (p i : ℕ) (t : Transition) (x : Input) → IsValid d → transition_at d p Start i ≡ Some t → IsBeginning t.process.variables x
    → FitsTransition d t x
started d p i t x valid e b = by (slice_get d.processes p) i e (valid.each p Start i t e)
  where
    by : (o : Option DraftProcess) (i : ℕ) → process_at d.signals p Start i o ≡ Some t → IsValidTransition d t → FitsTransition d t x
    by None i e h = cc
    by (Some q) (suc i) e h = cc
    by (Some q) zero e h =
        let same : start_of p q ≡ t = cc in
        subst (λ u. IsValidTransition d u → IsBeginning u.process.variables x → FitsTransition d u x) same (begin_fits d p q x) h b
