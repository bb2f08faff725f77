-- A store to a variable: the machine does what the definition says.
use Rattle.std.proofs.Common.{◌≡◌, ℕ, ◌<◌, ◌≤◌, List, ◌∷◌, length, Option, Some, refl, ap, ◌∙◌, subst}
use Rattle.std.specs.Prelude.{slice_get, slice_set}
use Rattle.std.specs.List.{refill}
use Rattle.std.proofs.lemmas.Option.{slice_get_past}
use Rattle.turn_code.proofs.Lists.{refill_set}
use Rattle.turn_code.specs.Run.{Progress, goes, stuck, stored, on_top, tick, with_variables}
use Rattle.turn_code.specs.declared.value.Value.{Value}
use Rattle.turn_code.specs.declared.trouble.Trouble.TheVariants.{Unset}
use Rattle.plain_laws.proofs.Places.{there_is as there}

pub store_there : (k : ℕ) (os rest : List Value) (s : Progress) (v p : ℕ) (x : Value) (ws : List (Option Value))
    → os ≡ x ∷ rest → p ≡ v → p < length s.variables → ws ≡ s.variables
    → goes k rest (with_variables (tick s) (refill (length s.variables) s.variables (slice_set ws p (Some x))))
    ≡ on_top os (λ x rest. stored k rest (tick s) v x (slice_get s.variables v))
store_there k os rest s v p x ws e f h w =
    let old = there s.variables v (subst (λ u. u < length s.variables) f h) in
    rw (e, old.1) (
    ap (λ u. goes k rest (with_variables (tick s) u)) (refill_set s.variables ws p (Some x) w ∙ ap (λ u. slice_set s.variables u (Some x)) f))

pub store_gone : (k : ℕ) (os rest : List Value) (s : Progress) (v p : ℕ) (x : Value)
    → os ≡ x ∷ rest → p ≡ v → length s.variables ≤ p
    → stuck Unset ≡ on_top os (λ x rest. stored k rest (tick s) v x (slice_get s.variables v))
store_gone k os rest s v p x e f h =
    let past = slice_get_past s.variables v (subst (λ u. length s.variables ≤ u) f h) in
    rw (e, past) refl
