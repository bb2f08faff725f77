-- The place of a name in a list.
use Rattle.std.proofs.Common.{◌≡◌, ℕ, suc, Bool, true, false, if◌then◌else◌, List, [], ◌∷◌, Option, Some, None, refl, sym, ap, subst, eqb-true}
use Rattle.std.specs.Prelude.{slice_get, option_map, ◌==◌}
use Rattle.std.proofs.lemmas.Bool.{false≢true}
use Rattle.std.proofs.lemmas.Option.{same_Some, none-some}
use Rattle.actor_machine.specs.Names.{same_actor, place_of, number_for, first_some}
use Rattle.actor_machine.specs.declared.name.ActorName.{ActorName}
use Rattle.turn_code.specs.declared.numbers.ProcessNumber.{ProcessNumber}
use Rattle.turn_code.specs.declared.numbers.InstanceNumber.{InstanceNumber}

pub one_actor : (x y : ActorName) → same_actor x y ≡ true → x ≡ y
one_actor x y e = by_process (x.process.0 == y.process.0) refl e
  where
    by_process : (b : Bool) → (x.process.0 == y.process.0) ≡ b → (if b then x.instance.0 == y.instance.0 else false) ≡ true → x ≡ y
    by_process true f e =
        let p : x.process.0 ≡ y.process.0 = eqb-true x.process.0 y.process.0 f in
        let k : x.instance.0 ≡ y.instance.0 = eqb-true x.instance.0 y.instance.0 e in
        λ i. record { process = record { 0 = p i }; instance = record { 0 = k i } }
    by_process false f e = absurd (false≢true e)

-- the name is at the place that the look-up returns
pub stands_there : (x : ActorName) (names : List ActorName) (n : ℕ) → place_of x names ≡ Some n → slice_get names n ≡ Some x
stands_there x [] n e = absurd (none-some n e)
stands_there x (y ∷ ys) n e = by_first (λ m f. stands_there x ys m f) (same_actor x y) refl e
  where
    by_rest : ((m : ℕ) → place_of x ys ≡ Some m → slice_get ys m ≡ Some x) → (o : Option ℕ) (n : ℕ) → place_of x ys ≡ o → option_map (λ n. suc n) o ≡ Some n → slice_get (y ∷ ys) n ≡ Some x
    by_rest rest None n f e = absurd (none-some n e)
    by_rest rest (Some m) n f e = subst (λ (n : ℕ). slice_get (y ∷ ys) n ≡ Some x) (same_Some (suc m) n e) (rest m f)

    by_first : ((m : ℕ) → place_of x ys ≡ Some m → slice_get ys m ≡ Some x) → (b : Bool) → same_actor x y ≡ b → (if b then Some 0 else option_map (λ n. suc n) (place_of x ys)) ≡ Some n → slice_get (y ∷ ys) n ≡ Some x
    by_first rest true f e = subst (λ (n : ℕ). slice_get (y ∷ ys) n ≡ Some x) (same_Some 0 n e) (ap (λ (z : ActorName). Some z) (sym (one_actor x y f)))
    by_first rest false f e = by_rest rest (place_of x ys) n refl e

-- the receiver of a signal to a process is an actor of that process
pub record IsOfProcess (names : List ActorName) (p : ProcessNumber) (n : ℕ) : Type 0 where
  pub name : ActorName
  pub there : slice_get names n ≡ Some name
  pub process : name.process ≡ p

of_process : (names : List ActorName) (p : ProcessNumber) (k : InstanceNumber) (n : ℕ) → place_of (record { process = p; instance = k }) names ≡ Some n → IsOfProcess names p n
of_process names p k n e = record { name = record { process = p; instance = k }; there = stands_there (record { process = p; instance = k }) names n e; process = refl }

pub right_process : (names : List ActorName) (me : ActorName) (p : ProcessNumber) (k : Option InstanceNumber) (n : ℕ) → number_for names me p k ≡ Some n → IsOfProcess names p n
right_process names me p (Some k) n e = of_process names p k n e
right_process names me p None n e = by_own (place_of (record { process = p; instance = me.instance }) names) refl e
  where
    by_own : (o : Option ℕ) → place_of (record { process = p; instance = me.instance }) names ≡ o
        → first_some o (place_of (record { process = p; instance = record { 0 = 1 } }) names) ≡ Some n → IsOfProcess names p n
    by_own None f e = of_process names p (record { 0 = 1 }) n e
    by_own (Some m) f e = subst (λ (n : ℕ). IsOfProcess names p n) (same_Some m n e) (of_process names p me.instance m f)
