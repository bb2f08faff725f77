-- The actors of a set in an opened link.
use Rattle.std.proofs.Common.{◌≡◌, ℕ, zero, suc, ◌+◌, List, [], ◌∷◌, ◌++◌, map, Some, refl, ap, ◌∙◌, subst, arith}
use Rattle.std.specs.Prelude.{slice_get}
use Rattle.std.specs.List.{AllByRecursion}
use Rattle.std.proofs.lemmas.List.{map-append}
use Rattle.std.proofs.lemmas.Option.{same_Some, none-some}
use Rattle.turn_code.specs.declared.draft.DraftProcess.{DraftProcess}
use Rattle.actor_machine.specs.Names.{named, instances_from, names_from, counts_of}
use Rattle.actor_machine.specs.declared.name.ActorName.{ActorName}
use Rattle.actor_machine.specs.Core.{names_in}
use Rattle.actor_machine.specs.Kept.{opened_actor, opened_from}
use Rattle.actor_machine.specs.declared.actor.Actor.{Actor}

-- P holds of each element, by its number
pub each_of : {A : Type 0} (P : A → Type 0) (xs : List A) → AllByRecursion P xs → (n : ℕ) (a : A) → slice_get xs n ≡ Some a → P a
each_of P [] all n a e = absurd (none-some a e)
each_of P (x ∷ xs) all zero a e = subst P (same_Some x a e) all.0
each_of P (x ∷ xs) all (suc n) a e = each_of P xs all.1 n a e

pub both_parts : {A : Type 0} (P : A → Type 0) (xs ys : List A) → AllByRecursion P xs → AllByRecursion P ys → AllByRecursion P (xs ++ ys)
both_parts P [] ys all more = more
both_parts P (x ∷ xs) ys all more = (all.0, both_parts P xs ys all.1 more)

-- each actor is an instance of some process before its START
module _ (P : Actor → Type 0) (port : ℕ) where
  some_all : (n k count : ℕ) (p : DraftProcess) → ((x : ActorName) → x.process.0 ≡ n → P (opened_actor port p x))
      → AllByRecursion P (map (opened_actor port p) (instances_from n k count))
  some_all n k zero p one = tt
  some_all n k (suc count) p one = (one (named n k) refl, some_all n (suc k) count p one)

  pub opened_all : (n : ℕ) (ps : List DraftProcess) → ((k : ℕ) (p : DraftProcess) (x : ActorName) → slice_get ps k ≡ Some p → x.process.0 ≡ n + k → P (opened_actor port p x))
      → AllByRecursion P (opened_from port n ps)
  opened_all n [] one = tt
  opened_all n (p ∷ ps) one =
      both_parts P (map (opened_actor port p) (instances_from n 1 p.instances)) (opened_from port (suc n) ps)
      (some_all n 1 p.instances p (λ x e. one 0 p x refl (omega (arith, e))))
      (opened_all (suc n) ps (λ k q x there e. one (suc k) q x there (omega (arith, e))))

-- the names of the actors are those of the set
names_some : (port n k count : ℕ) (p : DraftProcess) → names_in (map (opened_actor port p) (instances_from n k count)) ≡ instances_from n k count
names_some port n k zero p = refl
names_some port n k (suc count) p = ap (λ (xs : List ActorName). named n k ∷ xs) (names_some port n (suc k) count p)

pub opened_names : (port n : ℕ) (ps : List DraftProcess) → names_in (opened_from port n ps) ≡ names_from n (counts_of ps)
opened_names port n [] = refl
opened_names port n (p ∷ ps) =
    let first = map (opened_actor port p) (instances_from n 1 p.instances) in
    map-append (λ (a : Actor). a.name) first (opened_from port (suc n) ps)
    ∙ (ap (λ (xs : List ActorName). xs ++ names_in (opened_from port (suc n) ps)) (names_some port n 1 p.instances p)
    ∙ ap (λ (xs : List ActorName). instances_from n 1 p.instances ++ xs) (opened_names port (suc n) ps))
