-- The numbers of actors of a valid set, by the counts of instances.
use Rattle.std.proofs.Common.{◌≡◌, ℕ, zero, suc, ◌+◌, ◌-◌, ◌<◌, ◌≤◌, List, [], ◌∷◌, length, take, Option, None, Some, refl, sym, ap, ◌∙◌, arith}
use Rattle.std.specs.Prelude.{slice_get}
use Rattle.std.proofs.lemmas.List.Sums.{sum_by-cons}
use Rattle.std.proofs.lemmas.Option.{same_Some, none-some}
use Rattle.turn_code.specs.Valid.{IsValid}
use Rattle.turn_code.specs.declared.draft.Draft.{Draft}
use Rattle.turn_code.specs.declared.draft.DraftProcess.{DraftProcess}
use Rattle.turn_check.specs.Named.{instances_of, instances_at}
use Rattle.turn_check.proofs.Whole.{process_small}
use Rattle.actor_machine.specs.Names.{named, actors_of, place_of}
use Rattle.actor_machine.specs.NameLaws.{instances_in, IsInstance}
use Rattle.actor_machine.specs.declared.name.ActorName.{ActorName}
use Rattle.actor_machine.proofs.Numbering.{actors_law, there}

-- one process more
next_process : (ps : List DraftProcess) (n : ℕ) → n < length ps → instances_in (take (suc n) ps) ≡ instances_in (take n ps) + instances_of (slice_get ps n)
next_process [] n few = absurd (omega (arith, few))
next_process (p ∷ ps) zero few = let sums = sum_by-cons (λ (p : DraftProcess). p.instances) p (take 0 ps) in omega (arith, sums)
next_process (p ∷ ps) (suc n) few =
    let rest = next_process ps n (omega (arith, few)) in
    let now = sum_by-cons (λ (p : DraftProcess). p.instances) p (take (suc n) ps) in
    let before = sum_by-cons (λ (p : DraftProcess). p.instances) p (take n ps) in
    omega (arith, rest, now, before)

pub process_more : (ps : List DraftProcess) (n : ℕ) → n < length ps → instances_in (take (n + 1) ps) ≡ instances_in (take n ps) + instances_of (slice_get ps n)
process_more ps n few = ap (λ (k : ℕ). instances_in (take k ps)) (let e : n + 1 ≡ suc n = omega arith in e) ∙ next_process ps n few

-- each process of a valid set has an instance
some_instance : (d : Draft) → IsValid d → (p : ℕ) (x : DraftProcess) → slice_get d.processes p ≡ Some x → 1 ≤ x.instances
some_instance d valid p x e = (process_small d p x valid e).some

-- instance k + 1 of a process follows the instances of all earlier processes and k instances of its own
numbered_at : (d : Draft) (p k n : ℕ) (x : DraftProcess) → slice_get d.processes p ≡ Some x → k < x.instances → n ≡ instances_in (take p d.processes) + k
    → place_of (named p (k + 1)) (actors_of d.processes) ≡ Some n
numbered_at d p k n x e less at =
    (actors_law.numbers d.processes n (named p (k + 1))).0 (ap (slice_get (actors_of d.processes)) at ∙ actors_law.placed d.processes p k x e less)

pub first_number : (d : Draft) → IsValid d → (p n : ℕ) → p < length d.processes → n ≡ instances_in (take p d.processes)
    → place_of (named p 1) (actors_of d.processes) ≡ Some n
first_number d valid p n less at =
    let x = there d.processes p less in
    let one = some_instance d valid p x.0 x.1 in
    ap (λ (k : ℕ). place_of (named p k) (actors_of d.processes)) (let e : 1 ≡ 0 + 1 = omega arith in e)
    ∙ numbered_at d p 0 n x.0 x.1 (omega (arith, one)) (omega (arith, at))

-- ---- the number of an actor, from that of its process's first instance

first_is : (d : Draft) → IsValid d → (p n : ℕ) → p < length d.processes → place_of (named p 1) (actors_of d.processes) ≡ Some n → n ≡ instances_in (take p d.processes)
first_is d valid p n less e = same_Some n (instances_in (take p d.processes)) (sym e ∙ first_number d valid p (instances_in (take p d.processes)) less refl)

pub is_there : (d : Draft) (p k : ℕ) → 1 ≤ k → k ≤ instances_at d p → p < length d.processes
is_there d p k least most = by_process (slice_get d.processes p) refl
  where
    by_list : (ps : List DraftProcess) (p : ℕ) (x : DraftProcess) → slice_get ps p ≡ Some x → p < length ps
    by_list [] p x e = absurd (none-some x e)
    by_list (y ∷ ys) zero x e = omega arith
    by_list (y ∷ ys) (suc p) x e = let rest = by_list ys p x e in omega (arith, rest)

    by_process : (o : Option DraftProcess) → slice_get d.processes p ≡ o → p < length d.processes
    by_process None e = let none : instances_at d p ≡ 0 = ap instances_of e in absurd (omega (arith, none, least, most))
    by_process (Some x) e = by_list d.processes p x e

pub actor_number : (d : Draft) → IsValid d → (name : ActorName) (first : ℕ) → 1 ≤ name.instance.0 → name.instance.0 ≤ instances_at d name.process.0
    → place_of (named name.process.0 1) (actors_of d.processes) ≡ Some first → place_of name (actors_of d.processes) ≡ Some (first + name.instance.0 - 1)
actor_number d valid name first least most e =
    let less = is_there d name.process.0 name.instance.0 least most in
    let x = there d.processes name.process.0 less in
    let few : instances_at d name.process.0 ≡ x.0.instances = ap instances_of x.1 in
    let before = first_is d valid name.process.0 first less e in
    ap (λ (k : ℕ). place_of (named name.process.0 k) (actors_of d.processes)) (let f : name.instance.0 ≡ name.instance.0 - 1 + 1 = omega (arith, least) in f)
    ∙ numbered_at d name.process.0 (name.instance.0 - 1) (first + name.instance.0 - 1) x.0 x.1 (omega (arith, few, least, most)) (omega (arith, before, least))

-- there is no such instance
has_none : (d : Draft) (name : ActorName) → (IsInstance d.processes name → ⊥) → place_of name (actors_of d.processes) ≡ None
has_none d name never = by_place (place_of name (actors_of d.processes)) refl
  where
    by_place : (o : Option ℕ) → place_of name (actors_of d.processes) ≡ o → o ≡ None
    by_place None e = refl
    by_place (Some n) e = absurd (never (actors_law.instances d.processes n name ((actors_law.numbers d.processes n name).1 e)))

pub below_one : (d : Draft) (name : ActorName) → name.instance.0 < 1 → place_of name (actors_of d.processes) ≡ None
below_one d name low = has_none d name (λ (x : IsInstance d.processes name). let least = x.least in omega (arith, least, low))

pub above_all : (d : Draft) (name : ActorName) → instances_at d name.process.0 < name.instance.0 → place_of name (actors_of d.processes) ≡ None
above_all d name high =
    has_none d name (λ (x : IsInstance d.processes name). let most = x.most in let count : instances_at d name.process.0 ≡ x.process.instances = ap instances_of x.there in omega (arith, most, count, high))
