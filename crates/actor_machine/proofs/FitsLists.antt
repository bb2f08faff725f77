-- Lists in which one element changes, and lists whose elements all have a property.
use Rattle.std.proofs.Common.{◌≡◌, ◌≢◌, ℕ, zero, suc, Bool, true, false, cond, List, [], ◌∷◌, map, ap, Option, Some, None, refl, sym, ◌∙◌, subst, inl, inr, arith}
use Rattle.std.specs.Prelude.{slice_get, slice_set, option_map, position, filter, Contains}
use Rattle.std.specs.List.{AllByRecursion}
use Rattle.std.proofs.lemmas.Option.{same_Some, none-some, slice_get-get_or, slice_get-map}
use Rattle.std.proofs.lemmas.Bool.Decides.{eqb_tells}
use Rattle.std.proofs.lemmas.List.Quantifiers.{position-Some}
use Rattle.actor_machine.specs.declared.name.ActorName.{ActorName}
use Rattle.actor_machine.specs.Core.{change, change_found, set_at, names_in}
use Rattle.actor_machine.specs.declared.actor.Actor.{Actor}
use Rattle.plain_laws.proofs.Places.{written_same, get_set_other as written_other}

-- P holds of each element with its place
abbrev pub EachAt : {A : Type 0} → (ℕ → A → Type 0) → List A → Type 0
EachAt {A} P xs = (k : ℕ) (a : A) → slice_get xs k ≡ Some a → P k a

-- ---- a write to one element

change_other : {A : Type 0} (xs : List A) (n k : ℕ) (f : A → A) → k ≢ n → slice_get (change xs n f) k ≡ slice_get xs k
change_other {A} xs n k f other = by (slice_get xs n)
  where
    by : (o : Option A) → slice_get (set_at xs n f o) k ≡ slice_get xs k
    by None = refl
    by (Some x) = written_other xs n k (f x) other

change_same : {A : Type 0} (xs : List A) (n : ℕ) (f : A → A) (a : A) → slice_get (change xs n f) n ≡ Some a → (x : A) × (slice_get xs n ≡ Some x) × (f x ≡ a)
change_same {A} xs n f a h = by (slice_get xs n) refl h
  where
    by : (o : Option A) → slice_get xs n ≡ o → slice_get (set_at xs n f o) n ≡ Some a → (x : A) × (slice_get xs n ≡ Some x) × (f x ≡ a)
    by None e g = absurd (none-some a (sym e ∙ g))
    by (Some x) e g = (x, e, same_Some (f x) a (sym (written_same xs n x (f x) e) ∙ g))

-- what is read of each element stays, if the change of one element keeps it
map_set : {A B : Type 0} (g : A → B) (xs : List A) (n : ℕ) (x y : A) → slice_get xs n ≡ Some x → g y ≡ g x → map g (slice_set xs n y) ≡ map g xs
map_set g [] n x y e h = absurd (none-some x e)
map_set g (z ∷ xs) zero x y e h = ap (λ u. u ∷ map g xs) (h ∙ ap g (sym (same_Some z x e)))
map_set g (z ∷ xs) (suc n) x y e h = ap (λ us. g z ∷ us) (map_set g xs n x y e h)

change_map : {A B : Type 0} (g : A → B) (xs : List A) (n : ℕ) (f : A → A) → ((a : A) → g (f a) ≡ g a) → map g (change xs n f) ≡ map g xs
change_map {A} g xs n f keeps = by (slice_get xs n) refl
  where
    by : (o : Option A) → slice_get xs n ≡ o → map g (set_at xs n f o) ≡ map g xs
    by None e = refl
    by (Some x) e = map_set g xs n x (f x) e (keeps x)

-- each actor keeps its name
unfoldable pub NamesStay : (Actor → Actor) → Type 0
NamesStay f = (a : Actor) → (f a).name ≡ a.name

pub names_change : (xs : List Actor) (n : ℕ) (f : Actor → Actor) → NamesStay f → names_in (change xs n f) ≡ names_in xs
unfolding NamesStay
names_change xs n f keeps = change_map (λ (a : Actor). a.name) xs n f keeps

pub names_found : (xs : List Actor) (o : Option ℕ) (f : Actor → Actor) → NamesStay f → names_in (change_found xs o f) ≡ names_in xs
names_found xs None f keeps = refl
names_found xs (Some n) f keeps = names_change xs n f keeps

-- an actor's name by its number
pub name_there : (xs : List Actor) (n : ℕ) (a : Actor) → slice_get xs n ≡ Some a → slice_get (names_in xs) n ≡ Some a.name
name_there xs n a e = slice_get-map (λ (a : Actor). a.name) xs n ∙ ap (option_map (λ (a : Actor). a.name)) e

pub name_is : (xs : List Actor) (n : ℕ) (a : Actor) (x : ActorName) → slice_get xs n ≡ Some a → slice_get (names_in xs) n ≡ Some x → a.name ≡ x
name_is xs n a x e at = same_Some a.name x (sym (name_there xs n a e) ∙ at)

-- the other elements keep their property, and the changed element gets it
pub change_each : {A : Type 0} (P Q : ℕ → A → Type 0) (xs : List A) (n : ℕ) (f : A → A) → EachAt P xs
    → ((k : ℕ) (a : A) → k ≢ n → P k a → Q k a) → ((a : A) → slice_get xs n ≡ Some a → P n a → Q n (f a)) → EachAt Q (change xs n f)
change_each {A} P Q xs n f each others one = λ k a h.
    elim (eqb_tells k n) [
      | inl same ↦
          let found = change_same xs n f a (subst (λ j. slice_get (change xs n f) j ≡ Some a) same.1 h) in
          subst (λ j. Q j a) (sym same.1) (subst (Q n) found.2 (one found.0 found.1 (each n found.0 found.1)))
      | inr other ↦ others k a other.1 (each k a (sym (change_other xs n k f other.1) ∙ h))
    ]

-- ---- each element of a list

pub all_filter : {A : Type 0} (P : A → Type 0) (p : A → Bool) (xs : List A) → AllByRecursion P xs → AllByRecursion P (filter p xs)
all_filter P p [] all = tt
all_filter P p (x ∷ xs) all =
    let rest = all_filter P p xs all.1 in
    elim (p x) as (λ b. AllByRecursion P (cond b (x ∷ filter p xs) (filter p xs))) [
      | true ↦ (all.0, rest)
      | false ↦ rest
    ]

pub all_from_each : {A : Type 0} (P : A → Type 0) (xs : List A) → ((x : A) → Contains xs x → P x) → AllByRecursion P xs
all_from_each P [] each = tt
all_from_each P (x ∷ xs) each = (each x (zero, omega arith, refl), all_from_each P xs (λ y has. each y (suc has.0, omega (arith, has.1), has.2)))

-- ---- the element found by a test

-- the first element that passes a test
pub found_first : {A : Type 0} (p : A → Bool) (xs : List A) (i : ℕ) → position p xs ≡ Some i → (x : A) × (slice_get xs i ≡ Some x) × (p x ≡ true)
found_first p [] i h = cc
found_first p (y ∷ xs) i h =
    let at = position-Some p (y ∷ xs) i y h in
    (_, slice_get-get_or (y ∷ xs) i y at.0, at.1)
