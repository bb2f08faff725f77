-- Actors and their numbers.
use Rattle.std.proofs.Common.{◌≡◌, ℕ, zero, suc, ◌+◌, ◌<◌, ◌≤◌, ◌⊎◌, inl, inr, ⊎_elim, Bool, true, false, if◌then◌else◌, List, [], ◌∷◌, ◌++◌, length, take, Some, refl, sym, ap, ◌∙◌, subst, arith}
use Rattle.std.specs.Prelude.{slice_get, option_map, All, nat_eq}
use Rattle.std.proofs.lemmas.List.{length-append}
use Rattle.std.proofs.lemmas.List.Elements.{All-head, All-tail}
use Rattle.std.proofs.lemmas.List.Sums.{sum_by-cons}
use Rattle.std.proofs.lemmas.Bool.Decides.{nat_tests}
use Rattle.std.proofs.lemmas.Option.{same_Some, none-some}
use Rattle.turn_code.specs.declared.draft.DraftProcess.{DraftProcess}
use Rattle.actor_machine.specs.Names.{named, instances_from, names_from, counts_of, actors_of, same_actor, place_of}
use Rattle.actor_machine.specs.NameLaws.{instances_in, IsInstance, ActorsLaw}
use Rattle.actor_machine.specs.declared.name.ActorName.{ActorName}
use Rattle.actor_machine.proofs.NameStanding.{stands_there}

-- ---- lists

in_front : {A : Type 0} (xs ys : List A) (n : ℕ) (x : A) → slice_get xs n ≡ Some x → slice_get (xs ++ ys) n ≡ Some x
in_front [] ys n x e = absurd (none-some x e)
in_front (z ∷ xs) ys zero x e = e
in_front (z ∷ xs) ys (suc n) x e = in_front xs ys n x e

behind : {A : Type 0} (xs ys : List A) (m n : ℕ) → m ≡ length xs + n → slice_get (xs ++ ys) m ≡ slice_get ys n
behind [] ys m n e = ap (slice_get ys) (let f : m ≡ n = omega (arith, e) in f)
behind (z ∷ xs) ys zero n e = absurd (omega (arith, e))
behind (z ∷ xs) ys (suc m) n e = behind xs ys m n (omega (arith, e))

either_part : {A : Type 0} (xs ys : List A) (n : ℕ) (x : A) → slice_get (xs ++ ys) n ≡ Some x
    → (slice_get xs n ≡ Some x) ⊎ ((j : ℕ) × (n ≡ length xs + j) × (slice_get ys j ≡ Some x))
either_part [] ys n x e = inr (n, omega arith, e)
either_part (z ∷ xs) ys zero x e = inl e
either_part {A} (z ∷ xs) ys (suc n) x e =
    ⊎_elim (λ h. inl h) (λ (h : (j : ℕ) × (n ≡ length xs + j) × (slice_get ys j ≡ Some x)). inr (h.0, (let f = h.1 in omega (arith, f)), h.2)) (either_part xs ys n x e)

-- ---- the instances of one process

pub instances_count : (p k n : ℕ) → length (instances_from p k n) ≡ n
instances_count p k zero = refl
instances_count p k (suc n) = ap suc (instances_count p (suc k) n)

instance_at : (p k n j : ℕ) → j < n → slice_get (instances_from p k n) j ≡ Some (named p (k + j))
instance_at p k zero j e = absurd (omega (arith, e))
instance_at p k (suc n) zero e = ap (λ (m : ℕ). Some (named p m)) (let f : k ≡ k + 0 = omega arith in f)
instance_at p k (suc n) (suc j) e = instance_at p (suc k) n j (omega (arith, e)) ∙ ap (λ (m : ℕ). Some (named p m)) (let f : suc k + j ≡ k + suc j = omega arith in f)

-- the name at place j
is_instance : (p k n j : ℕ) (x : ActorName) → slice_get (instances_from p k n) j ≡ Some x → x ≡ named p (k + j)
is_instance p k zero j x e = absurd (none-some x e)
is_instance p k (suc n) zero x e = sym (same_Some (named p k) x e) ∙ ap (named p) (let f : k ≡ k + 0 = omega arith in f)
is_instance p k (suc n) (suc j) x e = is_instance p (suc k) n j x e ∙ ap (named p) (let f : suc k + j ≡ k + suc j = omega arith in f)

instance_inside : (p k n j : ℕ) (x : ActorName) → slice_get (instances_from p k n) j ≡ Some x → j < n
instance_inside p k zero j x e = absurd (none-some x e)
instance_inside p k (suc n) zero x e = omega arith
instance_inside p k (suc n) (suc j) x e = let h = instance_inside p (suc k) n j x e in omega (arith, h)

-- ---- the instances of all processes

all_count : (q : ℕ) (ps : List DraftProcess) → length (names_from q (counts_of ps)) ≡ instances_in ps
all_count q [] = refl
all_count q (p ∷ ps) =
    let one = instances_count q 1 p.instances in
    let rest = all_count (suc q) ps in
    let both = length-append (instances_from q 1 p.instances) (names_from (suc q) (counts_of ps)) in
    let sums = sum_by-cons (λ (p : DraftProcess). p.instances) p ps in
    omega (arith, one, rest, both, sums)

placed_from : (q : ℕ) (ps : List DraftProcess) (p k : ℕ) (x : DraftProcess) → slice_get ps p ≡ Some x → k < x.instances
    → slice_get (names_from q (counts_of ps)) (instances_in (take p ps) + k) ≡ Some (named (q + p) (k + 1))
placed_from q [] p k x e few = absurd (none-some x e)
placed_from q (y ∷ ys) zero k x e few =
    let less : k < y.instances = subst (λ (z : DraftProcess). k < z.instances) (sym (same_Some y x e)) few in
    ap (slice_get (names_from q (counts_of (y ∷ ys)))) (let f : 0 + k ≡ k = omega arith in f)
    ∙ in_front (instances_from q 1 y.instances) (names_from (suc q) (counts_of ys)) k (named q (1 + k)) (instance_at q 1 y.instances k less)
    ∙ ap (λ (n : ℕ). Some (named n (1 + k))) (let f : q ≡ q + 0 = omega arith in f)
    ∙ ap (λ (n : ℕ). Some (named (q + 0) n)) (let f : 1 + k ≡ k + 1 = omega arith in f)
placed_from q (y ∷ ys) (suc p) k x e few =
    let sums = sum_by-cons (λ (p : DraftProcess). p.instances) y (take p ys) in
    let long = instances_count q 1 y.instances in
    behind (instances_from q 1 y.instances) (names_from (suc q) (counts_of ys)) (instances_in (take (suc p) (y ∷ ys)) + k) (instances_in (take p ys) + k) (omega (arith, sums, long))
    ∙ placed_from (suc q) ys p k x e few
    ∙ ap (λ (n : ℕ). Some (named n (k + 1))) (let f : suc q + p ≡ q + suc p = omega arith in f)

-- the place of a name, by its process and its instance
record Located (q n : ℕ) (ps : List DraftProcess) (x : ActorName) : Type 0 where
  before : ℕ
  own : DraftProcess
  there : slice_get ps before ≡ Some own
  least : 1 ≤ x.instance.0
  most : x.instance.0 ≤ own.instances
  process : x.process.0 ≡ q + before
  number : n + 1 ≡ instances_in (take before ps) + x.instance.0

located : (q : ℕ) (ps : List DraftProcess) (n : ℕ) (x : ActorName) → slice_get (names_from q (counts_of ps)) n ≡ Some x → Located q n ps x
located q [] n x e = absurd (none-some x e)
located q (y ∷ ys) n x e =
    ⊎_elim
    (λ (h : slice_get (instances_from q 1 y.instances) n ≡ Some x).
    let is = is_instance q 1 y.instances n x h in
    let process : x.process.0 ≡ q = ap (λ (z : ActorName). z.process.0) is in
    let instance : x.instance.0 ≡ 1 + n = ap (λ (z : ActorName). z.instance.0) is in
    let few = instance_inside q 1 y.instances n x h in
    record {
      before = 0;
      own = y;
      there = refl;
      least = omega (arith, instance);
      most = omega (arith, instance, few);
      process = omega (arith, process);
      number = omega (arith, instance);
    })
    (λ (h : (j : ℕ) × (n ≡ length (instances_from q 1 y.instances) + j) × (slice_get (names_from (suc q) (counts_of ys)) j ≡ Some x)).
    let rest = located (suc q) ys h.0 x h.2 in
    let long = instances_count q 1 y.instances in
    let at = h.1 in
    let process = rest.process in
    let number = rest.number in
    let sums = sum_by-cons (λ (p : DraftProcess). p.instances) y (take rest.before ys) in
    record {
      before = suc rest.before;
      own = rest.own;
      there = rest.there;
      least = rest.least;
      most = rest.most;
      process = omega (arith, process);
      number = omega (arith, long, at, number, sums);
    })
    (either_part (instances_from q 1 y.instances) (names_from (suc q) (counts_of ys)) n x e)

stands_once : (ps : List DraftProcess) (m n : ℕ) (x : ActorName) → slice_get (actors_of ps) m ≡ Some x → slice_get (actors_of ps) n ≡ Some x → m ≡ n
stands_once ps m n x e f =
    let a = located 0 ps m x e in
    let b = located 0 ps n x f in
    let same : a.before ≡ b.before = (let p = a.process in let q = b.process in omega (arith, p, q)) in
    let alike : instances_in (take a.before ps) ≡ instances_in (take b.before ps) = ap (λ (k : ℕ). instances_in (take k ps)) same in
    let p = a.number in
    let q = b.number in
    omega (arith, alike, p, q)

own_name : (x : ActorName) → same_actor x x ≡ true
own_name x =
    let p : nat_eq x.process.0 x.process.0 ≡ true = grind (arith, nat_tests) in
    let k : nat_eq x.instance.0 x.instance.0 ≡ true = grind (arith, nat_tests) in
    ap (λ (b : Bool). if b then nat_eq x.instance.0 x.instance.0 else false) p ∙ k

-- a name at some place has a first place
first_place : (x : ActorName) (names : List ActorName) (n : ℕ) → slice_get names n ≡ Some x → (m : ℕ) × (place_of x names ≡ Some m)
first_place x [] n e = absurd (none-some x e)
first_place x (y ∷ ys) zero e =
    let same : same_actor x y ≡ true = subst (λ (z : ActorName). same_actor x z ≡ true) (sym (same_Some y x e)) (own_name x) in
    (0, ap (λ (b : Bool). if b then Some 0 else option_map (λ n. suc n) (place_of x ys)) same)
first_place x (y ∷ ys) (suc n) e = by (first_place x ys n e) (same_actor x y)
  where
    by : (m : ℕ) × (place_of x ys ≡ Some m) → (b : Bool) → (m : ℕ) × ((if b then Some 0 else option_map (λ n. suc n) (place_of x ys)) ≡ Some m)
    by rest true = (0, refl)
    by rest false = (suc rest.0, ap (option_map (λ n. suc n)) rest.1)

place_first : (ps : List DraftProcess) (n : ℕ) (x : ActorName) → slice_get (actors_of ps) n ≡ Some x → place_of x (actors_of ps) ≡ Some n
place_first ps n x e =
    let first = first_place x (actors_of ps) n e in
    first.1 ∙ ap (λ (m : ℕ). Some m) (stands_once ps first.0 n x (stands_there x (actors_of ps) first.0 first.1) e)

is_one_of : (ps : List DraftProcess) (n : ℕ) (x : ActorName) → slice_get (actors_of ps) n ≡ Some x → IsInstance ps x
is_one_of ps n x e =
    let at = located 0 ps n x e in
    record {
      process = at.own;
      there = ap (slice_get ps) (let p = at.process in let f : x.process.0 ≡ at.before = omega (arith, p) in f) ∙ at.there;
      least = at.least;
      most = at.most;
    }

-- ---- sets of one

ones_before : (ps : List DraftProcess) (p : ℕ) → All (λ (x : DraftProcess). x.instances ≡ 1) ps → p ≤ length ps → instances_in (take p ps) ≡ p
ones_before ps zero one few = refl
ones_before [] (suc p) one few = absurd (omega (arith, few))
ones_before (y ∷ ys) (suc p) one few =
    let head : y.instances ≡ 1 = All-head (λ (x : DraftProcess). x.instances ≡ 1) y ys one in
    let rest = ones_before ys p (All-tail (λ (x : DraftProcess). x.instances ≡ 1) y ys one) (omega (arith, few)) in
    let sums = sum_by-cons (λ (p : DraftProcess). p.instances) y (take p ys) in
    omega (arith, head, rest, sums)

pub there : {A : Type 0} (xs : List A) (n : ℕ) → n < length xs → (x : A) × (slice_get xs n ≡ Some x)
there [] n few = absurd (omega (arith, few))
there (x ∷ xs) zero few = (x, refl)
there (x ∷ xs) (suc n) few = there xs n (omega (arith, few))

one_of : (ps : List DraftProcess) (p : ℕ) (x : DraftProcess) → All (λ (x : DraftProcess). x.instances ≡ 1) ps → slice_get ps p ≡ Some x → x.instances ≡ 1
one_of [] p x one e = absurd (none-some x e)
one_of (y ∷ ys) zero x one e = subst (λ (z : DraftProcess). z.instances ≡ 1) (same_Some y x e) (All-head (λ (x : DraftProcess). x.instances ≡ 1) y ys one)
one_of (y ∷ ys) (suc p) x one e = one_of ys p x (All-tail (λ (x : DraftProcess). x.instances ≡ 1) y ys one) e

ones_stay : (ps : List DraftProcess) (p : ℕ) → All (λ (x : DraftProcess). x.instances ≡ 1) ps → p < length ps → slice_get (actors_of ps) p ≡ Some (named p 1)
ones_stay ps p one few =
    let x = there ps p few in
    let single = one_of ps p x.0 one x.1 in
    let before = ones_before ps p one (omega (arith, few)) in
    ap (slice_get (actors_of ps)) (let f : p ≡ instances_in (take p ps) + 0 = omega (arith, before) in f)
    ∙ placed_from 0 ps p 0 x.0 x.1 (omega (arith, single))
    ∙ ap (λ (n : ℕ). Some (named n 1)) (let f : 0 + p ≡ p = omega arith in f)

pub actors_law : ActorsLaw
actors_law = record {
  count = all_count 0;
  placed = λ ps p k x e few. placed_from 0 ps p k x e few ∙ ap (λ (n : ℕ). Some (named n (k + 1))) (let f : 0 + p ≡ p = omega arith in f);
  numbers = λ ps n x. (place_first ps n x, stands_there x (actors_of ps) n);
  instances = is_one_of;
  ones = ones_stay;
}
