-- One instruction of a valid transition, at a place whose facts hold.
use Rattle.std.proofs.Common.{◌≡◌, ◌≢◌, ℕ, zero, suc, ◌+◌, ◌^◌, ◌<◌, ◌≤◌, ◌⊎◌, inl, inr, Bool as Truth, true, false, not, ◌&&◌, ◌||◌, if◌then◌else◌, eqb, ℤ, pos, negsuc, ◌+ℤ◌, ◌-ℤ◌, ◌*ℤ◌, neg_ℤ, max, List, [], ◌∷◌, ◌++◌, length, map, take, drop, reverse, Option, Some, refl, sym, ap, ◌∙◌, subst, ⊎_elim, arith}
use Rattle.std.proofs.lemmas.Bool.{le-leb, lt-ltb}
use Rattle.std.proofs.lemmas.List.{length-reverse}
use Rattle.std.specs.Prelude.{slice_get, slice_set, Contains, All, nat_le, int_lt, int_div, int_rem, ◌≤ℤ◌}
use Rattle.std.specs.Int.{bit_at, int_rem_euclid}
use Rattle.std.proofs.lemmas.Int.{ints}
use Rattle.std.proofs.lemmas.Nat.Bits.{bit_at_or, bit_at-pow_other}
use Rattle.std.proofs.Math.Nat.{max-zero}
use Rattle.std.proofs.lemmas.Bool.Decides.{eqb_tells}
use Rattle.turn_code.proofs.Lists.{within, zip_length, zip_set, get_map, map_length, map_drop, one_more, only, first_of}
use Rattle.turn_code.specs.Values.{sort_of, wrap, holds, is_between, differ}
use Rattle.turn_code.specs.Sets.{Has, with_variable}
use Rattle.turn_code.specs.Run.{Progress, After, goes, ends, stuck, with_effect, loaded, stored, given, on_top, on_integer, on_boolean, on_integers, on_booleans, on_operands, sent, sending, address_of, act}
use Rattle.turn_code.specs.Code.{sort_at, takes, gives, shape_left, shape_after, reads, sets, set_after, parameters_in, divisors_in, states_in, jumps, behind, effects_of}
use Rattle.turn_code.specs.Transitions.{parameters_of}
use Rattle.turn_code.specs.Rules.{Agree}
use Rattle.turn_code.specs.Fits.{HasSort, HaveSorts, AreSet}
use Rattle.turn_code.specs.declared.value.Sort.{Sort}
use Rattle.turn_code.specs.declared.value.Sort.TheVariants.{Integer, Boolean}
use Rattle.turn_code.specs.declared.value.Value.{Value}
use Rattle.turn_code.specs.declared.value.Value.TheVariants.{Int, Bool}
use Rattle.turn_code.specs.declared.effect.Effect.TheVariants as effect
use Rattle.turn_code.specs.declared.input.Input.{Input}
use Rattle.turn_code.specs.declared.input.Address.{Address}
use Rattle.turn_code.specs.declared.instruction.Receiver.{Receiver}
use Rattle.turn_code.specs.declared.instruction.Instruction.{Instruction}
use Rattle.turn_code.specs.declared.instruction.Instruction.TheVariants.{Int as PutInt, Bool as PutBool, Load, Store, Param, Add, Sub, Mul, Div, Mod, Rem, Neg, Not, And, Or, Xor, Same, Compare, Case, CaseWithin, Pick, Drop, Jump, Output, Set, Reset, Next, Stop}
use Rattle.turn_code.specs.declared.variable_set.VariableSet.{VariableSet}
use Rattle.turn_code.specs.declared.numbers.VariableNumber.{VariableNumber}
use Rattle.turn_code.specs.declared.numbers.SignalNumber.{SignalNumber}
use Rattle.turn_code.specs.declared.machine.End.{End}
use Rattle.turn_code.specs.declared.machine.End.TheVariants as end
use Rattle.turn_code.specs.declared.trouble.Trouble.TheVariants.{WrongSort}
use Rattle.turn_code.specs.declared.draft.DraftSignal.{DraftSignal}
use Rattle.turn_code.specs.declared.draft.DraftVariable.{DraftVariable}
use Rattle.plain_laws.proofs.Places.{there_is as there, written_same as get_set_same, get_set_other}
use Rattle.plain_laws.proofs.Pairwise.{zip_at}

-- an output takes as many parameters as its signal has, and it has a receiver
abbrev pub IsSent : List DraftSignal → Input → Instruction → Type 0
IsSent ss x (Output n r c) = (c ≡ length (parameters_of (slice_get ss n.0))) × (p : Address) × (address_of r x.sender ≡ Some p)
IsSent ss x _ = Unit {0}

-- what is known as the instruction i begins: ss are the signals, xs the variables, ps the sorts of the parameters and m
-- the variables that are set
pub record Before (ss : List DraftSignal) (xs : List DraftVariable) (ps : List Sort) (m : VariableSet) (i : Instruction) (x : Input) (os : List Value) (vs : List (Option Value)) : Type 0 where
  pub sorts : map sort_of x.parameters.items ≡ ps
  pub variables : HaveSorts xs vs
  pub set : AreSet m vs
  pub under : length (takes ss xs i) ≤ length (map sort_of os)
  pub agree : Agree (takes ss xs i) (map sort_of os)
  pub reads_set : All (Has m) (reads i)
  pub reads_there : All (λ v. v < length xs) (reads i)
  pub sets_there : All (λ v. v < length xs) (sets i)
  pub parameters : All (λ j. j < length ps) (parameters_in i)
  pub divisors : All (λ z. pos 1 ≤ℤ z) (divisors_in i)
  pub sent : IsSent ss x i

-- the instruction at k, with this shape, goes on at place j, where the shape is `left`
abbrev pub IsWay : List DraftSignal → List DraftVariable → List Sort → Instruction → ℕ → List Sort → ℕ → List Sort → Type 0
IsWay ss xs ps i k shape j left =
    (Contains (behind i k) j × (left ≡ shape_after ss xs ps i shape)) ⊎ (Contains (jumps i) j × (left ≡ shape_left ss xs i shape))

-- what holds if the code goes on at place j
pub record Goes (ss : List DraftSignal) (xs : List DraftVariable) (ps : List Sort) (m : VariableSet) (i : Instruction) (k : ℕ) (os : List Value) (j : ℕ) (os' : List Value) (s s' : Progress) : Type 0 where
  pub way : IsWay ss xs ps i k (map sort_of os) j (map sort_of os')
  pub variables : HaveSorts xs s'.variables
  pub set : AreSet (set_after i m) s'.variables
  pub effects : length s'.effects ≡ length s.effects + effects_of i

abbrev pub IsIn : Instruction → End → Type 0
IsIn i (end.State q) = Contains (states_in i) q.0
IsIn i end.Stop = Unit {0}

-- what holds if the transition ends
pub record Over (xs : List DraftVariable) (m : VariableSet) (i : Instruction) (e : End) (s s' : Progress) : Type 0 where
  pub named : IsIn i e
  pub variables : HaveSorts xs s'.variables
  pub set : AreSet (set_after i m) s'.variables
  pub effects : length s'.effects ≡ length s.effects + effects_of i

abbrev pub IsFine : List DraftSignal → List DraftVariable → List Sort → VariableSet → Instruction → ℕ → List Value → Progress → After → Type 0
IsFine ss xs ps m i k os s (goes j os' s') = Goes ss xs ps m i k os j os' s s'
IsFine ss xs ps m i k os s (ends e s') = Over xs m i e s s'
IsFine ss xs ps m i k os s (stuck x) = ⊥

-- ---- operands of the right sorts are there

pub integer_on_top : (P : After → Type 0) (os : List Value) (go : ℤ → List Value → After) → 1 ≤ length (map sort_of os) → Agree (Integer ∷ []) (map sort_of os)
    → ((z : ℤ) (rest : List Value) → map sort_of rest ≡ drop 1 (map sort_of os) → P (go z rest)) → P (on_integer os go)
integer_on_top P [] go h a f = absurd (omega arith)
integer_on_top P (Int z ∷ os) go h a f = f z os refl
integer_on_top P (Bool b ∷ os) go h a f = let e : Boolean ≡ Integer = a.0 in cc

boolean_on_top : (P : After → Type 0) (os : List Value) (go : Truth → List Value → After) → 1 ≤ length (map sort_of os) → Agree (Boolean ∷ []) (map sort_of os)
    → ((b : Truth) (rest : List Value) → map sort_of rest ≡ drop 1 (map sort_of os) → P (go b rest)) → P (on_boolean os go)
boolean_on_top P [] go h a f = absurd (omega arith)
boolean_on_top P (Int z ∷ os) go h a f = let e : Integer ≡ Boolean = a.0 in cc
boolean_on_top P (Bool b ∷ os) go h a f = f b os refl

integers_on_top : (P : After → Type 0) (os : List Value) (go : ℤ → ℤ → List Value → After) → 2 ≤ length (map sort_of os) → Agree (Integer ∷ Integer ∷ []) (map sort_of os)
    → ((y z : ℤ) (rest : List Value) → map sort_of rest ≡ drop 2 (map sort_of os) → P (go y z rest)) → P (on_integers os go)
integers_on_top P [] go h a f = absurd (omega arith)
integers_on_top P (y ∷ []) go h a f = absurd (omega arith)
integers_on_top P (Int y ∷ Int x ∷ os) go h a f = f x y os refl
integers_on_top P (Int y ∷ Bool x ∷ os) go h a f = let e : Boolean ≡ Integer = a.1.0 in cc
integers_on_top P (Bool y ∷ x ∷ os) go h a f = let e : Boolean ≡ Integer = a.0 in cc

booleans_on_top : (P : After → Type 0) (os : List Value) (go : Truth → Truth → List Value → After) → 2 ≤ length (map sort_of os) → Agree (Boolean ∷ Boolean ∷ []) (map sort_of os)
    → ((y z : Truth) (rest : List Value) → map sort_of rest ≡ drop 2 (map sort_of os) → P (go y z rest)) → P (on_booleans os go)
booleans_on_top P [] go h a f = absurd (omega arith)
booleans_on_top P (y ∷ []) go h a f = absurd (omega arith)
booleans_on_top P (Bool y ∷ Bool x ∷ os) go h a f = f x y os refl
booleans_on_top P (Bool y ∷ Int x ∷ os) go h a f = let e : Integer ≡ Boolean = a.1.0 in cc
booleans_on_top P (Int y ∷ x ∷ os) go h a f = let e : Integer ≡ Boolean = a.0 in cc

pub if_so : (P : After → Type 0) (b : Truth) (y z : After) → b ≡ true → P y → P (if b then y else z)
if_so P true y z e h = h
if_so P false y z e h = cc

either_way : (P : After → Type 0) (b : Truth) (y z : After) → P y → P z → P (if b then y else z)
either_way P true y z h i = h
either_way P false y z h i = i

pub above_0 : (z : ℤ) → pos 1 ≤ℤ z → int_lt (pos 0) z ≡ true
above_0 (pos zero) h = absurd (omega (arith, ints))
above_0 (pos (suc n)) h = lt-ltb 0 (suc n) (omega arith)
above_0 (negsuc n) h = absurd (omega (arith, ints))

-- a variable of a set with one more variable is that one, or was in the set before
has_more : (m : VariableSet) (v u : ℕ) → Has (with_variable m v) u → u ≢ v → Has m u
has_more m v u h ne =
    let either = bit_at_or m.0 (2 ^ v) u in
    let no = bit_at-pow_other v u ne in
    sym (max-zero (bit_at m.0 u)) ∙ ap (max (bit_at m.0 u)) (sym no) ∙ sym either ∙ h

set_stored : (m : VariableSet) (vs : List (Option Value)) (v : ℕ) (old : Option Value) (x : Value)
    → AreSet m vs → slice_get vs v ≡ Some old → AreSet (with_variable m v) (slice_set vs v (Some x))
set_stored m vs v old x h e u has =
    ⊎_elim
    (λ (same : (eqb u v ≡ true) × (u ≡ v)). (x, rw same.1 (get_set_same vs v old (Some x) e)))
    (λ (other : (eqb u v ≡ false) × (u ≢ v)).
    let was = h u (has_more m v u has other.1) in
    (was.0, get_set_other vs v u (Some x) other.1 ∙ was.1))
    (eqb_tells u v)

sort_there : (xs : List DraftVariable) (v : ℕ) (y : DraftVariable) → slice_get xs v ≡ Some y → sort_at xs v ≡ y.sort ∷ []
sort_there xs v y e = rw e refl

module _ (ss : List DraftSignal) (xs : List DraftVariable) (ps : List Sort) (m : VariableSet) (x : Input) (k : ℕ) where
  load_fine : (v : VariableNumber) (os : List Value) (s : Progress) → Before ss xs ps m (Load v) x os s.variables
      → IsFine ss xs ps m (Load v) k os s (loaded (k + 1) os s (slice_get s.variables v.0))
  load_fine v os s b =
      let y = there xs v.0 (only (λ v. v < length xs) v.0 b.reads_there) in
      let x = b.set v.0 (only (Has m) v.0 b.reads_set) in
      let sort = zip_at HasSort xs s.variables v.0 y.0 (Some x.0) b.variables y.1 x.1 in
      rw x.1 (record {
        way = inl (first_of (k + 1) [], ap (λ u. u ∷ map sort_of os) sort ∙ ap (λ u. u ++ map sort_of os) (sym (sort_there xs v.0 y.0 y.1)));
        variables = b.variables;
        set = b.set;
        effects = omega arith;
      })

  store_fine : (v : VariableNumber) (os : List Value) (s : Progress) → Before ss xs ps m (Store v) x os s.variables
      → IsFine ss xs ps m (Store v) k os s (on_top os (λ x rest. stored (k + 1) rest s v.0 x (slice_get s.variables v.0)))
  store_fine v [] s b =
      let y = there xs v.0 (only (λ v. v < length xs) v.0 b.sets_there) in
      let under : length (y.0.sort ∷ []) ≤ 0 = rw (sort_there xs v.0 y.0 y.1) at b.under in
      absurd (omega arith)
  store_fine v (x ∷ os) s b =
      let y = there xs v.0 (only (λ v. v < length xs) v.0 b.sets_there) in
      let e = sort_there xs v.0 y.0 y.1 in
      let agree : Agree (y.0.sort ∷ []) (sort_of x ∷ map sort_of os) = rw e at b.agree in
      let long = zip_length HasSort xs s.variables b.variables in
      let old = there s.variables v.0 (subst (λ n. v.0 < n) (sym long) (within xs v.0 y.0 y.1)) in
      rw old.1 (record {
        way = inl (first_of (k + 1) [], rw e refl);
        variables = zip_set HasSort xs s.variables v.0 y.0 (Some x) b.variables y.1 agree.0;
        set = set_stored m s.variables v.0 old.0 x b.set old.1;
        effects = omega arith;
      })

  param_fine : (j : ℕ) (os : List Value) (s : Progress) → Before ss xs ps m (Param j) x os s.variables
      → IsFine ss xs ps m (Param j) k os s (given (k + 1) os s (slice_get x.parameters.items j))
  param_fine j os s b =
      let long : length x.parameters.items ≡ length ps = sym (map_length sort_of x.parameters.items) ∙ ap length b.sorts in
      let y = there x.parameters.items j (subst (λ n. j < n) (sym long) (only (λ j. j < length ps) j b.parameters)) in
      let sort : slice_get ps j ≡ Some (sort_of y.0) = subst (λ us. slice_get us j ≡ Some (sort_of y.0)) b.sorts (get_map sort_of x.parameters.items j y.0 y.1) in
      rw y.1 (record {
        way = inl (first_of (k + 1) [], rw sort refl);
        variables = b.variables;
        set = b.set;
        effects = omega arith;
      })

  -- ---- the facts after an instruction that sets no variable
  straight : (i : Instruction) (os os' : List Value) (s s' : Progress) → Before ss xs ps m i x os s.variables
      → behind i k ≡ (k + 1) ∷ [] → set_after i m ≡ m → s'.variables ≡ s.variables → length s'.effects ≡ length s.effects + effects_of i
      → map sort_of os' ≡ shape_after ss xs ps i (map sort_of os) → Goes ss xs ps m i k os (k + 1) os' s s'
  straight i os os' s s' b next same kept more shape = record {
    way = inl (rw next (first_of (k + 1) []), shape);
    variables = subst (HaveSorts xs) (sym kept) b.variables;
    set = rw same (subst (AreSet m) (sym kept) b.set);
    effects = more;
  }

  jumped : (i : Instruction) (j : ℕ) (os os' : List Value) (s : Progress) → Before ss xs ps m i x os s.variables
      → Contains (jumps i) j → set_after i m ≡ m → effects_of i ≡ 0
      → map sort_of os' ≡ shape_left ss xs i (map sort_of os) → Goes ss xs ps m i k os j os' s s
  jumped i j os os' s b next same none shape = record {
    way = inr (next, shape);
    variables = b.variables;
    set = rw same b.set;
    effects = omega (arith, none);
  }

  one_integer : (i : Instruction) (go : ℤ → List Value → After) (os : List Value) (s : Progress) → Before ss xs ps m i x os s.variables
      → takes ss xs i ≡ Integer ∷ []
      → ((z : ℤ) (rest : List Value) → map sort_of rest ≡ shape_left ss xs i (map sort_of os) → IsFine ss xs ps m i k os s (go z rest))
      → IsFine ss xs ps m i k os s (on_integer os go)
  one_integer i go os s b one f =
      let under : 1 ≤ length (map sort_of os) = rw one at b.under in
      let agree : Agree (Integer ∷ []) (map sort_of os) = rw one at b.agree in
      integer_on_top (IsFine ss xs ps m i k os s) os go under agree (λ z rest e. f z rest (rw one e))

  one_boolean : (i : Instruction) (go : Truth → List Value → After) (os : List Value) (s : Progress) → Before ss xs ps m i x os s.variables
      → takes ss xs i ≡ Boolean ∷ []
      → ((z : Truth) (rest : List Value) → map sort_of rest ≡ shape_left ss xs i (map sort_of os) → IsFine ss xs ps m i k os s (go z rest))
      → IsFine ss xs ps m i k os s (on_boolean os go)
  one_boolean i go os s b one f =
      let under : 1 ≤ length (map sort_of os) = rw one at b.under in
      let agree : Agree (Boolean ∷ []) (map sort_of os) = rw one at b.agree in
      boolean_on_top (IsFine ss xs ps m i k os s) os go under agree (λ z rest e. f z rest (rw one e))

  two_integers : (i : Instruction) (go : ℤ → ℤ → List Value → After) (os : List Value) (s : Progress) → Before ss xs ps m i x os s.variables
      → takes ss xs i ≡ Integer ∷ Integer ∷ []
      → ((y z : ℤ) (rest : List Value) → map sort_of rest ≡ shape_left ss xs i (map sort_of os) → IsFine ss xs ps m i k os s (go y z rest))
      → IsFine ss xs ps m i k os s (on_integers os go)
  two_integers i go os s b two f =
      let under : 2 ≤ length (map sort_of os) = rw two at b.under in
      let agree : Agree (Integer ∷ Integer ∷ []) (map sort_of os) = rw two at b.agree in
      integers_on_top (IsFine ss xs ps m i k os s) os go under agree (λ y z rest e. f y z rest (rw two e))

  two_booleans : (i : Instruction) (go : Truth → Truth → List Value → After) (os : List Value) (s : Progress) → Before ss xs ps m i x os s.variables
      → takes ss xs i ≡ Boolean ∷ Boolean ∷ []
      → ((y z : Truth) (rest : List Value) → map sort_of rest ≡ shape_left ss xs i (map sort_of os) → IsFine ss xs ps m i k os s (go y z rest))
      → IsFine ss xs ps m i k os s (on_booleans os go)
  two_booleans i go os s b two f =
      let under : 2 ≤ length (map sort_of os) = rw two at b.under in
      let agree : Agree (Boolean ∷ Boolean ∷ []) (map sort_of os) = rw two at b.agree in
      booleans_on_top (IsFine ss xs ps m i k os s) os go under agree (λ y z rest e. f y z rest (rw two e))

  -- an instruction that puts one value in the place of its operands
  puts : (i : Instruction) (y : Value) (os rest : List Value) (s : Progress) → Before ss xs ps m i x os s.variables
      → behind i k ≡ (k + 1) ∷ [] → set_after i m ≡ m → effects_of i ≡ 0 → gives xs ps i ≡ sort_of y ∷ []
      → map sort_of rest ≡ shape_left ss xs i (map sort_of os) → Goes ss xs ps m i k os (k + 1) (y ∷ rest) s s
  puts i y os rest s b next same none one shape =
      straight i os (y ∷ rest) s s b next same refl (omega (arith, none)) (rw one (ap (λ u. sort_of y ∷ u) shape))

  divides : (i : Instruction) (z : ℤ) (f : ℤ → ℤ → ℤ) (os : List Value) (s : Progress) → Before ss xs ps m i x os s.variables
      → takes ss xs i ≡ Integer ∷ [] → behind i k ≡ (k + 1) ∷ [] → set_after i m ≡ m → effects_of i ≡ 0 → gives xs ps i ≡ Integer ∷ [] → pos 1 ≤ℤ z
      → IsFine ss xs ps m i k os s (on_integer os (λ y rest. if int_lt (pos 0) z then goes (k + 1) (Int (f y z) ∷ rest) s else stuck WrongSort))
  divides i z f os s b one next same none gives_one big =
      one_integer i _ os s b one (λ y rest e. if_so (IsFine ss xs ps m i k os s) (int_lt (pos 0) z) _ _ (above_0 z big) (puts i (Int (f y z)) os rest s b next same none gives_one e))

  tests : (i : Instruction) (f : ℤ → Truth) (j : ℕ) (os : List Value) (s : Progress) → Before ss xs ps m i x os s.variables
      → takes ss xs i ≡ Integer ∷ [] → behind i k ≡ (k + 1) ∷ [] → set_after i m ≡ m → effects_of i ≡ 0 → gives xs ps i ≡ Integer ∷ [] → Contains (jumps i) j
      → IsFine ss xs ps m i k os s (on_integer os (λ y rest. if f y then goes j rest s else goes (k + 1) (Int y ∷ rest) s))
  tests i f j os s b one next same none gives_one to =
      one_integer i _ os s b one (λ y rest e. either_way (IsFine ss xs ps m i k os s) (f y) _ _
      (jumped i j os rest s b to same none e) (puts i (Int y) os rest s b next same none gives_one e))

  picks : (i : Instruction) (p q : ℕ) (os rest : List Value) (s : Progress) (b : Truth) → Before ss xs ps m i x os s.variables
      → jumps i ≡ p ∷ q ∷ [] → set_after i m ≡ m → effects_of i ≡ 0
      → map sort_of rest ≡ shape_left ss xs i (map sort_of os) → Goes ss xs ps m i k os (if b then q else p) rest s s
  picks i p q os rest s true b two same none e = jumped i q os rest s b (rw two (1, omega arith, refl)) same none e
  picks i p q os rest s false b two same none e = jumped i p os rest s b (rw two (first_of p (q ∷ []))) same none e

  sent_fine : (n : SignalNumber) (r : Receiver) (c : ℕ) (os : List Value) (s : Progress) → Before ss xs ps m (Output n r c) x os s.variables
      → IsFine ss xs ps m (Output n r c) k os s (on_operands c os (λ vs rest. sent n (address_of r x.sender) vs (k + 1) rest s))
  sent_fine n r c os s b =
      let count : c ≡ length (parameters_of (slice_get ss n.0)) = b.sent.0 in
      let party = b.sent.1 in
      let taken : length (takes ss xs (Output n r c)) ≡ c = length-reverse (parameters_of (slice_get ss n.0)) ∙ sym count in
      let under : c ≤ length os = subst (λ u. c ≤ u) (map_length sort_of os) (subst (λ u. u ≤ length (map sort_of os)) taken b.under) in
      let shape : map sort_of (drop c os) ≡ drop (length (takes ss xs (Output n r c))) (map sort_of os) =
      map_drop sort_of c os ∙ ap (λ u. drop u (map sort_of os)) (sym taken) in
      if_so (IsFine ss xs ps m (Output n r c) k os s) (nat_le c (length os)) _ _ (le-leb c (length os) under)
      (rw b.sent.2 (straight (Output n r c) os (drop c os) s (with_effect s (sending n party (reverse (take c os)))) b refl refl refl
      (one_more s.effects (sending n party (reverse (take c os)))) shape))

  pub act_fine : (i : Instruction) (os : List Value) (s : Progress) → Before ss xs ps m i x os s.variables
      → IsFine ss xs ps m i k os s (act i x (k + 1) os s)
  act_fine (PutInt z) os s b = puts (PutInt z) (Int z) os os s b refl refl refl refl refl
  act_fine (PutBool z) os s b = puts (PutBool z) (Bool z) os os s b refl refl refl refl refl
  act_fine (Load v) os s b = load_fine v os s b
  act_fine (Store v) os s b = store_fine v os s b
  act_fine (Param j) os s b = param_fine j os s b
  act_fine Add os s b = two_integers Add _ os s b refl (λ y z rest e. puts Add (Int (wrap (y +ℤ z))) os rest s b refl refl refl refl e)
  act_fine Sub os s b = two_integers Sub _ os s b refl (λ y z rest e. puts Sub (Int (wrap (y -ℤ z))) os rest s b refl refl refl refl e)
  act_fine Mul os s b = two_integers Mul _ os s b refl (λ y z rest e. puts Mul (Int (wrap (y *ℤ z))) os rest s b refl refl refl refl e)
  act_fine (Div z) os s b = divides (Div z) z int_div os s b refl refl refl refl refl (only (λ z. pos 1 ≤ℤ z) z b.divisors)
  act_fine (Mod z) os s b = divides (Mod z) z int_rem_euclid os s b refl refl refl refl refl (only (λ z. pos 1 ≤ℤ z) z b.divisors)
  act_fine (Rem z) os s b = divides (Rem z) z int_rem os s b refl refl refl refl refl (only (λ z. pos 1 ≤ℤ z) z b.divisors)
  act_fine Neg os s b = one_integer Neg _ os s b refl (λ y rest e. puts Neg (Int (wrap (neg_ℤ y))) os rest s b refl refl refl refl e)
  act_fine Not os s b = one_boolean Not _ os s b refl (λ y rest e. puts Not (Bool (not y)) os rest s b refl refl refl refl e)
  act_fine And os s b = two_booleans And _ os s b refl (λ y z rest e. puts And (Bool (y && z)) os rest s b refl refl refl refl e)
  act_fine Or os s b = two_booleans Or _ os s b refl (λ y z rest e. puts Or (Bool (y || z)) os rest s b refl refl refl refl e)
  act_fine Xor os s b = two_booleans Xor _ os s b refl (λ y z rest e. puts Xor (Bool (differ y z)) os rest s b refl refl refl refl e)
  act_fine Same os s b = two_booleans Same _ os s b refl (λ y z rest e. puts Same (Bool (not (differ y z))) os rest s b refl refl refl refl e)
  act_fine (Compare r) os s b = two_integers (Compare r) _ os s b refl (λ y z rest e. puts (Compare r) (Bool (holds r y z)) os rest s b refl refl refl refl e)
  act_fine (Case r z p) os s b = tests (Case r z p) (λ y. holds r y z) p.0 os s b refl refl refl refl refl (first_of p.0 [])
  act_fine (CaseWithin p l h) os s b = tests (CaseWithin p l h) (is_between l h) p.0 os s b refl refl refl refl refl (first_of p.0 [])
  act_fine (Pick p q) os s b = one_boolean (Pick p q) _ os s b refl (λ y rest e. picks (Pick p q) p.0 q.0 os rest s y b refl refl refl e)
  act_fine Drop os s b = one_integer Drop _ os s b refl (λ y rest e. straight Drop os rest s s b refl refl refl (omega arith) e)
  act_fine (Jump p) os s b = jumped (Jump p) p.0 os os s b (first_of p.0 []) refl refl refl
  act_fine (Output n r c) os s b = sent_fine n r c os s b
  act_fine (Set t) os s b =
      one_integer (Set t) _ os s b refl (λ y rest e. straight (Set t) os rest s (with_effect s (effect.Set t y)) b refl refl refl (one_more s.effects (effect.Set t y)) e)
  act_fine (Reset t) os s b = straight (Reset t) os os s (with_effect s (effect.Reset t)) b refl refl refl (one_more s.effects (effect.Reset t)) refl
  act_fine (Next q) os s b = record { named = first_of q.0 []; variables = b.variables; set = b.set; effects = omega arith }
  act_fine Stop os s b = record { named = tt; variables = b.variables; set = b.set; effects = omega arith }
