-- One instruction on words does what it does on the values that the words represent.
use Rattle.std.proofs.Common.{◌≡◌, ℕ, ◌-◌, ◌<◌, ◌≤◌, Bool as Truth, true, false, not, ◌&&◌, ◌||◌, if◌then◌else◌, ℤ, pos, ◌+ℤ◌, ◌-ℤ◌, ◌*ℤ◌, neg_ℤ, List, [], ◌∷◌, length, map, take, drop, reverse, Option, Some, None, refl, sym, ap, ◌∙◌, subst, arith}
use Rattle.std.specs.Prelude.{slice_get, slice_set, nat_le, int_lt, int_div, int_rem, ◌≤ℤ◌}
use Rattle.std.specs.Int.{int_rem_euclid}
use Rattle.std.proofs.lemmas.Bool.{le-leb}
use Rattle.std.proofs.lemmas.List.{length-reverse}
use Rattle.turn_code.proofs.Lists.{zip_length, map_length, only}
use Rattle.turn_code.proofs.Stands.{Before, if_so, above_0}
use Rattle.turn_code.specs.Values.{sort_of, wrap, holds, is_between, differ}
use Rattle.turn_code.specs.Sets.{Has}
use Rattle.turn_code.specs.Fits.{HasSort}
use Rattle.turn_code.specs.Rules.{Agree}
use Rattle.turn_code.specs.Transitions.{parameters_of}
use Rattle.turn_code.specs.Code.{sort_at, takes, sends as sends_of}
use Rattle.turn_code.specs.Run as run
use Rattle.turn_code.specs.Run.{Progress, After, goes, ends, stuck, on_top, on_integer, on_boolean, on_integers, on_booleans, on_operands, on_two as on_both, with_effect, sending, address_of, act}
use Rattle.turn_code.specs.declared.value.Sort.{Sort}
use Rattle.turn_code.specs.declared.value.Sort.TheVariants.{Integer, Boolean}
use Rattle.turn_code.specs.declared.value.Value.{Value}
use Rattle.turn_code.specs.declared.value.Value.TheVariants.{Int, Bool}
use Rattle.turn_code.specs.declared.effect.Effect.TheVariants as effect
use Rattle.turn_code.specs.declared.input.Input.{Input}
use Rattle.turn_code.specs.declared.input.Address.{Address}
use Rattle.turn_code.specs.declared.numbers.VariableNumber.{VariableNumber}
use Rattle.turn_code.specs.declared.numbers.SignalNumber.{SignalNumber}
use Rattle.turn_code.specs.declared.numbers.TimerNumber.{TimerNumber}
use Rattle.turn_code.specs.declared.instruction.Receiver.{Receiver}
use Rattle.turn_code.specs.declared.instruction.Relation.{Relation}
use Rattle.turn_code.specs.declared.instruction.Instruction.{Instruction}
use Rattle.turn_code.specs.declared.instruction.Instruction.TheVariants.{Int as PutInt, Bool as PutBool, Load, Store, Param, Add, Sub, Mul, Div, Mod, Rem, Neg, Not, And, Or, Xor, Same, Compare, Case, CaseWithin, Pick, Drop, Jump, Output, Set, Reset, Next, Stop}
use Rattle.turn_code.specs.declared.trouble.Trouble.TheVariants.{WrongSort, Underflow}
use Rattle.turn_code.specs.declared.variable_set.VariableSet.{VariableSet}
use Rattle.turn_code.specs.declared.draft.DraftSignal.{DraftSignal}
use Rattle.turn_code.specs.declared.draft.DraftVariable.{DraftVariable}
use Rattle.plain_laws.proofs.Places.{there_is as there}
use Rattle.turn_code.specs.declared.after.BareEffect.TheVariants as gives
use Rattle.turn_code.specs.Bare as bare
use Rattle.turn_code.specs.Bare.{Bare, Did, went, over, truth_word, is_true, with_stack, pushed, on_word, on_words, words_taken, put, bare_act}
use Rattle.turn_code.specs.Meant.{word_of, AreWordsOf, Grow}
use Rattle.turn_code.proofs.Standing.{one_more, one_less, top_is, on_one, on_two, long_taken, taken_is, so_many_less, variable_is, parameter_is, one_kept}

-- from this progress, the result on words agrees with the result on values
abbrev pub Meets : Input → Progress → Did → After → Type 0
Meets x s (went j o b) (goes k os s') = (j ≡ k) × Grow x.sender o s.effects s'.effects × AreWordsOf b os s'.variables x.parameters.items
Meets x s (went j o b) (ends e s') = ⊥
Meets x s (went j o b) (stuck z) = ⊥
Meets x s (over q o b) (goes k os s') = ⊥
Meets x s (over q o b) (ends e s') = (q ≡ e) × Grow x.sender o s.effects s'.effects × ((os : List Value) × AreWordsOf b os s'.variables x.parameters.items)
Meets x s (over q o b) (stuck z) = ⊥

is_true_word : (t : Truth) → is_true (truth_word t) ≡ t
is_true_word true = refl
is_true_word false = refl

-- ---- operands of the right sorts, as words and as values
one_integer : (Q : Did → After → Type 0) (b : Bare) (os : List Value) (vs : List (Option Value)) (ps : List Value) (g : ℤ → Bare → Did)
    (go : ℤ → List Value → After) → AreWordsOf b os vs ps → 1 ≤ length (map sort_of os) → Agree (Integer ∷ []) (map sort_of os)
    → ((z : ℤ) (c : Bare) (rest : List Value) → AreWordsOf c rest vs ps → Q (g z c) (go z rest)) → Q (on_word b g) (on_integer os go)
one_integer Q b [] vs ps g go h u a f = absurd (omega arith)
one_integer Q b (Int z ∷ os) vs ps g go h u a f = on_one (λ (x : Did). Q x (go z os)) b (Int z) os vs ps g h (λ c r. f z c os r)
one_integer Q b (Bool t ∷ os) vs ps g go h u a f = let e : Boolean ≡ Integer = a.0 in cc

one_boolean : (Q : Did → After → Type 0) (b : Bare) (os : List Value) (vs : List (Option Value)) (ps : List Value) (g : ℤ → Bare → Did)
    (go : Truth → List Value → After) → AreWordsOf b os vs ps → 1 ≤ length (map sort_of os) → Agree (Boolean ∷ []) (map sort_of os)
    → ((t : Truth) (c : Bare) (rest : List Value) → AreWordsOf c rest vs ps → Q (g (truth_word t) c) (go t rest)) → Q (on_word b g) (on_boolean os go)
one_boolean Q b [] vs ps g go h u a f = absurd (omega arith)
one_boolean Q b (Int z ∷ os) vs ps g go h u a f = let e : Integer ≡ Boolean = a.0 in cc
one_boolean Q b (Bool t ∷ os) vs ps g go h u a f = on_one (λ (x : Did). Q x (go t os)) b (Bool t) os vs ps g h (λ c r. f t c os r)

two_integers : (Q : Did → After → Type 0) (b : Bare) (os : List Value) (vs : List (Option Value)) (ps : List Value) (g : ℤ → ℤ → Bare → Did)
    (go : ℤ → ℤ → List Value → After) → AreWordsOf b os vs ps → 2 ≤ length (map sort_of os) → Agree (Integer ∷ Integer ∷ []) (map sort_of os)
    → ((y z : ℤ) (c : Bare) (rest : List Value) → AreWordsOf c rest vs ps → Q (g y z c) (go y z rest)) → Q (on_words b g) (on_integers os go)
two_integers Q b [] vs ps g go h u a f = absurd (omega arith)
two_integers Q b (y ∷ []) vs ps g go h u a f = absurd (omega arith)
two_integers Q b (Int y ∷ Int x ∷ os) vs ps g go h u a f =
    on_two (λ (r : Did). Q r (go x y os)) b (Int y) (Int x) os vs ps g h (λ c r. f x y c os r)
two_integers Q b (Int y ∷ Bool x ∷ os) vs ps g go h u a f = let e : Boolean ≡ Integer = a.1.0 in cc
two_integers Q b (Bool y ∷ x ∷ os) vs ps g go h u a f = let e : Boolean ≡ Integer = a.0 in cc

two_booleans : (Q : Did → After → Type 0) (b : Bare) (os : List Value) (vs : List (Option Value)) (ps : List Value) (g : ℤ → ℤ → Bare → Did)
    (go : Truth → Truth → List Value → After) → AreWordsOf b os vs ps → 2 ≤ length (map sort_of os) → Agree (Boolean ∷ Boolean ∷ []) (map sort_of os)
    → ((y z : Truth) (c : Bare) (rest : List Value) → AreWordsOf c rest vs ps → Q (g (truth_word y) (truth_word z) c) (go y z rest))
    → Q (on_words b g) (on_booleans os go)
two_booleans Q b [] vs ps g go h u a f = absurd (omega arith)
two_booleans Q b (y ∷ []) vs ps g go h u a f = absurd (omega arith)
two_booleans Q b (Bool y ∷ Bool x ∷ os) vs ps g go h u a f =
    on_two (λ (r : Did). Q r (go x y os)) b (Bool y) (Bool x) os vs ps g h (λ c r. f x y c os r)
two_booleans Q b (Bool y ∷ Int x ∷ os) vs ps g go h u a f = let e : Integer ≡ Boolean = a.1.0 in cc
two_booleans Q b (Int y ∷ x ∷ os) vs ps g go h u a f = let e : Integer ≡ Boolean = a.0 in cc

both_ways : (Q : Did → After → Type 0) (t : Truth) (a b : Did) (c e : After) → Q a c → Q b e → Q (if t then a else b) (if t then c else e)
both_ways Q true a b c e h i = h
both_ways Q false a b c e h i = i

pub sort_there : (xs : List DraftVariable) (v : ℕ) (y : DraftVariable) → slice_get xs v ≡ Some y → sort_at xs v ≡ y.sort ∷ []
sort_there xs v y e = rw e refl

module _ (ss : List DraftSignal) (xs : List DraftVariable) (ps : List Sort) (m : VariableSet) (x : Input) (k : ℕ) where
  -- ---- an instruction replaces its operands by one word
  puts : (y : Value) (b : Bare) (os : List Value) (s : Progress) → AreWordsOf b os s.variables x.parameters.items
      → Meets x s (put (word_of y) k b) (goes k (y ∷ os) s)
  puts y b os s h = (refl, refl, one_more b y os s.variables x.parameters.items h)

  combines : (f : ℤ → ℤ → ℤ) (b : Bare) (os : List Value) (s : Progress) → AreWordsOf b os s.variables x.parameters.items
      → 2 ≤ length (map sort_of os) → Agree (Integer ∷ Integer ∷ []) (map sort_of os) → Meets x s (bare.combined f k b) (on_both f k os s)
  combines f b os s h u a =
      two_integers (Meets x s) b os s.variables x.parameters.items (λ y z c. put (wrap (f y z)) k c) (λ y z rest. goes k (Int (wrap (f y z)) ∷ rest) s) h u a
      (λ y z c rest r. puts (Int (wrap (f y z))) c rest s r)

  divides : (f : ℤ → ℤ → ℤ) (z : ℤ) (b : Bare) (os : List Value) (s : Progress) → AreWordsOf b os s.variables x.parameters.items
      → 1 ≤ length (map sort_of os) → Agree (Integer ∷ []) (map sort_of os) → pos 1 ≤ℤ z → Meets x s (bare.divided f z k b) (run.divided f z k os s)
  divides f z b os s h u a big =
      one_integer (Meets x s) b os s.variables x.parameters.items (λ y c. put (f y z) k c)
      (λ y rest. if int_lt (pos 0) z then goes k (Int (f y z) ∷ rest) s else stuck WrongSort) h u a
      (λ y c rest r.
      if_so (Meets x s (put (f y z) k c)) (int_lt (pos 0) z) (goes k (Int (f y z) ∷ rest) s) (stuck WrongSort) (above_0 z big) (puts (Int (f y z)) c rest s r))

  negates : (b : Bare) (os : List Value) (s : Progress) → AreWordsOf b os s.variables x.parameters.items
      → 1 ≤ length (map sort_of os) → Agree (Integer ∷ []) (map sort_of os)
      → Meets x s (bare.negated_word k b) (on_integer os (λ y rest. goes k (Int (wrap (neg_ℤ y)) ∷ rest) s))
  negates b os s h u a =
      one_integer (Meets x s) b os s.variables x.parameters.items (λ y c. put (wrap (neg_ℤ y)) k c) (λ y rest. goes k (Int (wrap (neg_ℤ y)) ∷ rest) s) h u a
      (λ y c rest r. puts (Int (wrap (neg_ℤ y))) c rest s r)

  inverts : (b : Bare) (os : List Value) (s : Progress) → AreWordsOf b os s.variables x.parameters.items
      → 1 ≤ length (map sort_of os) → Agree (Boolean ∷ []) (map sort_of os)
      → Meets x s (bare.inverted k b) (on_boolean os (λ t rest. goes k (Bool (not t) ∷ rest) s))
  inverts b os s h u a =
      one_boolean (Meets x s) b os s.variables x.parameters.items (λ z c. put (truth_word (not (is_true z))) k c)
      (λ t rest. goes k (Bool (not t) ∷ rest) s) h u a
      (λ t c rest r.
      subst (λ (w : Truth). Meets x s (put (truth_word (not w)) k c) (goes k (Bool (not t) ∷ rest) s)) (sym (is_true_word t)) (puts (Bool (not t)) c rest s r))

  joins : (f : Truth → Truth → Truth) (b : Bare) (os : List Value) (s : Progress) → AreWordsOf b os s.variables x.parameters.items
      → 2 ≤ length (map sort_of os) → Agree (Boolean ∷ Boolean ∷ []) (map sort_of os) → Meets x s (bare.joined f k b) (run.joined f k os s)
  joins f b os s h u a =
      two_booleans (Meets x s) b os s.variables x.parameters.items (λ y z c. put (truth_word (f (is_true y) (is_true z))) k c)
      (λ y z rest. goes k (Bool (f y z) ∷ rest) s) h u a
      (λ y z c rest r.
      subst (λ (w : Truth). Meets x s (put (truth_word (f w (is_true (truth_word z)))) k c) (goes k (Bool (f y z) ∷ rest) s)) (sym (is_true_word y)) (
      subst (λ (w : Truth). Meets x s (put (truth_word (f y w)) k c) (goes k (Bool (f y z) ∷ rest) s)) (sym (is_true_word z)) (
      puts (Bool (f y z)) c rest s r)))

  compares : (f : Relation) (b : Bare) (os : List Value) (s : Progress) → AreWordsOf b os s.variables x.parameters.items
      → 2 ≤ length (map sort_of os) → Agree (Integer ∷ Integer ∷ []) (map sort_of os)
      → Meets x s (bare.compared f k b) (on_integers os (λ y z rest. goes k (Bool (holds f y z) ∷ rest) s))
  compares f b os s h u a =
      two_integers (Meets x s) b os s.variables x.parameters.items (λ y z c. put (truth_word (holds f y z)) k c)
      (λ y z rest. goes k (Bool (holds f y z) ∷ rest) s) h u a (λ y z c rest r. puts (Bool (holds f y z)) c rest s r)

  tests : (f : ℤ → Truth) (j : ℕ) (b : Bare) (os : List Value) (s : Progress) → AreWordsOf b os s.variables x.parameters.items
      → 1 ≤ length (map sort_of os) → Agree (Integer ∷ []) (map sort_of os) → Meets x s (bare.tested f j k b) (run.tested f j k os s)
  tests f j b os s h u a =
      one_integer (Meets x s) b os s.variables x.parameters.items (λ y c. if f y then went j None c else put y k c)
      (λ y rest. if f y then goes j rest s else goes k (Int y ∷ rest) s) h u a
      (λ y c rest r.
      both_ways (Meets x s) (f y) (went j None c) (put y k c) (goes j rest s) (goes k (Int y ∷ rest) s) (refl, refl, r) (puts (Int y) c rest s r))

  picks : (p q : ℕ) (b : Bare) (os : List Value) (s : Progress) → AreWordsOf b os s.variables x.parameters.items
      → 1 ≤ length (map sort_of os) → Agree (Boolean ∷ []) (map sort_of os)
      → Meets x s (bare.picked p q b) (on_boolean os (λ t rest. goes (if t then q else p) rest s))
  picks p q b os s h u a =
      one_boolean (Meets x s) b os s.variables x.parameters.items (λ z c. went (if is_true z then q else p) None c)
      (λ t rest. goes (if t then q else p) rest s) h u a
      (λ t c rest r. (ap (λ (w : Truth). if◌then◌else◌ {A = ℕ} w q p) (is_true_word t), refl, r))

  drops : (b : Bare) (os : List Value) (s : Progress) → AreWordsOf b os s.variables x.parameters.items
      → 1 ≤ length (map sort_of os) → Agree (Integer ∷ []) (map sort_of os) → Meets x s (bare.dropped k b) (on_integer os (λ y rest. goes k rest s))
  drops b os s h u a =
      one_integer (Meets x s) b os s.variables x.parameters.items (λ y c. went k None c) (λ y rest. goes k rest s) h u a (λ y c rest r. (refl, refl, r))

  -- ---- variables and parameters
  loads : (v : VariableNumber) (b : Bare) (os : List Value) (s : Progress) → Before ss xs ps m (Load v) x os s.variables
      → AreWordsOf b os s.variables x.parameters.items → Meets x s (bare.loaded v k b) (run.loaded k os s (slice_get s.variables v.0))
  loads v b os s q h =
      let y = q.set v.0 (only (Has m) v.0 q.reads_set) in
      subst (λ (o : Option (Option Value)). Meets x s (bare.loaded v k b) (run.loaded k os s o)) (sym y.1) (
      subst (λ (z : ℤ). Meets x s (put z k b) (goes k (y.0 ∷ os) s)) (sym (variable_is b v.0 y.0 os s.variables x.parameters.items h y.1))
      (puts y.0 b os s h))

  gets : (j : ℕ) (b : Bare) (os : List Value) (s : Progress) → Before ss xs ps m (Param j) x os s.variables
      → AreWordsOf b os s.variables x.parameters.items → Meets x s (bare.given j k b) (run.given k os s (slice_get x.parameters.items j))
  gets j b os s q h =
      let long : length x.parameters.items ≡ length ps = sym (map_length sort_of x.parameters.items) ∙ ap length q.sorts in
      let y = there x.parameters.items j (subst (λ n. j < n) (sym long) (only (λ j. j < length ps) j q.parameters)) in
      subst (λ (o : Option Value). Meets x s (bare.given j k b) (run.given k os s o)) (sym y.1) (
      subst (λ (z : ℤ). Meets x s (put z k b) (goes k (y.0 ∷ os) s)) (sym (parameter_is b j y.0 os s.variables x.parameters.items h y.1))
      (puts y.0 b os s h))

  stores : (v : VariableNumber) (b : Bare) (os : List Value) (s : Progress) → Before ss xs ps m (Store v) x os s.variables
      → length xs ≤ length b.variables → AreWordsOf b os s.variables x.parameters.items
      → Meets x s (bare.stored v k b) (on_top os (λ y rest. run.stored k rest s v.0 y (slice_get s.variables v.0)))
  stores v b [] s q wide h =
      let y = there xs v.0 (only (λ v. v < length xs) v.0 q.sets_there) in
      let under : length (y.0.sort ∷ []) ≤ 0 = rw (sort_there xs v.0 y.0 y.1) at q.under in
      absurd (omega arith)
  stores v b (y ∷ os) s q wide h =
      let here : v.0 < length xs = only (λ v. v < length xs) v.0 q.sets_there in
      let room : v.0 < length b.variables = omega arith in
      let long = zip_length HasSort xs s.variables q.variables in
      let old = there s.variables v.0 (subst (λ n. v.0 < n) (sym long) here) in
      let c : Bare = with_stack b (drop 1 b.stack) (b.depth - 1) in
      let less = one_less b y os s.variables x.parameters.items h in
      subst (λ (o : Option (Option Value)). Meets x s (bare.stored v k b) (run.stored k os s v.0 y o)) (sym old.1) (
      subst (λ (z : ℤ). Meets x s (went k None (bare.kept c v.0 z)) (goes k os (run.with_variables s (slice_set s.variables v.0 (Some y)))))
      (sym (top_is b y os s.variables x.parameters.items h))
      (refl, refl, one_kept c v.0 old.0 y os s.variables x.parameters.items less room old.1))

  -- ---- effects
  sends : (n : SignalNumber) (r : Receiver) (c : ℕ) (b : Bare) (os : List Value) (s : Progress) → Before ss xs ps m (Output n r c) x os s.variables
      → c ≤ 4 → AreWordsOf b os s.variables x.parameters.items
      → Meets x s (bare.sent n r c k b) (on_operands c os (λ vs rest. run.sent n (address_of r x.sender) vs k rest s))
  sends n r c b os s q few h =
      let count : c ≡ length (parameters_of (slice_get ss n.0)) = q.sent.0 in
      let party = q.sent.1 in
      let taken : length (takes ss xs (Output n r c)) ≡ c = length-reverse (parameters_of (slice_get ss n.0)) ∙ sym count in
      let under : c ≤ length os = subst (λ u. c ≤ u) (map_length sort_of os) (subst (λ u. u ≤ length (map sort_of os)) taken q.under) in
      let long : c ≡ length (reverse (take c os)) = sym (length-reverse (take c os) ∙ long_taken c os under) in
      if_so (Meets x s (bare.sent n r c k b)) (nat_le c (length os)) (run.sent n (address_of r x.sender) (reverse (take c os)) k (drop c os) s) (stuck Underflow)
      (le-leb c (length os) under) (
      subst (λ (o : Option Address). Meets x s (bare.sent n r c k b) (run.sent n o (reverse (take c os)) k (drop c os) s)) (sym q.sent.2) (
        refl,
        (sending n party (reverse (take c os)), (refl, few, long, q.sent.2, taken_is b c os s.variables x.parameters.items h under), refl),
        so_many_less b c os s.variables x.parameters.items h,
      ))

  sets : (t : TimerNumber) (b : Bare) (os : List Value) (s : Progress) → AreWordsOf b os s.variables x.parameters.items
      → 1 ≤ length (map sort_of os) → Agree (Integer ∷ []) (map sort_of os)
      → Meets x s (bare.timed t k b) (on_integer os (λ y rest. goes k rest (with_effect s (effect.Set t y))))
  sets t b os s h u a =
      one_integer (Meets x s) b os s.variables x.parameters.items (λ y c. went k (Some (gives.Set t y)) c)
      (λ y rest. goes k rest (with_effect s (effect.Set t y))) h u a
      (λ y c rest r. (refl, (effect.Set t y, (refl, refl), refl), r))

  -- ---- each instruction
  pub act_meets : (i : Instruction) (b : Bare) (os : List Value) (s : Progress) → Before ss xs ps m i x os s.variables
      → length xs ≤ length b.variables → sends_of i ≤ 4 → AreWordsOf b os s.variables x.parameters.items → Meets x s (bare_act i k b) (act i x k os s)
  act_meets (PutInt z) b os s q wide few h = puts (Int z) b os s h
  act_meets (PutBool t) b os s q wide few h = puts (Bool t) b os s h
  act_meets (Load v) b os s q wide few h = loads v b os s q h
  act_meets (Store v) b os s q wide few h = stores v b os s q wide h
  act_meets (Param j) b os s q wide few h = gets j b os s q h
  act_meets Add b os s q wide few h = combines (λ y z. y +ℤ z) b os s h q.under q.agree
  act_meets Sub b os s q wide few h = combines (λ y z. y -ℤ z) b os s h q.under q.agree
  act_meets Mul b os s q wide few h = combines (λ y z. y *ℤ z) b os s h q.under q.agree
  act_meets (Div z) b os s q wide few h = divides int_div z b os s h q.under q.agree (only (λ z. pos 1 ≤ℤ z) z q.divisors)
  act_meets (Mod z) b os s q wide few h = divides int_rem_euclid z b os s h q.under q.agree (only (λ z. pos 1 ≤ℤ z) z q.divisors)
  act_meets (Rem z) b os s q wide few h = divides int_rem z b os s h q.under q.agree (only (λ z. pos 1 ≤ℤ z) z q.divisors)
  act_meets Neg b os s q wide few h = negates b os s h q.under q.agree
  act_meets Not b os s q wide few h = inverts b os s h q.under q.agree
  act_meets And b os s q wide few h = joins (λ y z. y && z) b os s h q.under q.agree
  act_meets Or b os s q wide few h = joins (λ y z. y || z) b os s h q.under q.agree
  act_meets Xor b os s q wide few h = joins differ b os s h q.under q.agree
  act_meets Same b os s q wide few h = joins (λ y z. not (differ y z)) b os s h q.under q.agree
  act_meets (Compare r) b os s q wide few h = compares r b os s h q.under q.agree
  act_meets (Case r z p) b os s q wide few h = tests (λ y. holds r y z) p.0 b os s h q.under q.agree
  act_meets (CaseWithin p y z) b os s q wide few h = tests (is_between y z) p.0 b os s h q.under q.agree
  act_meets (Pick p y) b os s q wide few h = picks p.0 y.0 b os s h q.under q.agree
  act_meets Drop b os s q wide few h = drops b os s h q.under q.agree
  act_meets (Jump p) b os s q wide few h = (refl, refl, h)
  act_meets (Output n r c) b os s q wide few h = sends n r c b os s q few h
  act_meets (Set t) b os s q wide few h = sets t b os s h q.under q.agree
  act_meets (Reset t) b os s q wide few h = (refl, (effect.Reset t, refl, refl), h)
  act_meets (Next y) b os s q wide few h = (refl, refl, (os, h))
  act_meets Stop b os s q wide few h = (refl, refl, (os, h))
