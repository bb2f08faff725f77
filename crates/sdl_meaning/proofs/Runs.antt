-- The run of the instructions of expressions and actions is their meaning.
use Rattle.std.proofs.Common.{◌≡◌, ℕ, suc, ◌+◌, Bool, true, false, cond, List, [], ◌∷◌, ◌++◌, length, Option, Some, None, IsSome, refl, sym, ap, ◌∙◌, subst, arith, length-append}
use Rattle.std.specs.Prelude.{slice_get, slice_set, ℤ, pos, int_lt}
use Rattle.sdl_ast.specs.declared.expression.Identifier.{Identifier}
use Rattle.sdl_ast.specs.declared.expression.UnaryOperator.{UnaryOperator}
use Rattle.sdl_ast.specs.declared.expression.UnaryOperator.TheVariants.{Negate, Not}
use Rattle.sdl_ast.specs.declared.expression.BinaryOperator.{BinaryOperator}
use Rattle.sdl_ast.specs.declared.expression.BinaryOperator.TheVariants.{Or, Xor, And, Equal, NotEqual, Less, LessEqual, Greater, GreaterEqual, Add, Subtract, Multiply, Divide, Modulo, Remainder}
use Rattle.sdl_ast.specs.declared.tree.Destination.{Destination}
use Rattle.sdl_ast.specs.declared.tree.Destination.TheVariants as address
use Rattle.sdl_ast.specs.declared.tree.Party.TheVariants as tree_parties
use Rattle.sdl_ast.specs.declared.tree.Party as tree_party
use Rattle.sdl_ast.specs.Plain.{Tree, number, truth, variable, unary, binary, PlainAssignment, PlainSending, PlainAction, task, output, set_timer, reset_timer}
use Rattle.turn_code.specs.declared.value.Value.{Value}
use Rattle.turn_code.specs.declared.value.Value.TheVariants.{Int, Bool as Truth}
use Rattle.turn_code.specs.declared.input.Input.{Input}
use Rattle.turn_code.specs.declared.input.Party.{Party}
use Rattle.turn_code.specs.declared.input.Address.{Address}
use Rattle.turn_code.specs.declared.trouble.Trouble.TheVariants.{Underflow, WrongSort}
use Rattle.turn_code.specs.declared.effect.Effect.TheVariants as effects
use Rattle.turn_code.specs.declared.instruction.Relation.{Relation}
use Rattle.turn_code.specs.declared.instruction.Relation.TheVariants as relations
use Rattle.turn_code.specs.declared.instruction.Instruction.{Instruction}
use Rattle.turn_code.specs.declared.instruction.Instruction.TheVariants as i
use Rattle.turn_code.specs.Values.{wrap}
use Rattle.turn_code.specs.Run as run
use Rattle.turn_code.specs.Run.{Progress, tick, with_variables, with_effect, sending, sent, After, goes, stuck, step, go_on, exec, begun}
use Rattle.sdl_sound.specs.Longest.{is_division}
use Rattle.sdl_sound.specs.Receivers.{party_of, receivers}
use Rattle.sdl_meaning.specs.Act.{slot, end_in, read, written, write, reckons, compares, joins, working, is_truth, apply_one, apply_two, divisor_of, divide, value_of, values_of, is_carried, named, numbered, the_one, addressed, if_named, to_sender, receiver_of, assign, put_out, send, send_all, start_timer, stop_timer, perform, pass, take_places}
use Rattle.sdl_meaning.specs.Outcomes.{Scope, variable_at, timer_at, signal_at, at_end, in_trouble, Outcome, goes_on, over, then_do}
use Rattle.sdl_meaning.specs.Named.{NamedTree, NamedTrees, NamedTasks, HasReceiver, NamedSending, NamedSendings, NamedAction, NamedPlaces, IsSentTo, AnswersTo, AnswersAction}
use Rattle.sdl_meaning.specs.Code.{number_or_zero, load, store, next, set_to, reset, put, unary_code, binary_code, division_code, tree_code, trees_code, tasks_code, party_or_environment, receiver_code, sendings_code, action_code, places_code}
use Rattle.sdl_meaning.proofs.RunParts.{HasAt, has_front, has_back, over_as, pushed, Gives, gives_nothing, values_length, operands_are}

module _ (inp : Input) (code : List Instruction) where
  -- The run from a place does what the outcome says: it comes to the end place, or is over. The sum of the steps left
  -- and the steps taken stays the same.
  abbrev pub Does : {A : Type 0} → ℕ → List Value → Progress → ℕ → (A → List Value) → Outcome A → Type 0
  Does pc os s end left (goes_on x v) = (k : ℕ) → (j : ℕ) × (j + s.count ≡ k + v.count) × (exec code inp j pc os s ≡ exec code inp k end (left x) v)
  Does pc os s end left (over e v) = (k : ℕ) → (j : ℕ) × (j + s.count ≡ k + v.count) × (exec code inp j pc os s ≡ over_as e v)

  -- One outcome after another.
  pub bind_with : {A B : Type 0} (P : A → Type 0) (pc mid end : ℕ) (os : List Value) (s : Progress) (left : A → List Value) (left2 : B → List Value) (o : Outcome A) (f : A → Progress → Outcome B) → Gives P o → Does pc os s mid left o → ((x : A) (v : Progress) → P x → Does mid (left x) v end left2 (f x v)) → Does pc os s end left2 (then_do o f)
  bind_with P pc mid end os s left left2 (goes_on x v) f g a b = joins_up (f x v) (b x v g)
    where
      joins_up : (p : Outcome _) → Does mid (left x) v end left2 p → Does pc os s end left2 p
      joins_up (goes_on y u) h = λ k. let h1 = h k in let a1 = a h1.0 in (a1.0, omega (arith, a1.1, h1.1), a1.2 ∙ h1.2)
      joins_up (over e u) h = λ k. let h1 = h k in let a1 = a h1.0 in (a1.0, omega (arith, a1.1, h1.1), a1.2 ∙ h1.2)
  bind_with P pc mid end os s left left2 (over e v) f g a b = a

  pub bind : {A B : Type 0} (pc mid end : ℕ) (os : List Value) (s : Progress) (left : A → List Value) (left2 : B → List Value) (o : Outcome A) (f : A → Progress → Outcome B) → Does pc os s mid left o → ((x : A) (v : Progress) → Does mid (left x) v end left2 (f x v)) → Does pc os s end left2 (then_do o f)
  bind pc mid end os s left left2 o f a b = bind_with (λ _. Unit {0}) pc mid end os s left left2 o f (gives_nothing o) a (λ x v _. b x v)

  -- One instruction does what the outcome says.
  abbrev pub Fits : {A : Type 0} → After → Progress → ℕ → (A → List Value) → Outcome A → Type 0
  Fits st s end left (goes_on x v) = (st ≡ goes end (left x) v) × (v.count ≡ s.count + 1)
  Fits st s end left (over (at_end e) v) = (st ≡ run.ends e v) × (v.count ≡ s.count + 1)
  Fits st s end left (over (in_trouble t) v) = (st ≡ stuck t) × (v.count ≡ s.count + 1)

  pub stepped : (pc : ℕ) (os : List Value) (s : Progress) (x : Instruction) (st : After) → slice_get code pc ≡ Some x → run.act x inp (pc + 1) os (tick s) ≡ st → (k : ℕ) → exec code inp (suc k) pc os s ≡ go_on (exec code inp k) st
  stepped pc os s x st at e k = ap (λ o. go_on (exec code inp k) (run.act_if o inp (pc + 1) os (tick s))) at ∙ ap (go_on (exec code inp k)) e

  pub one : {A : Type 0} (pc end : ℕ) (os : List Value) (s : Progress) (left : A → List Value) (x : Instruction) (o : Outcome A) → slice_get code pc ≡ Some x → Fits (run.act x inp (pc + 1) os (tick s)) s end left o → Does pc os s end left o
  one pc end os s left x (goes_on y v) at f = λ k. (suc k, omega (arith, f.1), stepped pc os s x _ at f.0 k)
  one pc end os s left x (over (at_end e) v) at f = λ k. (suc k, omega (arith, f.1), stepped pc os s x _ at f.0 k)
  one pc end os s left x (over (in_trouble e) v) at f = λ k. (suc k, omega (arith, f.1), stepped pc os s x _ at f.0 k)

  -- One value is pushed on the operands.
  value_fits : (pc end : ℕ) (os : List Value) (s : Progress) (x : Value) → pc + 1 ≡ end → Fits (goes (pc + 1) (x ∷ os) (tick s)) s end (λ v. v ∷ os) (goes_on x (tick s))
  value_fits pc end os s x e = (ap (λ n. goes n (x ∷ os) (tick s)) e, refl)

  load_fits : (pc end v : ℕ) (os : List Value) (s : Progress) (o : Option (Option Value)) → slice_get s.variables v ≡ o → pc + 1 ≡ end → Fits (run.act (load v) inp (pc + 1) os (tick s)) s end (λ v. v ∷ os) (read o (tick s))
  load_fits pc end v os s None p e = (ap (run.loaded (pc + 1) os (tick s)) p, refl)
  load_fits pc end v os s (Some None) p e = (ap (run.loaded (pc + 1) os (tick s)) p, refl)
  load_fits pc end v os s (Some (Some x)) p e = (ap (run.loaded (pc + 1) os (tick s)) p ∙ ap (λ n. goes n (x ∷ os) (tick s)) e, refl)

  unary_fits : (op : UnaryOperator) (x : Value) (pc end : ℕ) (os : List Value) (s : Progress) → pc + 1 ≡ end → Fits (run.act (unary_code op) inp (pc + 1) (x ∷ os) (tick s)) s end (λ v. v ∷ os) (apply_one op x (tick s))
  unary_fits Negate (Int x) pc end os s e = value_fits pc end os s _ e
  unary_fits Negate (Truth x) pc end os s e = (refl, refl)
  unary_fits Not (Int x) pc end os s e = (refl, refl)
  unary_fits Not (Truth x) pc end os s e = value_fits pc end os s _ e

  reckons_fits : (f : ℤ → ℤ → ℤ) (x y : Value) (pc end : ℕ) (os : List Value) (s : Progress) → pc + 1 ≡ end → Fits (run.on_two f (pc + 1) (y ∷ x ∷ os) (tick s)) s end (λ v. v ∷ os) (apply_two (reckons f) x y (tick s))
  reckons_fits f (Int x) (Int y) pc end os s e = value_fits pc end os s _ e
  reckons_fits f (Int x) (Truth y) pc end os s e = (refl, refl)
  reckons_fits f (Truth x) (Int y) pc end os s e = (refl, refl)
  reckons_fits f (Truth x) (Truth y) pc end os s e = (refl, refl)

  compares_fits : (r : Relation) (x y : Value) (pc end : ℕ) (os : List Value) (s : Progress) → pc + 1 ≡ end → Fits (run.act (i.Compare r) inp (pc + 1) (y ∷ x ∷ os) (tick s)) s end (λ v. v ∷ os) (apply_two (compares r) x y (tick s))
  compares_fits r (Int x) (Int y) pc end os s e = value_fits pc end os s _ e
  compares_fits r (Int x) (Truth y) pc end os s e = (refl, refl)
  compares_fits r (Truth x) (Int y) pc end os s e = (refl, refl)
  compares_fits r (Truth x) (Truth y) pc end os s e = (refl, refl)

  joins_fits : (f : Bool → Bool → Bool) (x y : Value) (pc end : ℕ) (os : List Value) (s : Progress) → pc + 1 ≡ end → Fits (run.joined f (pc + 1) (y ∷ x ∷ os) (tick s)) s end (λ v. v ∷ os) (apply_two (joins f) x y (tick s))
  joins_fits f (Truth x) (Truth y) pc end os s e = value_fits pc end os s _ e
  joins_fits f (Truth x) (Int y) pc end os s e = (refl, refl)
  joins_fits f (Int x) (Truth y) pc end os s e = (refl, refl)
  joins_fits f (Int x) (Int y) pc end os s e = (refl, refl)

  binary_fits : (b : Bool) (op : BinaryOperator) (x y : Value) (pc end : ℕ) (os : List Value) (s : Progress) → is_division op ≡ false → pc + 1 ≡ end → Fits (run.act (binary_code b op) inp (pc + 1) (y ∷ x ∷ os) (tick s)) s end (λ v. v ∷ os) (apply_two (working b op) x y (tick s))
  binary_fits b Or x y pc end os s d e = joins_fits _ x y pc end os s e
  binary_fits b Xor x y pc end os s d e = joins_fits _ x y pc end os s e
  binary_fits b And x y pc end os s d e = joins_fits _ x y pc end os s e
  binary_fits true Equal x y pc end os s d e = joins_fits _ x y pc end os s e
  binary_fits false Equal x y pc end os s d e = compares_fits relations.Equal x y pc end os s e
  binary_fits true NotEqual x y pc end os s d e = joins_fits _ x y pc end os s e
  binary_fits false NotEqual x y pc end os s d e = compares_fits relations.NotEqual x y pc end os s e
  binary_fits b Less x y pc end os s d e = compares_fits relations.Less x y pc end os s e
  binary_fits b LessEqual x y pc end os s d e = compares_fits relations.LessEqual x y pc end os s e
  binary_fits b Greater x y pc end os s d e = compares_fits relations.Greater x y pc end os s e
  binary_fits b GreaterEqual x y pc end os s d e = compares_fits relations.GreaterEqual x y pc end os s e
  binary_fits b Add x y pc end os s d e = reckons_fits _ x y pc end os s e
  binary_fits b Subtract x y pc end os s d e = reckons_fits _ x y pc end os s e
  binary_fits b Multiply x y pc end os s d e = reckons_fits _ x y pc end os s e
  binary_fits b Divide x y pc end os s d e = absurd (let h : ⊥ = cc in h)
  binary_fits b Modulo x y pc end os s d e = absurd (let h : ⊥ = cc in h)
  binary_fits b Remainder x y pc end os s d e = absurd (let h : ⊥ = cc in h)

  if_fits : (b : Bool) (z : Value) (pc end : ℕ) (os : List Value) (s : Progress) → pc + 1 ≡ end → Fits (cond b (goes (pc + 1) (z ∷ os) (tick s)) (stuck WrongSort)) s end (λ v. v ∷ os) (cond b (goes_on z (tick s)) (over (in_trouble WrongSort) (tick s)))
  if_fits true z pc end os s e = value_fits pc end os s z e
  if_fits false z pc end os s e = (refl, refl)

  divide_fits : (op : BinaryOperator) (k : ℤ) (x : Value) (pc end : ℕ) (os : List Value) (s : Progress) → is_division op ≡ true → pc + 1 ≡ end → Fits (run.act (division_code op k) inp (pc + 1) (x ∷ os) (tick s)) s end (λ v. v ∷ os) (divide op k x (tick s))
  divide_fits Divide k (Int x) pc end os s d e = if_fits (int_lt (pos 0) k) _ pc end os s e
  divide_fits Divide k (Truth x) pc end os s d e = (refl, refl)
  divide_fits Modulo k (Int x) pc end os s d e = if_fits (int_lt (pos 0) k) _ pc end os s e
  divide_fits Modulo k (Truth x) pc end os s d e = (refl, refl)
  divide_fits Remainder k (Int x) pc end os s d e = if_fits (int_lt (pos 0) k) _ pc end os s e
  divide_fits Remainder k (Truth x) pc end os s d e = (refl, refl)
  divide_fits Or k x pc end os s d e = absurd (let h : ⊥ = cc in h)
  divide_fits Xor k x pc end os s d e = absurd (let h : ⊥ = cc in h)
  divide_fits And k x pc end os s d e = absurd (let h : ⊥ = cc in h)
  divide_fits Equal k x pc end os s d e = absurd (let h : ⊥ = cc in h)
  divide_fits NotEqual k x pc end os s d e = absurd (let h : ⊥ = cc in h)
  divide_fits Less k x pc end os s d e = absurd (let h : ⊥ = cc in h)
  divide_fits LessEqual k x pc end os s d e = absurd (let h : ⊥ = cc in h)
  divide_fits Greater k x pc end os s d e = absurd (let h : ⊥ = cc in h)
  divide_fits GreaterEqual k x pc end os s d e = absurd (let h : ⊥ = cc in h)
  divide_fits Add k x pc end os s d e = absurd (let h : ⊥ = cc in h)
  divide_fits Subtract k x pc end os s d e = absurd (let h : ⊥ = cc in h)
  divide_fits Multiply k x pc end os s d e = absurd (let h : ⊥ = cc in h)

  store_fits : (v : ℕ) (x : Value) (o : Option (Option Value)) (pc end : ℕ) (os : List Value) (s : Progress) → slice_get s.variables v ≡ o → pc + 1 ≡ end → Fits {A = Unit {0}} (run.act (store v) inp (pc + 1) (x ∷ os) (tick s)) s end (λ _. os) (written o v x (tick s))
  store_fits v x None pc end os s p e = (ap (run.stored (pc + 1) os (tick s) v x) p, refl)
  store_fits v x (Some old) pc end os s p e = (ap (run.stored (pc + 1) os (tick s) v x) p ∙ ap (λ n. goes n os (with_variables (tick s) (slice_set s.variables v (Some x)))) e, refl)

  store_does : (o : Option ℕ) (x : Value) (pc end : ℕ) (os : List Value) (s : Progress) → IsSome o → slice_get code pc ≡ Some (store (number_or_zero o)) → pc + 1 ≡ end → Does pc (x ∷ os) s end (λ _. os) (write o x s)
  store_does None x pc end os s named at e = absurd (let h : ⊥ = cc in h)
  store_does (Some v) x pc end os s named at e = one pc end (x ∷ os) s (λ _. os) (store v) (write (Some v) x s) at (store_fits v x (slice_get s.variables v) pc end os s refl e)

  load_does : (o : Option ℕ) (pc end : ℕ) (os : List Value) (s : Progress) → IsSome o → slice_get code pc ≡ Some (load (number_or_zero o)) → pc + 1 ≡ end → Does pc os s end (λ v. v ∷ os) (read (slot o s) (tick s))
  load_does None pc end os s named at e = absurd (let h : ⊥ = cc in h)
  load_does (Some v) pc end os s named at e = one pc end os s (λ v. v ∷ os) (load v) (read (slice_get s.variables v) (tick s)) at (load_fits pc end v os s (slice_get s.variables v) refl e)

  pub next_does : (o : Option ℕ) (pc end : ℕ) (os : List Value) (s : Progress) → IsSome o → slice_get code pc ≡ Some (next (number_or_zero o)) → Does pc os s end (λ _. os) (end_in o s)
  next_does None pc end os s named at = absurd (let h : ⊥ = cc in h)
  next_does (Some q) pc end os s named at = one {A = Unit {0}} pc end os s (λ _. os) (next q) (end_in (Some q) s) at (refl, refl)

  timer_fits : (t : ℕ) (x : Value) (pc end : ℕ) (os : List Value) (s : Progress) → pc + 1 ≡ end → Fits {A = Unit {0}} (run.act (set_to t) inp (pc + 1) (x ∷ os) (tick s)) s end (λ _. os) (start_timer (Some t) x (tick s))
  timer_fits t (Int z) pc end os s e = (ap (λ n. goes n os (with_effect (tick s) (effects.Set (record { 0 = t }) z))) e, refl)
  timer_fits t (Truth b) pc end os s e = (refl, refl)

  set_does : (o : Option ℕ) (x : Value) (pc end : ℕ) (os : List Value) (s : Progress) → IsSome o → slice_get code pc ≡ Some (set_to (number_or_zero o)) → pc + 1 ≡ end → Does pc (x ∷ os) s end (λ _. os) (start_timer o x (tick s))
  set_does None x pc end os s named at e = absurd (let h : ⊥ = cc in h)
  set_does (Some t) x pc end os s named at e = one pc end (x ∷ os) s (λ _. os) (set_to t) (start_timer (Some t) x (tick s)) at (timer_fits t x pc end os s e)

  reset_does : (o : Option ℕ) (pc end : ℕ) (os : List Value) (s : Progress) → IsSome o → slice_get code pc ≡ Some (reset (number_or_zero o)) → pc + 1 ≡ end → Does pc os s end (λ _. os) (stop_timer o (tick s))
  reset_does None pc end os s named at e = absurd (let h : ⊥ = cc in h)
  reset_does (Some t) pc end os s named at e = one {A = Unit {0}} pc end os s (λ _. os) (reset t) (stop_timer (Some t) (tick s)) at (ap (λ n. goes n os (with_effect (tick s) (effects.Reset (record { 0 = t })))) e, refl)

  -- The code of an expression pushes its value on the operands.
  pub tree_does : (c : Scope) (t : Tree) (pc end : ℕ) (os : List Value) (s : Progress) → HasAt code pc (tree_code c t) → pc + length (tree_code c t) ≡ end → NamedTree c t → Does pc os s end (λ v. v ∷ os) (value_of c t s)
  tree_does c (number at k) pc end os s has e named = one pc end os s (λ v. v ∷ os) (i.Int (wrap (pos k))) (goes_on (Int (wrap (pos k))) (tick s)) has.0 (value_fits pc end os s (Int (wrap (pos k))) e)
  tree_does c (truth at b) pc end os s has e named = one pc end os s (λ v. v ∷ os) (i.Bool b) (goes_on (Truth b) (tick s)) has.0 (value_fits pc end os s (Truth b) e)
  tree_does c (variable at n) pc end os s has e named = load_does (variable_at c n) pc end os s named has.0 e
  tree_does c (unary at op t) pc end os s has e named =
      let a = tree_code c t in
      let last = unary_code op ∷ [] in
      let m = pc + length a in
      let len : m + 1 ≡ end = omega (arith, length-append a last) in
      bind pc m end os s (λ v. v ∷ os) (λ v. v ∷ os) (value_of c t s) (λ x s. apply_one op x (tick s))
      (tree_does c t pc m os s (has_front code pc a last has) refl named)
      (λ x v. one m end (x ∷ os) v (λ v. v ∷ os) (unary_code op) (apply_one op x (tick v)) (has_back code pc a last m refl has).0 (unary_fits op x m end os v len))
  tree_does c (binary at op t u) pc end os s has e named =
      by_division (is_division op) refl (tree_code c t) (tree_code c u) has e
      (λ m os s h f. tree_does c t pc m os s h f named.0) (λ n m os s h f. tree_does c u n m os s h f named.1)
    where
      by_division : (d : Bool) → is_division op ≡ d → (a b : List Instruction)
          → HasAt code pc (cond d (a ++ division_code op (divisor_of u) ∷ []) (a ++ (b ++ binary_code (is_truth c t) op ∷ [])))
          → pc + length (cond d (a ++ division_code op (divisor_of u) ∷ []) (a ++ (b ++ binary_code (is_truth c t) op ∷ []))) ≡ end
          → ((m : ℕ) (os : List Value) (s : Progress) → HasAt code pc a → pc + length a ≡ m → Does pc os s m (λ v. v ∷ os) (value_of c t s))
          → ((n m : ℕ) (os : List Value) (s : Progress) → HasAt code n b → n + length b ≡ m → Does n os s m (λ v. v ∷ os) (value_of c u s))
          → Does pc os s end (λ v. v ∷ os) (then_do (value_of c t s) (λ x s. cond d (divide op (divisor_of u) x (tick s)) (then_do (value_of c u s) (λ y s. apply_two (working (is_truth c t) op) x y (tick s)))))
      by_division true f a b has e left right =
          let last = division_code op (divisor_of u) ∷ [] in
          let m = pc + length a in
          let len : m + 1 ≡ end = omega (arith, length-append a last) in
          bind pc m end os s (λ v. v ∷ os) (λ v. v ∷ os) (value_of c t s) (λ x s. divide op (divisor_of u) x (tick s))
          (left m os s (has_front code pc a last has) refl)
          (λ x v. one m end (x ∷ os) v (λ v. v ∷ os) (division_code op (divisor_of u)) (divide op (divisor_of u) x (tick v)) (has_back code pc a last m refl has).0 (divide_fits op (divisor_of u) x m end os v f len))
      by_division false f a b has e left right =
          let last = binary_code (is_truth c t) op ∷ [] in
          let m = pc + length a in
          let n = m + length b in
          let after_a = has_back code pc a (b ++ last) m refl has in
          let len : n + 1 ≡ end = omega (arith, length-append a (b ++ last), length-append b last) in
          bind pc m end os s (λ v. v ∷ os) (λ v. v ∷ os) (value_of c t s) (λ x s. then_do (value_of c u s) (λ y s. apply_two (working (is_truth c t) op) x y (tick s)))
          (left m os s (has_front code pc a (b ++ last) has) refl)
          (λ x v. bind m n end (x ∷ os) v (λ v. v ∷ x ∷ os) (λ v. v ∷ os) (value_of c u v) (λ y s. apply_two (working (is_truth c t) op) x y (tick s))
          (right m n (x ∷ os) v (has_front code m b last after_a) refl)
          (λ y v. one n end (y ∷ x ∷ os) v (λ v. v ∷ os) (binary_code (is_truth c t) op) (apply_two (working (is_truth c t) op) x y (tick v)) (has_back code m b last n refl after_a).0 (binary_fits (is_truth c t) op x y n end os v f len)))

  -- Nothing is done.
  pub stays : {A : Type 0} (pc end : ℕ) (os : List Value) (s : Progress) (left : A → List Value) (x : A) → pc ≡ end → left x ≡ os → Does pc os s end left (goes_on x s)
  stays pc end os s left x e f = λ k. (k, refl, ap (λ n. exec code inp k n os s) e ∙ ap (λ l. exec code inp k end l s) (sym f))

  -- The code of expressions pushes their values one after another.
  trees_do : (c : Scope) (ts : List Tree) (pc end : ℕ) (os : List Value) (s : Progress) → HasAt code pc (trees_code c ts) → pc + length (trees_code c ts) ≡ end → NamedTrees c ts → Does pc os s end (λ xs. pushed xs os) (values_of c ts s)
  trees_do c [] pc end os s has e named = stays pc end os s (λ xs. pushed xs os) [] (omega (arith, e)) refl
  trees_do c (t ∷ ts) pc end os s has e named =
      let a = tree_code c t in
      let b = trees_code c ts in
      let m = pc + length a in
      let len : m + length b ≡ end = omega (arith, length-append a b) in
      bind pc m end os s (λ x. x ∷ os) (λ xs. pushed xs os) (value_of c t s) (λ x s. then_do (values_of c ts s) (λ xs s. goes_on (x ∷ xs) s))
      (tree_does c t pc m os s (has_front code pc a b has) refl named.0)
      (λ x v. bind m end end (x ∷ os) v (λ xs. pushed xs (x ∷ os)) (λ xs. pushed xs os) (values_of c ts v) (λ xs s. goes_on (x ∷ xs) s)
      (trees_do c ts m end (x ∷ os) v (has_back code pc a b m refl has) len named.1)
      (λ xs u. stays end end (pushed xs (x ∷ os)) u (λ xs. pushed xs os) (x ∷ xs) refl refl))

  -- Assignments.
  tasks_do : (c : Scope) (ts : List PlainAssignment) (pc end : ℕ) (os : List Value) (s : Progress) → HasAt code pc (tasks_code c ts) → pc + length (tasks_code c ts) ≡ end → NamedTasks c ts → Does pc os s end (λ _. os) (assign c ts s)
  tasks_do c [] pc end os s has e named = stays pc end os s (λ _. os) (tt {0}) (omega (arith, e)) refl
  tasks_do c (t ∷ ts) pc end os s has e named =
      let a = tree_code c t.value in
      let o = variable_at c t.variable in
      let v = number_or_zero o in
      let rest = tasks_code c ts in
      let m = pc + length a in
      let after_a = has_back code pc a (store v ∷ rest) m refl has in
      let len : m + 1 + length rest ≡ end = omega (arith, length-append a (store v ∷ rest)) in
      bind pc m end os s (λ x. x ∷ os) (λ _. os) (value_of c t.value s) (λ x s. then_do (write o x s) (λ _ s. assign c ts s))
      (tree_does c t.value pc m os s (has_front code pc a (store v ∷ rest) has) refl named.0)
      (λ x u. bind m (m + 1) end (x ∷ os) u (λ _. os) (λ _. os) (write o x u) (λ _ s. assign c ts s)
      (store_does o x m (m + 1) os u named.1 after_a.0 refl)
      (λ _ u. tasks_do c ts (m + 1) end os u after_a.1 len named.2))

  -- ---- signals that are sent

  some_is : (o : Option Party) → IsSome (addressed o) → Some (run.of_party (party_or_environment o)) ≡ addressed o
  some_is None h = absurd (let k : ⊥ = cc in k)
  some_is (Some p) h = refl

  -- The party in the code is the receiver.
  carried_is : (b : Bool) (o : Option Party) → IsSome (addressed (cond b o None)) → Some (run.of_party (party_or_environment o)) ≡ addressed (cond b o None)
  carried_is true o h = some_is o h
  carried_is false o h = absurd (let k : ⊥ = cc in k)

  named_is : (c : Scope) (n : Identifier) (q : Option tree_party.Party) (p : Address) → IsSome (if_named c n q p) → Some p ≡ if_named c n q p
  named_is c n None p h = absurd (let k : ⊥ = cc in k)
  named_is c n (Some q) p h = by_test (is_carried c n q) h
    where
      by_test : (b : Bool) → IsSome (cond b (Some p) None) → Some p ≡ cond b (Some p) None
      by_test true h = refl
      by_test false h = absurd (let k : ⊥ = cc in k)

  sender_is : (c : Scope) (n : Identifier) (o : Option Address) → IsSome (to_sender c n o) → o ≡ to_sender c n o
  sender_is c n None h = refl
  sender_is c n (Some p) h = named_is c n (named c p.party) p h

  receiver_is : (c : Scope) (to : Option Destination) (n : Identifier) → IsSome (receiver_of c inp.sender to n) → run.address_of (receiver_code c to n) inp.sender ≡ receiver_of c inp.sender to n
  receiver_is c None n h = some_is (the_one c (receivers c.block (party_of c.process) n.name)) h
  receiver_is c (Some (address.Process id)) n h = carried_is (is_carried c n (tree_parties.Process id)) (numbered c (tree_parties.Process id)) h
  receiver_is c (Some (address.Sender at)) n h = sender_is c n inp.sender h

  put_fits : (n : ℕ) (o : Option Address) (xs : List Value) (pc end : ℕ) (os : List Value) (s : Progress) → IsSome o → pc + 1 ≡ end → Fits {A = Unit {0}} (sent (record { 0 = n }) o xs (pc + 1) os (tick s)) s end (λ _. os) (put_out (Some n) o xs (tick s))
  put_fits n None xs pc end os s h e = absurd (let k : ⊥ = cc in k)
  put_fits n (Some p) xs pc end os s h e = (ap (λ m. goes m os (with_effect (tick s) (sending (record { 0 = n }) p xs))) e, refl)

  put_does : (c : Scope) (to : Option Destination) (id : Identifier) (o : Option ℕ) (xs : List Value) (count pc end : ℕ) (os : List Value) (s : Progress) → IsSome o → IsSome (receiver_of c inp.sender to id) → count ≡ length xs → slice_get code pc ≡ Some (put (number_or_zero o) (receiver_code c to id) count) → pc + 1 ≡ end → Does pc (pushed xs os) s end (λ _. os) (put_out o (receiver_of c inp.sender to id) xs (tick s))
  put_does c to id None xs count pc end os s named reached e at f = absurd (let h : ⊥ = cc in h)
  put_does c to id (Some n) xs count pc end os s named reached e at f =
      let r = receiver_of c inp.sender to id in
      let is : run.act (put n (receiver_code c to id) count) inp (pc + 1) (pushed xs os) (tick s) ≡ sent (record { 0 = n }) r xs (pc + 1) os (tick s) =
      operands_are xs os count (λ vs rest. sent (record { 0 = n }) (run.address_of (receiver_code c to id) inp.sender) vs (pc + 1) rest (tick s)) e
      ∙ ap (λ p. sent (record { 0 = n }) p xs (pc + 1) os (tick s)) (receiver_is c to id reached) in
      one {A = Unit {0}} pc end (pushed xs os) s (λ _. os) (put n (receiver_code c to id) count) (put_out (Some n) r xs (tick s)) at
      (subst (λ st. Fits {A = Unit {0}} st s end (λ _. os) (put_out (Some n) r xs (tick s))) (sym is) (put_fits n r xs pc end os s reached f))

  module _ (c : Scope) (from : Option Identifier) (is_sent : IsSentTo c from inp.sender) where
    reaches : (to : Option Destination) (x : PlainSending) (xs : List PlainSending) → HasReceiver c to x.signal → AnswersTo c from to (x ∷ xs) → IsSome (receiver_of c inp.sender to x.signal)
    reaches None x xs h a = h
    reaches (Some (address.Process id)) x xs h a = h
    reaches (Some (address.Sender at)) x xs h a = a.0 inp.sender is_sent

    answers_rest : (to : Option Destination) (x : PlainSending) (xs : List PlainSending) → AnswersTo c from to (x ∷ xs) → AnswersTo c from to xs
    answers_rest None x xs a = tt
    answers_rest (Some (address.Process id)) x xs a = tt
    answers_rest (Some (address.Sender at)) x xs a = a.1

    send_does : (to : Option Destination) (x : PlainSending) (xs : List PlainSending) (pc mid end : ℕ) (os : List Value) (s : Progress) → HasAt code pc (trees_code c x.parameters) → pc + length (trees_code c x.parameters) ≡ mid → slice_get code mid ≡ Some (put (number_or_zero (signal_at c x.signal)) (receiver_code c to x.signal) (length x.parameters)) → mid + 1 ≡ end → NamedSending c to x → AnswersTo c from to (x ∷ xs) → Does pc os s end (λ _. os) (send c inp.sender to x s)
    send_does to x xs pc mid end os s has e at f named answers =
        bind_with (λ vs. length vs ≡ length x.parameters) pc mid end os s (λ vs. pushed vs os) (λ _. os) (values_of c x.parameters s) (λ vs s. put_out (signal_at c x.signal) (receiver_of c inp.sender to x.signal) vs (tick s))
        (values_length c x.parameters s)
        (trees_do c x.parameters pc mid os s has e named.parameters)
        (λ vs v l. put_does c to x.signal (signal_at c x.signal) vs (length x.parameters) mid end os v named.signal (reaches to x xs named.receiver answers) (sym l) at f)

    sendings_do : (to : Option Destination) (xs : List PlainSending) (pc end : ℕ) (os : List Value) (s : Progress) → HasAt code pc (sendings_code c to xs) → pc + length (sendings_code c to xs) ≡ end → NamedSendings c to xs → AnswersTo c from to xs → Does pc os s end (λ _. os) (send_all c inp.sender to xs s)
    sendings_do to [] pc end os s has e named answers = stays pc end os s (λ _. os) (tt {0}) (omega (arith, e)) refl
    sendings_do to (x ∷ xs) pc end os s has e named answers =
        let a = trees_code c x.parameters in
        let last = put (number_or_zero (signal_at c x.signal)) (receiver_code c to x.signal) (length x.parameters) in
        let rest = sendings_code c to xs in
        let m = pc + length a in
        let after_a = has_back code pc a (last ∷ rest) m refl has in
        let len : m + 1 + length rest ≡ end = omega (arith, length-append a (last ∷ rest)) in
        bind pc (m + 1) end os s (λ _. os) (λ _. os) (send c inp.sender to x s) (λ _ s. send_all c inp.sender to xs s)
        (send_does to x xs pc m (m + 1) os s (has_front code pc a (last ∷ rest) has) refl after_a.0 refl named.0 answers)
        (λ _ u. sendings_do to xs (m + 1) end os u after_a.1 len named.1 (answers_rest to x xs answers))

    -- One action.
    pub action_does : (a : PlainAction) (pc end : ℕ) (os : List Value) (s : Progress) → HasAt code pc (action_code c a) → pc + length (action_code c a) ≡ end → NamedAction c a → AnswersAction c from a → Does pc os s end (λ _. os) (perform c inp.sender a s)
    action_does (task at ts) pc end os s has e named answers = tasks_do c ts pc end os s has e named
    action_does (output at xs to) pc end os s has e named answers = sendings_do to xs pc end os s has e named answers
    action_does (set_timer at t n) pc end os s has e named answers =
        let a = tree_code c t in
        let last = set_to (number_or_zero (timer_at c n)) ∷ [] in
        let m = pc + length a in
        let len : m + 1 ≡ end = omega (arith, length-append a last) in
        bind pc m end os s (λ v. v ∷ os) (λ _. os) (value_of c t s) (λ x s. start_timer (timer_at c n) x (tick s))
        (tree_does c t pc m os s (has_front code pc a last has) refl named.0)
        (λ x v. set_does (timer_at c n) x m end os v named.1 (has_back code pc a last m refl has).0 len)
    action_does (reset_timer at n) pc end os s has e named answers = reset_does (timer_at c n) pc end os s named has.0 e

  parameter_fits : (j pc : ℕ) (os : List Value) (s : Progress) (x : Value) → slice_get inp.parameters.items j ≡ Some x → Fits (run.act (i.Param j) inp (pc + 1) os (tick s)) s (pc + 1) (λ v. v ∷ os) (goes_on x (tick s))
  parameter_fits j pc os s x p = (ap (run.given (pc + 1) os (tick s)) p, refl)

  no_parameter_fits : (j pc : ℕ) (os : List Value) (s : Progress) → slice_get inp.parameters.items j ≡ None → Fits {A = Value} (run.act (i.Param j) inp (pc + 1) os (tick s)) s (pc + 1) (λ v. v ∷ os) (over (in_trouble Underflow) (tick s))
  no_parameter_fits j pc os s p = (ap (run.given (pc + 1) os (tick s)) p, refl)

  parameter_does : (j : ℕ) (v : Option ℕ) (pc end : ℕ) (os : List Value) (s : Progress) (o : Option Value) → slice_get inp.parameters.items j ≡ o → IsSome v → slice_get code pc ≡ Some (i.Param j) → slice_get code (pc + 1) ≡ Some (store (number_or_zero v)) → pc + 1 + 1 ≡ end → Does pc os s end (λ _. os) (pass o v s)
  parameter_does j v pc end os s None p named at at2 e = one {A = Value} pc (pc + 1) os s (λ v. v ∷ os) (i.Param j) (over (in_trouble Underflow) (tick s)) at (no_parameter_fits j pc os s p)
  parameter_does j v pc end os s (Some x) p named at at2 e =
      bind pc (pc + 1) end os s (λ x. x ∷ os) (λ _. os) (goes_on x (tick s)) (λ x s. write v x s)
      (one pc (pc + 1) os s (λ x. x ∷ os) (i.Param j) (goes_on x (tick s)) at (parameter_fits j pc os s x p))
      (λ x u. store_does v x (pc + 1) end os u named at2 e)

  pub places_do : (c : Scope) (places : List (Option Identifier)) (j pc end : ℕ) (os : List Value) (s : Progress) → HasAt code pc (places_code c j places) → pc + length (places_code c j places) ≡ end → NamedPlaces c places → Does pc os s end (λ _. os) (take_places c inp.parameters.items j places s)
  places_do c [] j pc end os s has e named = stays pc end os s (λ _. os) (tt {0}) (omega (arith, e)) refl
  places_do c (None ∷ places) j pc end os s has e named = places_do c places (j + 1) pc end os s has e named
  places_do c (Some n ∷ places) j pc end os s has e named =
      bind pc (pc + 1 + 1) end os s (λ _. os) (λ _. os) (pass (slice_get inp.parameters.items j) (variable_at c n) s) (λ _ s. take_places c inp.parameters.items (j + 1) places s)
      (parameter_does j (variable_at c n) pc (pc + 1 + 1) os s (slice_get inp.parameters.items j) refl named.0 has.0 has.1.0 refl)
      (λ _ u. places_do c places (j + 1) (pc + 1 + 1) end os u has.1.1 (omega (arith, e)) named.1)
