-- The tests of a DECISION, and the jumps of its bodies.
use Rattle.std.proofs.Common.{◌≡◌, ℕ, suc, ◌+◌, Bool, true, false, cond, ◌||◌, List, [], ◌∷◌, ◌++◌, length, None, Some, refl, sym, ap, ◌∙◌, subst, arith}
use Rattle.std.specs.Prelude.{slice_get, ℤ}
use Rattle.std.specs.List.{list_any}
use Rattle.sdl_ast.specs.declared.tree.Literal.{Literal}
use Rattle.sdl_ast.specs.declared.tree.Literal.TheVariants as literals
use Rattle.sdl_ast.specs.declared.tree.Range.{Range}
use Rattle.sdl_ast.specs.declared.tree.Range.TheVariants.{Value as IsValue, Compared, Between}
use Rattle.sdl_ast.specs.declared.tree.Sort.TheVariants.{Integer, Boolean}
use Rattle.sdl_ast.specs.Plain.{Tree, Text, Choice, nothing_else, otherwise, answer}
use Rattle.turn_code.specs.declared.value.Value.{Value}
use Rattle.turn_code.specs.declared.value.Value.TheVariants.{Int, Bool as Truth}
use Rattle.turn_code.specs.declared.input.Input.{Input}
use Rattle.turn_code.specs.declared.instruction.Relation.TheVariants as relations
use Rattle.turn_code.specs.declared.instruction.Instruction.{Instruction}
use Rattle.turn_code.specs.declared.instruction.Instruction.TheVariants as i
use Rattle.turn_code.specs.declared.trouble.Trouble.TheVariants.{WrongSort}
use Rattle.turn_code.specs.Values.{holds, is_between}
use Rattle.turn_code.specs.Run as run
use Rattle.turn_code.specs.Run.{Progress, tick, goes, stuck, After, exec, go_on}
use Rattle.sdl_sound.specs.Going.{goes_on as may_go_on}
use Rattle.sdl_sound.specs.Decisions.{has_else}
use Rattle.sdl_sound.specs.Sorts.{is_constant, answers_truth, answers_number}
use Rattle.sdl_meaning.specs.Act.{is_truth, relation_of, integer_in, compared, between, covers_integer, is_literal as same_literal, covers_truth, told, try_ranges, find_truth, leave, decide}
use Rattle.sdl_meaning.specs.Outcomes.{Scope, Outcome, goes_on, over, in_trouble, then_do}
use Rattle.sdl_meaning.specs.Named.{AnswerTo}
use Rattle.sdl_meaning.specs.Code.{constant_or_zero, jump, leave_code, body_size, range_code, ranges_code, tests_code, is_literal, names_truth, picked, pick_code}
use Rattle.sdl_meaning.proofs.Runs.{Does, bind, stepped, one}
use Rattle.sdl_meaning.proofs.RunParts.{HasAt, has_front}
use Rattle.plain_laws.proofs.Truths.{and_second as both_right, and_first as both_left}

-- A part is over.
abbrev pub IsOver : {A : Type 0} → Outcome A → Type 0
IsOver (goes_on x v) = ⊥
IsOver (over e v) = Unit {0}

pub over_bind : {A B : Type 0} (o : Outcome A) (f : A → Progress → Outcome B) → ((x : A) (v : Progress) → IsOver (f x v)) → IsOver (then_do o f)
over_bind (goes_on x v) f h = h x v
over_bind (over e v) f h = tt

pub over_first : {A B : Type 0} (o : Outcome A) (f : A → Progress → Outcome B) → IsOver o → IsOver (then_do o f)
over_first (goes_on x v) f h = absurd h
over_first (over e v) f h = tt

-- Ranges of Integers.
abbrev pub AreNumbers : List Range → Type 0
AreNumbers [] = Unit {0}
AreNumbers (r ∷ rs) = (answers_number r ≡ true) × AreNumbers rs

abbrev pub AreTruths : List Range → Type 0
AreTruths [] = Unit {0}
AreTruths (r ∷ rs) = (answers_truth r ≡ true) × AreTruths rs

-- The ranges have the sort of the question.
pub are_numbers : (c : Scope) (q : Tree) (rs : List Range) → is_truth c q ≡ false → AnswerTo c q rs → AreNumbers rs
are_numbers c q [] e h = tt
are_numbers c q (r ∷ rs) e h = (sym (ap (λ b. cond b (answers_truth r) (answers_number r)) e) ∙ h.0, are_numbers c q rs e h.1)

pub are_truths : (c : Scope) (q : Tree) (rs : List Range) → is_truth c q ≡ true → AnswerTo c q rs → AreTruths rs
are_truths c q [] e h = tt
are_truths c q (r ∷ rs) e h = (sym (ap (λ b. cond b (answers_truth r) (answers_number r)) e) ∙ h.0, are_truths c q rs e h.1)

-- The constant of an Integer.
number_in : (l : Literal) (at : ℕ) → is_constant Integer (record { at = at; value = l; is_negated = false; synonym = None }) ≡ true → Some (constant_or_zero (integer_in l)) ≡ integer_in l
number_in (literals.Integer k) at h = refl
number_in (literals.Boolean b) at h = absurd (let k : ⊥ = cc in k)

-- Whether a range of Integers holds a value.
abbrev pub passes : Range → ℤ → Bool
passes (IsValue k) x = holds relations.Equal x (constant_or_zero (integer_in k.value))
passes (Compared at r k) x = holds (relation_of r) x (constant_or_zero (integer_in k.value))
passes (Between low high) x = is_between (constant_or_zero (integer_in low.value)) (constant_or_zero (integer_in high.value)) x

covered : (r : Range) (x : ℤ) → answers_number r ≡ true → covers_integer r x ≡ Some (passes r x)
covered (IsValue k) x h = ap (compared relations.Equal x) (sym (number_in k.value k.at h))
covered (Compared at r k) x h = ap (compared (relation_of r) x) (sym (number_in k.value k.at h))
covered (Between low high) x h =
    let a = number_in low.value low.at (both_left (is_constant Integer low) (is_constant Integer high) h) in
    let b = number_in high.value high.at (both_right (is_constant Integer low) (is_constant Integer high) h) in
    ap (λ o. between x o (integer_in high.value)) (sym a) ∙ ap (between x (Some (constant_or_zero (integer_in low.value)))) (sym b)

module _ (inp : Input) (code : List Instruction) where
  -- A part that is over fits any end place.
  pub over_anywhere : {A : Type 0} (pc end end2 : ℕ) (os : List Value) (s : Progress) (left : A → List Value) (o : Outcome A) → IsOver o → Does inp code pc os s end left o → Does inp code pc os s end2 left o
  over_anywhere pc end end2 os s left (goes_on x v) h d = absurd h
  over_anywhere pc end end2 os s left (over e v) h d = d

  -- One instruction, and then what follows at the place to which it leads.
  pub after_one : {A : Type 0} (pc n end : ℕ) (os os2 : List Value) (s : Progress) (left : A → List Value) (x : Instruction) (o : Outcome A) → slice_get code pc ≡ Some x → run.act x inp (pc + 1) os (tick s) ≡ goes n os2 (tick s) → Does inp code n os2 (tick s) end left o → Does inp code pc os s end left o
  after_one pc n end os os2 s left x (goes_on y v) at e d = λ k. let h = d k in (suc h.0, omega (arith, h.1), stepped inp code pc os s x (goes n os2 (tick s)) at e h.0 ∙ h.2)
  after_one pc n end os os2 s left x (over t v) at e d = λ k. let h = d k in (suc h.0, omega (arith, h.1), stepped inp code pc os s x (goes n os2 (tick s)) at e h.0 ∙ h.2)

  -- A part that is over leaves out what would follow.
  over_then : {A B : Type 0} (pc end end2 : ℕ) (os : List Value) (s : Progress) (left : A → List Value) (left2 : B → List Value) (o : Outcome A) (f : A → Progress → Outcome B) → IsOver o → Does inp code pc os s end left o → Does inp code pc os s end2 left2 (then_do o f)
  over_then pc end end2 os s left left2 (goes_on x v) f h d = absurd h
  over_then pc end end2 os s left left2 (over e v) f h d = d

  -- A body and, if it goes on, the jump after it.
  pub body_leaves : (body : Text) (n mid after : ℕ) (os : List Value) (s : Progress) (o : Outcome (Unit {0})) → HasAt code mid (leave_code after body) → (may_go_on body ≡ false → IsOver o) → Does inp code n os s mid (λ _. os) o → Does inp code n os s after (λ _. os) (leave o)
  body_leaves body n mid after os s o has ends d = by_test (may_go_on body) refl has
    where
      by_test : (b : Bool) → may_go_on body ≡ b → HasAt code mid (cond b (jump after ∷ []) []) → Does inp code n os s after (λ _. os) (leave o)
      by_test true e has =
          bind inp code n mid after os s (λ _. os) (λ _. os) o (λ _ s. goes_on (tt {0}) (tick s)) d
          (λ _ v. one inp code {A = Unit {0}} mid after os v (λ _. os) (jump after) (goes_on (tt {0}) (tick v)) has.0 (refl, refl))
      by_test false e has = over_then n mid after os s (λ _. os) (λ _. os) o (λ _ s. goes_on (tt {0}) (tick s)) (ends e) d

  -- ---- an Integer question

  range_runs : (r : Range) (x : ℤ) (a m : ℕ) (os : List Value) (s : Progress) (b : Bool) → passes r x ≡ b → run.act (range_code a r) inp (m + 1) (Int x ∷ os) (tick s) ≡ cond b (goes a os (tick s)) (goes (m + 1) (Int x ∷ os) (tick s))
  range_runs (IsValue k) x a m os s b e = ap (λ b. cond b (goes a os (tick s)) (goes (m + 1) (Int x ∷ os) (tick s))) e
  range_runs (Compared at r k) x a m os s b e = ap (λ b. cond b (goes a os (tick s)) (goes (m + 1) (Int x ∷ os) (tick s))) e
  range_runs (Between low high) x a m os s b e = ap (λ b. cond b (goes a os (tick s)) (goes (m + 1) (Int x ∷ os) (tick s))) e

  -- The ranges of an answer whose body starts at a.
  pub tries_do : (rs : List Range) (x : ℤ) (m m2 a after : ℕ) (os : List Value) (s : Progress) (f g : Progress → Outcome (Unit {0})) → AreNumbers rs → HasAt code m (ranges_code a rs) → m + length rs ≡ m2
      → ((u : Progress) → Does inp code a os u after (λ _. os) (f u)) → ((u : Progress) → Does inp code m2 (Int x ∷ os) u after (λ _. os) (g u))
      → Does inp code m (Int x ∷ os) s after (λ _. os) (then_do (try_ranges rs x s) (λ b s. cond b (f s) (g s)))
  tries_do [] x m m2 a after os s f g numbers has e holding failing =
      let e' : m2 ≡ m = omega (arith, e) in
      subst (λ n. Does inp code n (Int x ∷ os) s after (λ _. os) (g s)) e' (failing s)
  tries_do (r ∷ rs) x m m2 a after os s f g numbers has e holding failing =
      subst (λ o. Does inp code m (Int x ∷ os) s after (λ _. os) (then_do (then_do (told o (tick s)) (λ b s. cond b (goes_on true s) (try_ranges rs x s))) (λ b s. cond b (f s) (g s))))
      (sym (covered r x numbers.0)) (by_test (passes r x) refl (tries_do rs x (m + 1) m2 a after os (tick s) f g numbers.1 has.1 (omega (arith, e)) holding failing))
    where
      by_test : (b : Bool) → passes r x ≡ b → Does inp code (m + 1) (Int x ∷ os) (tick s) after (λ _. os) (then_do (try_ranges rs x (tick s)) (λ b s. cond b (f s) (g s)))
          → Does inp code m (Int x ∷ os) s after (λ _. os) (then_do (then_do (told (Some b) (tick s)) (λ b s. cond b (goes_on true s) (try_ranges rs x s))) (λ b s. cond b (f s) (g s)))
      by_test true t rest = after_one m a after (Int x ∷ os) os s (λ _. os) (range_code a r) (f (tick s)) has.0 (range_runs r x a m os s true t) (holding (tick s))
      by_test false t rest = after_one m (m + 1) after (Int x ∷ os) (Int x ∷ os) s (λ _. os) (range_code a r) (then_do (try_ranges rs x (tick s)) (λ b s. cond b (f s) (g s))) has.0 (range_runs r x a m os s false t) rest

  range_stuck : (r : Range) (b : Bool) (a m after : ℕ) (os : List Value) (s : Progress) → slice_get code m ≡ Some (range_code a r) → Does inp code {A = Unit {0}} m (Truth b ∷ os) s after (λ _. os) (over (in_trouble WrongSort) (tick s))
  range_stuck (IsValue k) b a m after os s at = one inp code {A = Unit {0}} m after (Truth b ∷ os) s (λ _. os) (range_code a (IsValue k)) (over (in_trouble WrongSort) (tick s)) at (refl, refl)
  range_stuck (Compared p r k) b a m after os s at = one inp code {A = Unit {0}} m after (Truth b ∷ os) s (λ _. os) (range_code a (Compared p r k)) (over (in_trouble WrongSort) (tick s)) at (refl, refl)
  range_stuck (Between low high) b a m after os s at = one inp code {A = Unit {0}} m after (Truth b ∷ os) s (λ _. os) (range_code a (Between low high)) (over (in_trouble WrongSort) (tick s)) at (refl, refl)

  -- A truth value has no answer there.
  tests_stuck : (c : Scope) (choice : Choice) (b : Bool) (n m after : ℕ) (os : List Value) (s : Progress) → has_else choice ≡ true → HasAt code m (tests_code c n choice) → Does inp code {A = Unit {0}} m (Truth b ∷ os) s after (λ _. os) (over (in_trouble WrongSort) (tick s))
  tests_stuck c nothing_else b n m after os s e has = absurd (let k : ⊥ = cc in k)
  tests_stuck c (otherwise body) b n m after os s e has = one inp code {A = Unit {0}} m after (Truth b ∷ os) s (λ _. os) i.Drop (over (in_trouble WrongSort) (tick s)) has.0 (refl, refl)
  tests_stuck c (answer at [] body others) b n m after os s e has = tests_stuck c others b (n + body_size c body) m after os s e has
  tests_stuck c (answer at (r ∷ rs) body others) b n m after os s e has = range_stuck r b n m after os s has.0

  -- ---- the choice

  pick_runs : (c : Scope) (n : ℕ) (choice : Choice) (b : Bool) (m : ℕ) (os : List Value) (s : Progress) → run.act (pick_code c n choice) inp (m + 1) (Truth b ∷ os) (tick s) ≡ goes (picked c n choice b) os (tick s)
  pick_runs c n choice true m os s = refl
  pick_runs c n choice false m os s = refl

  pub decision_does : (c : Scope) (b : Bool) (choice : Choice) (x : Value) (n a m after : ℕ) (bodies rest : List Instruction) (os : List Value) (s : Progress) (f : ℤ → Outcome (Unit {0})) (g : Bool → Outcome (Unit {0}))
      → HasAt code m (cond b (pick_code c n choice ∷ bodies) (tests_code c a choice ++ rest))
      → (b ≡ false → has_else choice ≡ true)
      → (b ≡ true → (t : Bool) → HasAt code (m + 1) bodies → Does inp code (picked c n choice t) os (tick s) after (λ _. os) (g t))
      → (b ≡ false → (z : ℤ) → HasAt code m (tests_code c a choice ++ rest) → Does inp code m (Int z ∷ os) s after (λ _. os) (f z))
      → Does inp code m (x ∷ os) s after (λ _. os) (decide b x s f g)
  decision_does c true choice (Truth t) n a m after bodies rest os s f g has e by_truth by_integer =
      after_one m (picked c n choice t) after (Truth t ∷ os) os s (λ _. os) (pick_code c n choice) (g t) has.0 (pick_runs c n choice t m os s) (by_truth refl t has.1)
  decision_does c true choice (Int z) n a m after bodies rest os s f g has e by_truth by_integer =
      one inp code {A = Unit {0}} m after (Int z ∷ os) s (λ _. os) (pick_code c n choice) (over (in_trouble WrongSort) (tick s)) has.0 (refl, refl)
  decision_does c false choice (Int z) n a m after bodies rest os s f g has e by_truth by_integer = by_integer refl z has
  decision_does c false choice (Truth t) n a m after bodies rest os s f g has e by_truth by_integer =
      tests_stuck c choice t a m after os s (e refl) (has_front code m (tests_code c a choice) rest has)

-- ---- a Boolean question

told_truth : (r : Range) (b : Bool) → answers_truth r ≡ true → covers_truth r b ≡ Some (names_truth b r)
told_truth (IsValue k) b h = by_literal k.value k.at b h
  where
    by_literal : (l : Literal) (at : ℕ) (b : Bool) → is_constant Boolean (record { at = at; value = l; is_negated = false; synonym = None }) ≡ true → same_literal l b ≡ Some (is_literal b l)
    by_literal (literals.Integer k) at b h = absurd (let k : ⊥ = cc in k)
    by_literal (literals.Boolean true) at true h = refl
    by_literal (literals.Boolean false) at true h = refl
    by_literal (literals.Boolean true) at false h = refl
    by_literal (literals.Boolean false) at false h = refl
told_truth (Compared at r k) b h = absurd (let k : ⊥ = cc in k)
told_truth (Between low high) b h = absurd (let k : ⊥ = cc in k)

pub find_is : (rs : List Range) (b : Bool) (s : Progress) → AreTruths rs → find_truth rs b s ≡ goes_on (list_any (names_truth b) rs) s
find_is [] b s h = refl
find_is (r ∷ rs) b s h =
    ap (λ o. then_do (told o s) (λ found s. cond found (goes_on true s) (find_truth rs b s))) (told_truth r b h.0) ∙ by_test (names_truth b r) (find_is rs b s h.1)
  where
    by_test : (t : Bool) → find_truth rs b s ≡ goes_on (list_any (names_truth b) rs) s → cond t (goes_on true s) (find_truth rs b s) ≡ goes_on (t || list_any (names_truth b) rs) s
    by_test true e = refl
    by_test false e = e
