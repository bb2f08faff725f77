-- Stretches of code that go straight on: the operands they leave, their depth, their size and their effects.
use Rattle.std.proofs.Common.{◌≡◌, ℕ, ◌+◌, ◌≤◌, max, List, [], ◌∷◌, ◌++◌, length, refl, sym, ap, ◌∙◌, subst, arith, length-append}
use Rattle.std.specs.Prelude.{sum_by}
use Rattle.std.proofs.lemmas.List.Sums.{sum_by-cons, sum_by-append}
use Rattle.turn_code.specs.declared.value.Sort.{Sort}
use Rattle.turn_code.specs.declared.instruction.Instruction.{Instruction}
use Rattle.turn_code.specs.declared.variable_set.VariableSet.{VariableSet}
use Rattle.turn_code.specs.declared.draft.DraftSignal.{DraftSignal}
use Rattle.turn_code.specs.declared.draft.DraftVariable.{DraftVariable}
use Rattle.turn_code.specs.declared.draft.Draft.{Draft}
use Rattle.turn_code.specs.Code.{shape_after, set_after, effects_of}
use Rattle.turn_code.specs.Transitions.{Transition}
use Rattle.sdl_compile.proofs.Straight.{IsStep, AreSteps, AreRight, steps_append}

-- the set that instructions leave
abbrev pub left_set : VariableSet → List Instruction → VariableSet
left_set m [] = m
left_set m (x ∷ is) = left_set (set_after x m) is

set_joined : (m : VariableSet) (a b : List Instruction) → left_set m (a ++ b) ≡ left_set (left_set m a) b
set_joined m [] b = refl
set_joined m (x ∷ a) b = set_joined (set_after x m) a b

module _ (ss : List DraftSignal) (xs : List DraftVariable) (ps : List Sort) where
  abbrev pub after : Instruction → List Sort → List Sort
  after x shape = shape_after ss xs ps x shape

  -- the shape that instructions leave
  abbrev pub left_shape : List Sort → List Instruction → List Sort
  left_shape shape [] = shape
  left_shape shape (x ∷ is) = left_shape (after x shape) is

  -- The greatest shape at the places of the instructions and after them.
  abbrev pub deepest : List Sort → List Instruction → ℕ
  deepest shape [] = length shape
  deepest shape (x ∷ is) = max (length shape) (deepest (after x shape) is)

  -- Instructions that go straight on, from one shape and set to others.
  pub record Leads (shape : List Sort) (m : VariableSet) (code : List Instruction) (shape2 : List Sort) (m2 : VariableSet) (d n e : ℕ) : Type 0 where
    pub steps : AreSteps code
    pub leaves : left_shape shape code ≡ shape2
    pub sets_to : left_set m code ≡ m2
    pub depth_is : deepest shape code ≡ d
    pub cost_is : length code ≡ n
    pub effects_is : sum_by effects_of code ≡ e

  least : (shape : List Sort) (code : List Instruction) → length shape ≤ deepest shape code
  least shape [] = omega arith
  least shape (x ∷ is) = omega arith

  pub shape_joined : (shape : List Sort) (a b : List Instruction) → left_shape shape (a ++ b) ≡ left_shape (left_shape shape a) b
  shape_joined shape [] b = refl
  shape_joined shape (x ∷ a) b = shape_joined (after x shape) a b

  deep_joined : (shape : List Sort) (a b : List Instruction) → deepest shape (a ++ b) ≡ max (deepest shape a) (deepest (left_shape shape a) b)
  deep_joined shape [] b = let h = least shape b in omega (arith, h)
  deep_joined shape (x ∷ a) b = let h = deep_joined (after x shape) a b in omega (arith, h)

  -- One stretch after another.
  pub joined : {s s1 s2 : List Sort} {m m1 m2 : VariableSet} {a b : List Instruction} {d1 d2 n1 n2 e1 e2 : ℕ} → Leads s m a s1 m1 d1 n1 e1 → Leads s1 m1 b s2 m2 d2 n2 e2 → Leads s m (a ++ b) s2 m2 (max d1 d2) (n1 + n2) (e1 + e2)
  joined {s} {s1} {s2} {m} {m1} {m2} {a} {b} {d1} {d2} {n1} {n2} {e1} {e2} h k = record {
    steps = steps_append a b h.steps k.steps;
    leaves = shape_joined s a b ∙ ap (λ s. left_shape s b) h.leaves ∙ k.leaves;
    sets_to = set_joined m a b ∙ ap (λ m. left_set m b) h.sets_to ∙ k.sets_to;
    depth_is = let e = deep_joined s a b in let f = ap (λ s. deepest s b) h.leaves in omega (arith, e, f, h.depth_is, k.depth_is);
    cost_is = omega (arith, length-append a b, h.cost_is, k.cost_is);
    effects_is = omega (arith, sum_by-append effects_of a b, h.effects_is, k.effects_is);
  }

  pub none : (s : List Sort) (m : VariableSet) → Leads s m [] s m (length s) 0 0
  none s m = record { steps = tt; leaves = refl; sets_to = refl; depth_is = refl; cost_is = refl; effects_is = refl }

  pub one : (x : Instruction) (s : List Sort) (m : VariableSet) → IsStep x → Leads s m (x ∷ []) (after x s) (set_after x m) (max (length s) (length (after x s))) 1 (effects_of x)
  one x s m step = record { steps = (step, tt); leaves = refl; sets_to = refl; depth_is = refl; cost_is = refl; effects_is = omega (arith, sum_by-cons effects_of x []) }

  -- As above, with values that are equal to these.
  pub told : {s s1 s2 : List Sort} {m m1 m2 : VariableSet} {code : List Instruction} {d d2 n n2 e e2 : ℕ} → Leads s m code s1 m1 d n e → s1 ≡ s2 → m1 ≡ m2 → d ≡ d2 → n ≡ n2 → e ≡ e2 → Leads s m code s2 m2 d2 n2 e2
  told h a b f g i = record {
    steps = h.steps;
    leaves = h.leaves ∙ a;
    sets_to = h.sets_to ∙ b;
    depth_is = h.depth_is ∙ f;
    cost_is = h.cost_is ∙ g;
    effects_is = h.effects_is ∙ i;
  }

module _ (d : Draft) (t : Transition) where
  pub right_append : (s : List Sort) (m : VariableSet) (a b : List Instruction) → AreRight d t s m a → AreRight d t (left_shape d.signals t.process.variables t.parameters s a) (left_set m a) b → AreRight d t s m (a ++ b)
  right_append s m [] b h k = k
  right_append s m (x ∷ a) b h k = (h.0, right_append (shape_after d.signals t.process.variables t.parameters x s) (set_after x m) a b h.1 k)

  pub right_joined : {s s1 : List Sort} {m m1 : VariableSet} {a : List Instruction} {d1 n1 e1 : ℕ} (b : List Instruction) → Leads d.signals t.process.variables t.parameters s m a s1 m1 d1 n1 e1 → AreRight d t s m a → AreRight d t s1 m1 b → AreRight d t s m (a ++ b)
  right_joined {s} {s1} {m} {m1} {a} b leads h k =
      right_append s m a b h (subst (λ m. AreRight d t (left_shape d.signals t.process.variables t.parameters s a) m b) (sym leads.sets_to) (subst (λ s. AreRight d t s m1 b) (sym leads.leaves) k))
