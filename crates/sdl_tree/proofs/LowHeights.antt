-- Heights of trees, if no expression above one that is too high is built.
use Rattle.std.proofs.Common.{◌≡◌, ℕ, ◌+◌, ◌<◌, ◌≤◌, Bool, true, false, List, [], ◌∷◌, Option, Some, None, map, refl, sym, ap, subst, ◌∙◌, arith}
use Rattle.std.specs.Prelude.{nat_lt, if◌then◌else◌}
use borrow.Author.Tests.{ltb-true, ltb-false}
use Rattle.sdl_ast.specs.Limits.{GREATEST_HEIGHT}
use Rattle.sdl_ast.specs.declared.expression.Identifier.{Identifier}
use Rattle.sdl_ast.specs.declared.tree.Sort.{Sort}
use Rattle.sdl_ast.specs.declared.expression.UnaryOperator.{UnaryOperator}
use Rattle.sdl_ast.specs.declared.expression.BinaryOperator.{BinaryOperator}
use Rattle.sdl_ast.specs.Plain.{Tree, number, truth, variable, unary, binary, PlainAssignment, PlainSending, PlainAction, task, output, set_timer, reset_timer, PlainSynonym}
use Rattle.sdl_ast.specs.Places.{placed}
use Rattle.sdl_productions.specs.Machine.{lowered}
use Rattle.sdl_ast.specs.Heights.{tree_height, highest, sending_height, action_height, place_of_action, high_in_action, synonym_height, high_in_synonym, or_first, first_of}
use Rattle.sdl_tree.proofs.LoweredActions.{lowered_assignment, lowered_sending, lowered_action, lowered_synonym}

height-placed : (p : ℕ) (x : Tree) → tree_height (placed p x) ≡ tree_height x
height-placed p (number at k) = refl
height-placed p (truth at b) = refl
height-placed p (variable at n) = refl
height-placed p (unary at o x) = refl
height-placed p (binary at o x y) = refl

-- A tree within the limit is unchanged, and a tree above the limit remains above it.
pub record Keeps (x y : Tree) : Type 0 where
  pub low : tree_height x ≤ GREATEST_HEIGHT → y ≡ x
  pub high : GREATEST_HEIGHT < tree_height x → GREATEST_HEIGHT < tree_height y

keeps_unary : (at : ℕ) (o : UnaryOperator) (x y : Tree) (b : Bool) → nat_lt GREATEST_HEIGHT (tree_height y) ≡ b → Keeps x y
    → Keeps (unary at o x) (if b then placed at y else unary at o y)
keeps_unary at o x y true e k =
    let above : GREATEST_HEIGHT < tree_height y = ltb-true GREATEST_HEIGHT (tree_height y) e in
    record {
      low = λ h. (let same : y ≡ x = k.low (omega arith) in let s : tree_height y ≡ tree_height x = ap tree_height same in absurd (omega arith));
      high = λ h. subst (λ n. GREATEST_HEIGHT < n) (sym (height-placed at y)) above;
    }
keeps_unary at o x y false e k =
    let below : tree_height y ≤ GREATEST_HEIGHT = ltb-false GREATEST_HEIGHT (tree_height y) e in
    record {
      low = λ h. ap (unary at o) (k.low (omega arith));
      high = λ h. high_unary x y k below h;
    }
  where
    high_unary : (x y : Tree) → Keeps x y → tree_height y ≤ GREATEST_HEIGHT → GREATEST_HEIGHT < tree_height x + 1 → GREATEST_HEIGHT < tree_height y + 1
    high_unary x y k below h = by_test (nat_lt GREATEST_HEIGHT (tree_height x)) refl
      where
        by_test : (c : Bool) → nat_lt GREATEST_HEIGHT (tree_height x) ≡ c → GREATEST_HEIGHT < tree_height y + 1
        by_test true f = let above : GREATEST_HEIGHT < tree_height y = k.high (ltb-true GREATEST_HEIGHT (tree_height x) f) in omega arith
        by_test false f =
            let same : y ≡ x = k.low (ltb-false GREATEST_HEIGHT (tree_height x) f) in
            let s : tree_height y ≡ tree_height x = ap tree_height same in
            omega arith

-- Splits into two cases: the height is above the limit, or not.
either_height : {C : Type 0} (x : Tree) → (GREATEST_HEIGHT < tree_height x → C) → (tree_height x ≤ GREATEST_HEIGHT → C) → C
either_height {C} x above below = by_test (nat_lt GREATEST_HEIGHT (tree_height x)) refl
  where
    by_test : (c : Bool) → nat_lt GREATEST_HEIGHT (tree_height x) ≡ c → C
    by_test true f = above (ltb-true GREATEST_HEIGHT (tree_height x) f)
    by_test false f = below (ltb-false GREATEST_HEIGHT (tree_height x) f)

keeps_binary : (at : ℕ) (o : BinaryOperator) (x y x' y' : Tree) (b c : Bool) → nat_lt GREATEST_HEIGHT (tree_height x') ≡ b → nat_lt GREATEST_HEIGHT (tree_height y') ≡ c
    → Keeps x x' → Keeps y y' → Keeps (binary at o x y) (if b then placed at x' else if c then placed at y' else binary at o x' y')
keeps_binary at o x y x' y' true c e f k m =
    let above : GREATEST_HEIGHT < tree_height x' = ltb-true GREATEST_HEIGHT (tree_height x') e in
    record {
      low = λ h. (let same : x' ≡ x = k.low (omega arith) in let s : tree_height x' ≡ tree_height x = ap tree_height same in absurd (omega arith));
      high = λ h. subst (λ n. GREATEST_HEIGHT < n) (sym (height-placed at x')) above;
    }
keeps_binary at o x y x' y' false true e f k m =
    let above : GREATEST_HEIGHT < tree_height y' = ltb-true GREATEST_HEIGHT (tree_height y') f in
    record {
      low = λ h. (let same : y' ≡ y = m.low (omega arith) in let s : tree_height y' ≡ tree_height y = ap tree_height same in absurd (omega arith));
      high = λ h. subst (λ n. GREATEST_HEIGHT < n) (sym (height-placed at y')) above;
    }
keeps_binary at o x y x' y' false false e f k m =
    let below : tree_height x' ≤ GREATEST_HEIGHT = ltb-false GREATEST_HEIGHT (tree_height x') e in
    let under : tree_height y' ≤ GREATEST_HEIGHT = ltb-false GREATEST_HEIGHT (tree_height y') f in
    record {
      low = λ h. (let p : x' ≡ x = k.low (omega arith) in let q : y' ≡ y = m.low (omega arith) in ap (λ z. binary at o z y') p ∙ ap (λ z. binary at o x z) q);
      high = λ h.
          either_height x
          (λ a. let r : GREATEST_HEIGHT < tree_height x' = k.high a in omega arith)
          (λ a. either_height y
          (λ b. let r : GREATEST_HEIGHT < tree_height y' = m.high b in omega arith)
          (λ b.
          let p : tree_height x' ≡ tree_height x = ap tree_height (k.low a) in
          let q : tree_height y' ≡ tree_height y = ap tree_height (m.low b) in
          omega arith));
    }

pub keeps : (x : Tree) → Keeps x (lowered x)
keeps (number at k) = record { low = λ h. refl; high = λ h. h }
keeps (truth at b) = record { low = λ h. refl; high = λ h. h }
keeps (variable at n) = record { low = λ h. refl; high = λ h. h }
keeps (unary at o x) = keeps_unary at o x (lowered x) (nat_lt GREATEST_HEIGHT (tree_height (lowered x))) refl (keeps x)
keeps (binary at o x y) =
    keeps_binary at o x y (lowered x) (lowered y) (nat_lt GREATEST_HEIGHT (tree_height (lowered x))) (nat_lt GREATEST_HEIGHT (tree_height (lowered y))) refl refl (keeps x) (keeps y)

-- As `Keeps`, for any part of a tree, with its height.
record KeepsHeight {A : Type 0} (h : A → ℕ) (x y : A) : Type 0 where
  low : h x ≤ GREATEST_HEIGHT → y ≡ x
  high : GREATEST_HEIGHT < h x → GREATEST_HEIGHT < h y

tree_keeps : (x : Tree) → KeepsHeight tree_height x (lowered x)
tree_keeps x = let k = keeps x in record { low = k.low; high = k.high }

-- Splits into two cases: the height is above the limit, or not.
either_way : {C : Type 0} (h : ℕ) → (GREATEST_HEIGHT < h → C) → (h ≤ GREATEST_HEIGHT → C) → C
either_way {C} h above below = by_test (nat_lt GREATEST_HEIGHT h) refl
  where
    by_test : (c : Bool) → nat_lt GREATEST_HEIGHT h ≡ c → C
    by_test true f = above (ltb-true GREATEST_HEIGHT h f)
    by_test false f = below (ltb-false GREATEST_HEIGHT h f)

row_keeps : {A : Type 0} (h : A → ℕ) (f : A → A) → ((x : A) → KeepsHeight h x (f x)) → (xs : List A) → KeepsHeight (highest h) xs (map f xs)
row_keeps h f each [] = record { low = λ e. refl; high = λ e. e }
row_keeps h f each (x ∷ xs) =
    let k = each x in
    let m = row_keeps h f each xs in
    record {
      low = λ e. ap (λ z. z ∷ map f xs) (k.low (omega arith)) ∙ ap (λ l. x ∷ l) (m.low (omega arith));
      high = λ e.
          either_way (h x)
          (λ above. let r : GREATEST_HEIGHT < h (f x) = k.high above in omega arith)
          (λ below. let r : GREATEST_HEIGHT < highest h (map f xs) = m.high (omega arith) in omega arith);
    }

assignment_with : Identifier → Tree → PlainAssignment
assignment_with n z = record { variable = n; value = z }

assignment_keeps : (a : PlainAssignment) → KeepsHeight (λ a. tree_height a.value) a (lowered_assignment a)
unfolding lowered_assignment assignment_with
assignment_keeps a = let k = keeps a.value in record { low = λ e. ap (assignment_with a.variable) (k.low e); high = k.high }

sending_with : Identifier → List Tree → PlainSending
sending_with n ps = record { signal = n; parameters = ps }

sending_keeps : (s : PlainSending) → KeepsHeight sending_height s (lowered_sending s)
unfolding lowered_sending sending_with
sending_keeps s =
    let k = row_keeps tree_height lowered tree_keeps s.parameters in
    record { low = λ e. ap (sending_with s.signal) (k.low e); high = k.high }

action_keeps : (a : PlainAction) → KeepsHeight action_height a (lowered_action a)
unfolding lowered_action
action_keeps (task at xs) =
    let k = row_keeps (λ a. tree_height a.value) lowered_assignment assignment_keeps xs in
    record { low = λ e. ap (task at) (k.low e); high = k.high }
action_keeps (output at ss to) =
    let k = row_keeps sending_height lowered_sending sending_keeps ss in
    record { low = λ e. ap (λ l. output at l to) (k.low e); high = k.high }
action_keeps (set_timer at delay timer) = let k = keeps delay in record { low = λ e. ap (λ d. set_timer at d timer) (k.low e); high = k.high }
action_keeps (reset_timer at timer) = record { low = λ e. refl; high = λ e. e }

same_test : (h k : ℕ) → (h ≤ GREATEST_HEIGHT → k ≡ h) → (GREATEST_HEIGHT < h → GREATEST_HEIGHT < k) → (b c : Bool) → nat_lt GREATEST_HEIGHT h ≡ b → nat_lt GREATEST_HEIGHT k ≡ c → c ≡ b
same_test h k low high true true e f = refl
same_test h k low high false false e f = refl
same_test h k low high true false e f =
    let a : GREATEST_HEIGHT < k = high (ltb-true GREATEST_HEIGHT h e) in let b : k ≤ GREATEST_HEIGHT = ltb-false GREATEST_HEIGHT k f in absurd (omega arith)
same_test h k low high false true e f =
    let b : h ≤ GREATEST_HEIGHT = ltb-false GREATEST_HEIGHT h e in
    let a : GREATEST_HEIGHT < k = ltb-true GREATEST_HEIGHT k f in
    let s : k ≡ h = low b in
    absurd (omega arith)

action_test : (a : PlainAction) → nat_lt GREATEST_HEIGHT (action_height (lowered_action a)) ≡ nat_lt GREATEST_HEIGHT (action_height a)
action_test a =
    let k = action_keeps a in
    same_test (action_height a) (action_height (lowered_action a)) (λ h. ap action_height (k.low h)) k.high _ _ refl refl

place_lowered : (a : PlainAction) → place_of_action (lowered_action a) ≡ place_of_action a
unfolding lowered_action
place_lowered (task at xs) = refl
place_lowered (output at ss to) = refl
place_lowered (set_timer at delay timer) = refl
place_lowered (reset_timer at timer) = refl

-- The first place that is too high is unchanged. If there is none, the whole part is unchanged.

-- Both statements, for one part of a tree.
pub record Stays {A : Type 0} (f : A → Option ℕ) (x y : A) : Type 0 where
  pub place : f y ≡ f x
  pub same : f x ≡ None → y ≡ x

test_none : (b : Bool) (at : ℕ) → (if b then Some at else None) ≡ None → b ≡ false
test_none true at e = cc
test_none false at e = refl

pub action_stays : (a : PlainAction) → Stays high_in_action a (lowered_action a)
action_stays a = record {
  place =
      ap (λ p. if nat_lt GREATEST_HEIGHT (action_height (lowered_action a)) then Some p else None) (place_lowered a)
      ∙ ap (λ b. if b then Some (place_of_action a) else None) (action_test a);
  same = λ e. (action_keeps a).low (ltb-false GREATEST_HEIGHT (action_height a) (test_none (nat_lt GREATEST_HEIGHT (action_height a)) (place_of_action a) e));
}

-- synonyms

synonym_with : Identifier → Option Sort → Tree → PlainSynonym
synonym_with n s z = record { name = n; sort = s; value = z }

synonym_keeps : (s : PlainSynonym) → KeepsHeight synonym_height s (lowered_synonym s)
unfolding lowered_synonym synonym_with
synonym_keeps s = let k = keeps s.value in record { low = λ e. ap (synonym_with s.name s.sort) (k.low e); high = k.high }

synonym_stays : (s : PlainSynonym) → Stays high_in_synonym s (lowered_synonym s)
unfolding lowered_synonym
synonym_stays s =
    let k = synonym_keeps s in
    record {
      place =
          ap (λ b. if b then Some s.name.at else None)
          (same_test (synonym_height s) (synonym_height (lowered_synonym s)) (λ h. ap synonym_height (k.low h)) k.high _ _ refl refl);
      same = λ e. k.low (ltb-false GREATEST_HEIGHT (synonym_height s) (test_none (nat_lt GREATEST_HEIGHT (synonym_height s)) s.name.at e));
    }

none_first : (p q : Option ℕ) → or_first p q ≡ None → p ≡ None
none_first (Some at) q e = cc
none_first None q e = refl

none_behind : (p q : Option ℕ) → or_first p q ≡ None → q ≡ None
none_behind (Some at) q e = cc
none_behind None q e = e

list_stays : {A : Type 0} (f : A → Option ℕ) (g : A → A) → ((x : A) → Stays f x (g x)) → (xs : List A) → Stays (first_of f) xs (map g xs)
list_stays f g each [] = record { place = refl; same = λ e. refl }
list_stays f g each (x ∷ xs) =
    let s = each x in
    let r = list_stays f g each xs in
    record {
      place = ap (λ p. or_first p (first_of f (map g xs))) s.place ∙ ap (or_first (f x)) r.place;
      same = λ e. ap (λ y. y ∷ map g xs) (s.same (none_first (f x) (first_of f xs) e)) ∙ ap (λ ys. x ∷ ys) (r.same (none_behind (f x) (first_of f xs) e));
    }

pub synonyms_stay : (list : List PlainSynonym) → Stays (first_of high_in_synonym) list (map lowered_synonym list)
synonyms_stay list = list_stays high_in_synonym lowered_synonym synonym_stays list
