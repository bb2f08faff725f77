-- Actions read only what is set, as their events say, and set what is set after them.
use Rattle.std.proofs.Common.{◌≡◌, ℕ, ◌^◌, Bool, true, false, ◌||◌, max, List, [], ◌∷◌, ◌++◌, ◌⊎◌, inl, inr, ⊎_elim, Option, Some, None, IsSome, map, refl, sym, ap, ◌∙◌, subst, arith, append_assoc}
use Rattle.std.specs.Prelude.{slice_get, bit_or}
use Rattle.std.specs.Int.{bit_at}
use Rattle.std.specs.List.{flat_map}
use Rattle.std.proofs.Math.Bool.{or-true, or-false}
use Rattle.std.proofs.lemmas.List.{append-nil}
use Rattle.std.proofs.lemmas.Nat.Bits.{bit_at_or, bit_at-lt, bit_at-pow_same}
use Rattle.sdl_ast.specs.declared.expression.Identifier.{Identifier}
use Rattle.sdl_ast.specs.declared.tree.Destination.{Destination}
use Rattle.sdl_ast.specs.Plain.{Tree, number, truth, variable, unary, binary, PlainAssignment, PlainSending, PlainAction, task, output, set_timer, reset_timer}
use Rattle.turn_code.specs.declared.variable_set.VariableSet.{VariableSet}
use Rattle.turn_code.specs.Sets.{Has, with_variable}
use Rattle.sdl_tables.specs.Names.{same_name, is_in, number_of, variable_names}
use Rattle.sdl_sound.specs.Paths.{Event, reads, sets, tree_events, assignment_events, sending_events, action_events, reads_first, sets_in}
use Rattle.sdl_sound.specs.Names.{tree_names, place_names}
use Rattle.sdl_meaning.specs.Outcomes.{Scope, variable_at}
use Rattle.sdl_meaning.specs.Code.{number_or_zero}
use Rattle.sdl_meaning.specs.Named.{NamedTree, NamedTrees, NamedTasks, NamedSendings, NamedAction}
use Rattle.sdl_compile.specs.Reads.{ReadTree, ReadTrees, ReadTasks, ReadSendings, ReadAction, tasks_set, action_set, places_set}
use Rattle.sdl_meaning.proofs.Numbers.{AreNumbered, number_there}
use Rattle.sdl_tables.proofs.Numbers.{is_in-append as in_append}
use Rattle.sdl_sound.proofs.Numbered.{number_alike, same_back as same_other_way}
use Rattle.sdl_sound.proofs.Walks.{reads-later as reads_behind}

-- ---- sets

pub has_more : (m : VariableSet) (v w : ℕ) → Has m w → Has (with_variable m v) w
has_more m v w h =
    let e : bit_at (bit_or m.0 (2 ^ v)) w ≡ max (bit_at m.0 w) (bit_at (2 ^ v) w) = bit_at_or m.0 (2 ^ v) w in
    let low = bit_at-lt (2 ^ v) w in
    omega arith

pub has_new : (m : VariableSet) (v : ℕ) → Has (with_variable m v) v
has_new m v =
    let e : bit_at (bit_or m.0 (2 ^ v)) v ≡ max (bit_at m.0 v) (bit_at (2 ^ v) v) = bit_at_or m.0 (2 ^ v) v in
    let f = bit_at-pow_same v in
    let low = bit_at-lt m.0 v in
    omega arith

-- ---- events

pub sets_append : (a b : List Event) (x : List ℕ) → sets_in (a ++ b) x ≡ (sets_in a x || sets_in b x)
sets_append [] b x = refl
sets_append (reads y ∷ a) b x = sets_append a b x
sets_append (sets y ∷ a) b x = by_test (same_name x y) (sets_append a b x)
  where
    by_test : (t : Bool) → sets_in (a ++ b) x ≡ (sets_in a x || sets_in b x) → t || sets_in (a ++ b) x ≡ ((t || sets_in a x) || sets_in b x)
    by_test true e = refl
    by_test false e = e

pub reads_set_none : (ids : List Identifier) (x : List ℕ) → sets_in (map (λ id. reads id.name) ids) x ≡ false
reads_set_none [] x = refl
reads_set_none (id ∷ ids) x = reads_set_none ids x

reads_among : (ids : List Identifier) (after : List Event) (x : List ℕ) → is_in ids x ≡ true → reads_first (map (λ id. reads id.name) ids ++ after) x ≡ true
reads_among [] after x h = absurd (let k : ⊥ = cc in k)
reads_among (id ∷ ids) after x h = by_test (same_name x id.name) h (reads_among ids after x)
  where
    by_test : (t : Bool) → t || is_in ids x ≡ true → (is_in ids x ≡ true → reads_first (map (λ id. reads id.name) ids ++ after) x ≡ true) → t || reads_first (map (λ id. reads id.name) ids ++ after) x ≡ true
    by_test true e more = refl
    by_test false e more = more e

-- If the first of two tests fails and one passes, the second passes.
last : (t : Bool) → false || (t || false) ≡ true → t ≡ true
last true e = refl
last false e = e

pub by_bool : {P : Type 0} (b : Bool) → (b ≡ true → P) → (b ≡ false → P) → P
by_bool true f g = f refl
by_bool false f g = g refl

module _ (c : Scope) (start : ℕ) (numbered : AreNumbered (variable_names c.process)) where
  -- The set has each variable that was set at the start or by the events.
  abbrev pub Holds : List Event → VariableSet → Type 0
  Holds before m = (x : List ℕ) (v : ℕ) → number_of (variable_names c.process) x ≡ Some v → (bit_at start v ≡ 1) ⊎ (sets_in before x ≡ true) → Has m v

  pub holds_reads : (before : List Event) (m : VariableSet) (ids : List Identifier) → Holds before m → Holds (before ++ map (λ id. reads id.name) ids) m
  holds_reads before m ids h x v at known =
      let r = map (λ (id : Identifier). reads id.name) ids in
      let e : sets_in (before ++ r) x ≡ sets_in before x = sets_append before r x ∙ ap (λ b. sets_in before x || b) (reads_set_none ids x) ∙ or-false (sets_in before x) in
      h x v at (⊎_elim (λ a. inl a) (λ b. inr (sym e ∙ b)) known)

  holds_sets : (before : List Event) (m : VariableSet) (n : Identifier) → Holds before m → Holds (before ++ sets n.name ∷ []) (with_variable m (number_or_zero (variable_at c n)))
  holds_sets before m n h x v at known = ⊎_elim (λ a. has_more m (number_or_zero (variable_at c n)) v (h x v at (inl a))) was_set known
    where
      same : same_name x n.name ≡ true → Has (with_variable m (number_or_zero (variable_at c n))) v
      same e =
          let f : number_of (variable_names c.process) n.name ≡ Some v = sym (number_alike (variable_names c.process) x n.name e) ∙ at in
          subst (Has (with_variable m (number_or_zero (variable_at c n)))) (ap number_or_zero f) (has_new m (number_or_zero (variable_at c n)))

      was_set : sets_in (before ++ sets n.name ∷ []) x ≡ true → Has (with_variable m (number_or_zero (variable_at c n))) v
      was_set b =
          by_bool (sets_in before x)
          (λ e. has_more m (number_or_zero (variable_at c n)) v (h x v at (inr e)))
          (λ e. same (last (same_name x n.name) (ap (λ t. t || sets_in (sets n.name ∷ []) x) (sym e) ∙ sym (sets_append before (sets n.name ∷ []) x) ∙ b)))

  -- Each of these names that isn't set before was set at the start.
  abbrev Wants : List Event → List Identifier → Type 0
  Wants before ids = (v : ℕ) (id : Identifier) → slice_get (variable_names c.process) v ≡ Some id → sets_in before id.name ≡ false → is_in ids id.name ≡ true → bit_at start v ≡ 1

  name_read : (before : List Event) (m : VariableSet) (n : Identifier) → IsSome (variable_at c n) → Holds before m → Wants before (n ∷ []) → Has m (number_or_zero (variable_at c n))
  name_read before m n named h w = by_number (variable_at c n) refl named
    where
      by_number : (o : Option ℕ) → variable_at c n ≡ o → IsSome o → Has m (number_or_zero o)
      by_number None e k = absurd (let k : ⊥ = cc in k)
      by_number (Some v) e k =
          let t = number_there (variable_names c.process) n.name v e in
          let at = numbered v t.id t.there in
          by_bool (sets_in before t.id.name)
          (λ f. h t.id.name v at (inr f))
          (λ f. h t.id.name v at (inl (w v t.id t.there f (ap (λ b. b || false) (same_other_way n.name t.id.name t.same)))))

  tree_read : (t : Tree) (before : List Event) (m : VariableSet) → NamedTree c t → Holds before m → Wants before (tree_names t) → ReadTree c m t
  tree_read (number at k) before m named h w = tt
  tree_read (truth at b) before m named h w = tt
  tree_read (variable at n) before m named h w = name_read before m n named h w
  tree_read (unary at op t) before m named h w = tree_read t before m named h w
  tree_read (binary at op t u) before m named h w =
      let a = tree_names t in
      let b = tree_names u in (
        tree_read t before m named.0 h (λ v id at s i. w v id at s (in_append a b id.name ∙ ap (λ x. x || is_in b id.name) i)),
        tree_read u before m named.1 h (λ v id at s i. w v id at s (in_append a b id.name ∙ ap (λ x. is_in a id.name || x) i ∙ or-true (is_in a id.name))),
      )

  -- Each variable that the events read first was set at the start.
  abbrev Reads : List Event → Type 0
  Reads events = (v : ℕ) (id : Identifier) → slice_get (variable_names c.process) v ≡ Some id → reads_first events id.name ≡ true → bit_at start v ≡ 1

  tasks_read : (ts : List PlainAssignment) (before after : List Event) (m : VariableSet) → NamedTasks c ts → Holds before m → Reads (before ++ (flat_map assignment_events ts ++ after)) → ReadTasks c m ts × Holds (before ++ flat_map assignment_events ts) (tasks_set c m ts)
  tasks_read [] before after m named h r = (tt, subst (λ l. Holds l m) (sym (append-nil before)) h)
  tasks_read (a ∷ ts) before after m named h r =
      let names = tree_names a.value in
      let rs = map (λ (id : Identifier). reads id.name) names in
      let s = sets a.variable.name ∷ [] in
      let fm = flat_map assignment_events ts in
      let m2 = with_variable m (number_or_zero (variable_at c a.variable)) in
      let front : ((rs ++ s) ++ fm) ++ after ≡ rs ++ (s ++ (fm ++ after)) = ap (λ l. l ++ after) (append_assoc rs s fm) ∙ append_assoc rs (s ++ fm) after in
      let e : (before ++ (rs ++ s)) ++ (fm ++ after) ≡ before ++ (((rs ++ s) ++ fm) ++ after) = append_assoc before (rs ++ s) (fm ++ after) ∙ ap (λ l. before ++ l) (sym (append_assoc (rs ++ s) fm after)) in
      let h2 = subst (λ l. Holds l m2) (append_assoc before rs s) (holds_sets (before ++ rs) m a.variable (holds_reads before m names h)) in
      let rest = tasks_read ts (before ++ (rs ++ s)) after m2 named.2 h2 (subst Reads (sym e) r) in (
        (
          tree_read a.value before m named.0 h (λ v id at none among. r v id at (reads_behind before (((rs ++ s) ++ fm) ++ after) id.name none (ap (λ l. reads_first l id.name) front ∙ reads_among names (s ++ (fm ++ after)) id.name among))),
          rest.0,
        ),
        subst (λ l. Holds l (tasks_set c m2 ts)) (append_assoc before (rs ++ s) fm) rest.1,
      )

  -- An expression reads, and sets nothing.
  pub one_read : (u : Tree) (before after : List Event) (m : VariableSet) → NamedTree c u → Holds before m → Reads (before ++ (tree_events u ++ after)) → ReadTree c m u
  one_read u before after m named h r =
      let names = tree_names u in
      tree_read u before m named h (λ v id at none among. r v id at (reads_behind before (tree_events u ++ after) id.name none (reads_among names after id.name among)))

  trees_read : (ts : List Tree) (before after : List Event) (m : VariableSet) → NamedTrees c ts → Holds before m → Reads (before ++ (flat_map tree_events ts ++ after)) → ReadTrees c m ts × Holds (before ++ flat_map tree_events ts) m
  trees_read [] before after m named h r = (tt, subst (λ l. Holds l m) (sym (append-nil before)) h)
  trees_read (u ∷ ts) before after m named h r =
      let es = tree_events u in
      let fm = flat_map tree_events ts in
      let e : (before ++ es) ++ (fm ++ after) ≡ before ++ ((es ++ fm) ++ after) = append_assoc before es (fm ++ after) ∙ ap (λ l. before ++ l) (sym (append_assoc es fm after)) in
      let rest = trees_read ts (before ++ es) after m named.1 (holds_reads before m (tree_names u) h) (subst Reads (sym e) r) in (
        (
          one_read u before (fm ++ after) m named.0 h (subst Reads (ap (λ l. before ++ l) (append_assoc es fm after)) r),
          rest.0,
        ),
        subst (λ l. Holds l m) (append_assoc before es fm) rest.1,
      )

  sendings_read : (to : Option Destination) (list : List PlainSending) (before after : List Event) (m : VariableSet) → NamedSendings c to list → Holds before m → Reads (before ++ (flat_map sending_events list ++ after)) → ReadSendings c m list × Holds (before ++ flat_map sending_events list) m
  sendings_read to [] before after m named h r = (tt, subst (λ l. Holds l m) (sym (append-nil before)) h)
  sendings_read to (x ∷ list) before after m named h r =
      let es = sending_events x in
      let fm = flat_map sending_events list in
      let e : (before ++ es) ++ (fm ++ after) ≡ before ++ ((es ++ fm) ++ after) = append_assoc before es (fm ++ after) ∙ ap (λ l. before ++ l) (sym (append_assoc es fm after)) in
      let first = trees_read x.parameters before (fm ++ after) m named.0.parameters h (subst Reads (ap (λ l. before ++ l) (append_assoc es fm after)) r) in
      let rest = sendings_read to list (before ++ es) after m named.1 first.1 (subst Reads (sym e) r) in (
        (first.0, rest.0),
        subst (λ l. Holds l m) (append_assoc before es fm) rest.1,
      )

  pub action_read : (a : PlainAction) (before after : List Event) (m : VariableSet) → NamedAction c a → Holds before m → Reads (before ++ (action_events a ++ after)) → ReadAction c m a × Holds (before ++ action_events a) (action_set c m a)
  action_read (task at ts) before after m named h r = tasks_read ts before after m named h r
  action_read (output at list to) before after m named h r = sendings_read to list before after m named h r
  action_read (set_timer at u n) before after m named h r = (one_read u before after m named.0 h r, holds_reads before m (tree_names u) h)
  action_read (reset_timer at n) before after m named h r = (tt, subst (λ l. Holds l m) (sym (append-nil before)) h)

  pub places_hold : (places : List (Option Identifier)) (before : List Event) (m : VariableSet) → Holds before m → Holds (before ++ map (λ id. sets id.name) (place_names places)) (places_set c m places)
  places_hold [] before m h = subst (λ l. Holds l m) (sym (append-nil before)) h
  places_hold (None ∷ places) before m h = places_hold places before m h
  places_hold (Some n ∷ places) before m h =
      let m2 = with_variable m (number_or_zero (variable_at c n)) in
      let rest = map (λ (id : Identifier). sets id.name) (place_names places) in
      subst (λ l. Holds l (places_set c m2 places)) (append_assoc before (sets n.name ∷ []) rest) (places_hold places (before ++ sets n.name ∷ []) m2 (holds_sets before m n h))
