-- Spellings of one name; and whatever an action or a question reads is declared.
use Rattle.std.proofs.Common.{◌≡◌, ℕ, Bool, true, false, not, ◌&&◌, ◌||◌, List, [], ◌∷◌, ◌++◌, map, refl, sym, ap, ◌∙◌, bytes_eq, if◌then◌else◌, is_some, true≢false, inl, inr, ◌⊎◌}
use Rattle.std.specs.List.{flat_map}
use Rattle.std.proofs.lemmas.List.Folds.{list_any-append}
use Rattle.sdl_lex.specs.Spelling.{folded}
use Rattle.sdl_ast.specs.Plain.{Tree, PlainAssignment, PlainSending, PlainAction, task, output, set_timer, reset_timer, PlainProcess, PlainBlock}
use Rattle.sdl_ast.specs.declared.expression.Identifier.{Identifier}
use Rattle.sdl_tables.specs.Names.{same_name, is_in, signal_names, variable_names, Variable}
use Rattle.sdl_sound.specs.Names.{unknown, tree_names, assignment_names, sending_unknown, action_unknown}
use Rattle.sdl_sound.specs.Paths.{Event, reads, sets, tree_events, assignment_events, sending_events, action_events, initial_sets, reads_first, sets_in}
use Rattle.sdl_sound.proofs.Numbered.{same_folded, in_alike}
use Rattle.std.proofs.lemmas.Bool.{and_parts, or_left, or_right, or_cases}
use Rattle.plain_laws.proofs.Lists.{test_known as no_place, append-nil_left, append-nil_right}

-- ---- spellings of one name

pub reads_first-same : (events : List Event) (x y : List ℕ) → folded x ≡ folded y → reads_first events x ≡ reads_first events y
reads_first-same [] x y e = refl
reads_first-same (reads z ∷ events) x y e =
    ap (λ f. bytes_eq f (folded z) || reads_first events x) e ∙ ap (λ r. same_name y z || r) (reads_first-same events x y e)
reads_first-same (sets z ∷ events) x y e =
    ap (λ f. not (bytes_eq f (folded z)) && reads_first events x) e ∙ ap (λ r. not (same_name y z) && r) (reads_first-same events x y e)

pub sets_in-same : (events : List Event) (x y : List ℕ) → folded x ≡ folded y → sets_in events x ≡ sets_in events y
sets_in-same [] x y e = refl
sets_in-same (reads z ∷ events) x y e = sets_in-same events x y e
sets_in-same (sets z ∷ events) x y e =
    ap (λ f. bytes_eq f (folded z) || sets_in events x) e ∙ ap (λ r. same_name y z || r) (sets_in-same events x y e)

-- ---- each variable that is read is declared

-- Whether some event reads x.
abbrev pub reads_some : List Event → List ℕ → Bool
reads_some [] x = false
reads_some (reads y ∷ events) x = same_name x y || reads_some events x
reads_some (sets y ∷ events) x = reads_some events x

or_weaker : (a b c : Bool) → (b ≡ true → c ≡ true) → (a || b) ≡ true → (a || c) ≡ true
or_weaker true b c f h = refl
or_weaker false b c f h = f h

pub reads_some-first : (events : List Event) (x : List ℕ) → reads_first events x ≡ true → reads_some events x ≡ true
reads_some-first [] x h = h
reads_some-first (reads y ∷ events) x h = or_weaker (same_name x y) (reads_first events x) (reads_some events x) (reads_some-first events x) h
reads_some-first (sets y ∷ events) x h = reads_some-first events x (and_parts (not (same_name x y)) (reads_first events x) h).1

pub reads_some-append : (es fs : List Event) (x : List ℕ) → reads_some (es ++ fs) x ≡ true → (reads_some es x ≡ true) ⊎ (reads_some fs x ≡ true)
reads_some-append [] fs x h = inr h
reads_some-append (reads y ∷ es) fs x h = elim (or_cases (same_name x y) (reads_some (es ++ fs) x) h) [
  | inl here ↦ inl (or_left (same_name x y) (reads_some es x) here)
  | inr there ↦ elim (reads_some-append es fs x there) [
    | inl left ↦ inl (or_right (same_name x y) (reads_some es x) left)
    | inr right ↦ inr right
  ]
]
reads_some-append (sets y ∷ es) fs x h = reads_some-append es fs x h

-- Nothing is read before the text of a transition.
pub sets_read_nothing : (ids : List Identifier) (x : List ℕ) → reads_some (map (λ id. sets id.name) ids) x ≡ true → ⊥
sets_read_nothing [] x h = true≢false (sym h)
sets_read_nothing (id ∷ ids) x h = sets_read_nothing ids x h

-- One more variable, with an initial value or without.
initial_more : (b : Bool) (x y : List ℕ) (rest : List Event) → (reads_some rest x ≡ true → ⊥)
    → reads_some ((if b then sets y ∷ [] else []) ++ rest) x ≡ true → ⊥
initial_more true x y rest none h = none h
initial_more false x y rest none h = none h

pub initial_reads_nothing : (vs : List Variable) (x : List ℕ) → reads_some (flat_map initial_sets vs) x ≡ true → ⊥
initial_reads_nothing [] x h = true≢false (sym h)
initial_reads_nothing (v ∷ vs) x h = initial_more (is_some v.initial) x v.name.name (flat_map initial_sets vs) (initial_reads_nothing vs x) h

reads_of_names : (ids : List Identifier) (x : List ℕ) → reads_some (map (λ id. reads id.name) ids) x ≡ is_in ids x
reads_of_names [] x = refl
reads_of_names (id ∷ ids) x = ap (λ r. same_name x id.name || r) (reads_of_names ids x)

in_append_left : (xs ys : List Identifier) (x : List ℕ) → is_in xs x ≡ true → is_in (xs ++ ys) x ≡ true
in_append_left xs ys x h = list_any-append (λ id. same_name x id.name) xs ys ∙ or_left (is_in xs x) (is_in ys x) h

in_append_right : (xs ys : List Identifier) (x : List ℕ) → is_in ys x ≡ true → is_in (xs ++ ys) x ≡ true
in_append_right xs ys x h = list_any-append (λ id. same_name x id.name) xs ys ∙ or_right (is_in xs x) (is_in ys x) h

assignment_reads : (a : PlainAssignment) (x : List ℕ) → reads_some (assignment_events a) x ≡ true → is_in (assignment_names a) x ≡ true
assignment_reads a x h = elim (reads_some-append (map (λ id. reads id.name) (tree_names a.value)) (sets a.variable.name ∷ []) x h) [
  | inl there ↦ or_right (same_name x a.variable.name) (is_in (tree_names a.value) x) (sym (reads_of_names (tree_names a.value) x) ∙ there)
  | inr none ↦ absurd (true≢false (sym none))
]

assignments_read : (list : List PlainAssignment) (x : List ℕ) → reads_some (flat_map assignment_events list) x ≡ true → is_in (flat_map assignment_names list) x ≡ true
assignments_read [] x h = h
assignments_read (a ∷ list) x h = elim (reads_some-append (assignment_events a) (flat_map assignment_events list) x h) [
  | inl here ↦ in_append_left (assignment_names a) (flat_map assignment_names list) x (assignment_reads a x here)
  | inr there ↦ in_append_right (assignment_names a) (flat_map assignment_names list) x (assignments_read list x there)
]

known_in : (among ids : List Identifier) (x : List ℕ) → unknown among ids ≡ [] → is_in ids x ≡ true → is_in among x ≡ true
known_in among [] x none h = absurd (true≢false (sym h))
known_in among (id ∷ ids) x none h = elim (or_cases (same_name x id.name) (is_in ids x) h) [
  | inl here ↦
      in_alike among x id.name (same_folded x id.name here)
      ∙ no_place (is_in among id.name) id.at (append-nil_left _ _ none)
  | inr there ↦ known_in among ids x (append-nil_right (if is_in among id.name then [] else id.at ∷ []) _ none) there
]

parameters_read : (ts : List Tree) (x : List ℕ) → reads_some (flat_map tree_events ts) x ≡ true → is_in (flat_map tree_names ts) x ≡ true
parameters_read [] x h = h
parameters_read (t ∷ ts) x h = elim (reads_some-append (tree_events t) (flat_map tree_events ts) x h) [
  | inl here ↦ in_append_left (tree_names t) (flat_map tree_names ts) x (sym (reads_of_names (tree_names t) x) ∙ here)
  | inr there ↦ in_append_right (tree_names t) (flat_map tree_names ts) x (parameters_read ts x there)
]

sendings_known : (b : PlainBlock) (p : PlainProcess) (ss : List PlainSending) (x : List ℕ) → flat_map (sending_unknown b p) ss ≡ []
    → reads_some (flat_map sending_events ss) x ≡ true → is_in (variable_names p) x ≡ true
sendings_known b p [] x none h = absurd (true≢false (sym h))
sendings_known b p (s ∷ ss) x none h = elim (reads_some-append (sending_events s) (flat_map sending_events ss) x h) [
  | inl here ↦
      known_in (variable_names p) (flat_map tree_names s.parameters) x
      (append-nil_right (unknown (signal_names b) (s.signal ∷ [])) _ (append-nil_left (sending_unknown b p s) _ none))
      (parameters_read s.parameters x here)
  | inr there ↦ sendings_known b p ss x (append-nil_right (sending_unknown b p s) _ none) there
]

-- If an action names nothing unknown, each variable that it reads is declared.
pub action_known : (b : PlainBlock) (p : PlainProcess) (a : PlainAction) (x : List ℕ) → action_unknown b p a ≡ []
    → reads_some (action_events a) x ≡ true → is_in (variable_names p) x ≡ true
action_known b p (task at list) x none h = known_in (variable_names p) (flat_map assignment_names list) x none (assignments_read list x h)
action_known b p (output at list to) x none h = sendings_known b p list x (append-nil_left (flat_map (sending_unknown b p) list) _ none) h
action_known b p (set_timer at delay timer) x none h =
    known_in (variable_names p) (tree_names delay) x (append-nil_left (unknown (variable_names p) (tree_names delay)) _ none)
    (sym (reads_of_names (tree_names delay) x) ∙ h)
action_known b p (reset_timer at timer) x none h = absurd (true≢false (sym h))

-- If a question names nothing unknown, each variable that it reads is declared.
pub question_known : (p : PlainProcess) (t : Tree) (x : List ℕ) → unknown (variable_names p) (tree_names t) ≡ [] → reads_some (tree_events t) x ≡ true → is_in (variable_names p) x ≡ true
question_known p t x none h = known_in (variable_names p) (tree_names t) x none (sym (reads_of_names (tree_names t) x) ∙ h)

pub no_event : (events : List Event) (x : List ℕ) → events ≡ [] → reads_some events x ≡ true → ⊥
no_event events x none h = true≢false (sym (ap (λ es. reads_some es x) (sym none) ∙ h))
