-- What one walk of a text does with a variable is among the chances of the text.
use Rattle.std.proofs.Common.{◌≡◌, ℕ, Bool, true, false, not, ◌&&◌, ◌||◌, List, [], ◌++◌, refl, sym, ap, ◌∙◌, subst, inl, inr}
use Rattle.std.proofs.lemmas.Bool.{and_parts as and_true, and_from as both_true, or_cases as or_true, or_left as true_or, or_right as or_else}
use Rattle.std.proofs.lemmas.List.{append-nil}
use Rattle.sdl_ast.specs.declared.expression.Identifier.{Identifier}
use Rattle.sdl_ast.specs.declared.tree.End.TheVariants.{NextState, Stop, Join}
use Rattle.sdl_ast.specs.Plain.{Text, falls, ends, does, decides, Choice, nothing_else, otherwise, answer}
use Rattle.sdl_tables.specs.Names.{is_state}
use Rattle.sdl_sound.specs.Paths.{Event, tree_events, action_events, reads_first, sets_in, Way, onward, stops, enters as into, GoesOn, Walks, IsChosen}
use Rattle.sdl_sound.specs.Chances.{Chances, no_chances, leaving, event_chances, behind, beside, end_chances, chances, choice_chances}
use Rattle.sdl_sound.proofs.Walks.{reads_first-append, sets_in-append}

-- ---- Booleans

-- ---- events one after another

-- ---- what one walk does

abbrev pub is_onward : Way → Bool
is_onward onward = true
is_onward stops = false
is_onward (into s) = false

abbrev pub comes_into : List Identifier → ℕ → Way → Bool
comes_into states q onward = false
comes_into states q stops = false
comes_into states q (into s) = is_state states q s

abbrev pub walk_chances : List Identifier → List ℕ → ℕ → List Event → Way → Chances
walk_chances states x q events way = record {
  reads = reads_first events x;
  leaves = is_onward way && not (sets_in events x);
  enters = comes_into states q way && not (sets_in events x);
}

-- All chances of the first are chances of the second.
pub record IsPart (a b : Chances) : Type 0 where
  pub reads : a.reads ≡ true → b.reads ≡ true
  pub leaves : a.leaves ≡ true → b.leaves ≡ true
  pub enters : a.enters ≡ true → b.enters ≡ true

part-same : (a : Chances) → IsPart a a
part-same a = record { reads = λ h. h; leaves = λ h. h; enters = λ h. h }

part-part : (a b c : Chances) → IsPart a b → IsPart b c → IsPart a c
part-part a b c f g = record { reads = λ h. g.reads (f.reads h); leaves = λ h. g.leaves (f.leaves h); enters = λ h. g.enters (f.enters h) }

-- One bit after another.
bit-behind : (a b c d e f : Bool) → (a ≡ true → b ≡ true) → (c ≡ true → d ≡ true) → (e ≡ true → f ≡ true) → (a || (c && e)) ≡ true → (b || (d && f)) ≡ true
bit-behind a b c d e f p q r h = elim (or_true a (c && e) h) [
  | inl one ↦ true_or b (d && f) (p one)
  | inr two ↦ let parts = and_true c e two in or_else b (d && f) (both_true d f (q parts.0) (r parts.1))
]

behind-part : (a b c d : Chances) → IsPart a b → IsPart c d → IsPart (behind a c) (behind b d)
behind-part a b c d f g = record {
  reads = bit-behind a.reads b.reads a.leaves b.leaves c.reads d.reads f.reads f.leaves g.reads;
  leaves = λ h. let parts = and_true a.leaves c.leaves h in both_true b.leaves d.leaves (f.leaves parts.0) (g.leaves parts.1);
  enters = bit-behind a.enters b.enters a.leaves b.leaves c.enters d.enters f.enters f.leaves g.enters;
}

beside-first : (a b : Chances) → IsPart a (beside a b)
beside-first a b = record { reads = true_or a.reads b.reads; leaves = true_or a.leaves b.leaves; enters = true_or a.enters b.enters }

beside-second : (a b : Chances) → IsPart b (beside a b)
beside-second a b = record { reads = or_else a.reads b.reads; leaves = or_else a.leaves b.leaves; enters = or_else a.enters b.enters }

swap : (o s a b : Bool) → s ≡ (a && b) → (o && s) ≡ (a && (o && b))
swap true s a b h = h
swap false s true b h = refl
swap false s false b h = refl

pub walk-after : (states : List Identifier) (x : List ℕ) (q : ℕ) (xs ys : List Event) (way : Way)
    → IsPart (walk_chances states x q (xs ++ ys) way) (behind (event_chances xs x) (walk_chances states x q ys way))
walk-after states x q xs ys way = record {
  reads = λ h. sym (reads_first-append xs ys x) ∙ h;
  leaves = λ h. sym (swap (is_onward way) (not (sets_in (xs ++ ys) x)) (not (sets_in xs x)) (not (sets_in ys x)) (sets_in-append xs ys x)) ∙ h;
  enters = λ h. sym (swap (comes_into states q way) (not (sets_in (xs ++ ys) x)) (not (sets_in xs x)) (not (sets_in ys x)) (sets_in-append xs ys x)) ∙ h;
}

-- A walk with events and a way that are equal to these.
pub walk-at : (states : List Identifier) (x : List ℕ) (q : ℕ) (events es : List Event) (way w : Way) (c : Chances) → events ≡ es → way ≡ w
    → IsPart (walk_chances states x q es w) c → IsPart (walk_chances states x q events way) c
walk-at states x q events es way w c e v h =
    subst (λ u. IsPart (walk_chances states x q u way) c) (sym e) (subst (λ u. IsPart (walk_chances states x q es u) c) (sym v) h)

-- If a walk doesn't go on, nothing after it is walked.
walk-over : (states : List Identifier) (x : List ℕ) (q : ℕ) (chosen : List Event) (way : Way) (c d : Chances) → is_onward way ≡ false
    → IsPart (walk_chances states x q chosen way) c → IsPart (walk_chances states x q chosen way) (behind c d)
walk-over states x q chosen way c d over h = record {
  reads = λ r. true_or c.reads (c.leaves && d.reads) (h.reads r);
  leaves = λ l. let parts = and_true (is_onward way) (not (sets_in chosen x)) l in let bad : false ≡ true = sym over ∙ parts.0 in absurd (cc);
  enters = λ e. true_or c.enters (c.leaves && d.enters) (h.enters e);
}

walk-then : (states : List Identifier) (x : List ℕ) (q : ℕ) (rest : List Event → Way → Type 0) (chosen after : List Event) (between way : Way) (c d : Chances)
    → IsPart (walk_chances states x q chosen between) c
    → ((events : List Event) (w : Way) → rest events w → IsPart (walk_chances states x q events w) d)
    → GoesOn between rest after way → IsPart (walk_chances states x q (chosen ++ after) way) (behind c d)
walk-then states x q rest chosen after onward way c d first then goes =
    part-part (walk_chances states x q (chosen ++ after) way) (behind (event_chances chosen x) (walk_chances states x q after way)) (behind c d)
    (walk-after states x q chosen after way)
    (behind-part (event_chances chosen x) c (walk_chances states x q after way) d
    (record { reads = first.reads; leaves = first.leaves; enters = λ h. let bad : false ≡ true = h in absurd (cc) }) (then after way goes))
walk-then states x q rest chosen after stops way c d first then goes =
    walk-at states x q (chosen ++ after) chosen way stops (behind c d) (ap (λ es. chosen ++ es) goes.0 ∙ append-nil chosen) goes.1
    (walk-over states x q chosen stops c d refl first)
walk-then states x q rest chosen after (into s) way c d first then goes =
    walk-at states x q (chosen ++ after) chosen way (into s) (behind c d) (ap (λ es. chosen ++ es) goes.0 ∙ append-nil chosen) goes.1
    (walk-over states x q chosen (into s) c d refl first)

-- What the walks of a connection do is among its chances.
abbrev pub CountsWalks : List Identifier → List ℕ → ℕ → (List ℕ → List Event → Way → Type 0) → (List ℕ → Chances) → Type 0
CountsWalks states x q join told = (y : List ℕ) (events : List Event) (way : Way) → join y events way → IsPart (walk_chances states x q events way) (told y)

mutual
  pub walks-part : (states : List Identifier) (x : List ℕ) (q : ℕ) (join : List ℕ → List Event → Way → Type 0) (told : List ℕ → Chances) → CountsWalks states x q join told
      → (t : Text) (events : List Event) (way : Way) → Walks join t events way → IsPart (walk_chances states x q events way) (chances states told x q t)
  walks-part states x q join told of falls events way w =
      walk-at states x q events [] way onward leaving w.0 w.1 (record { reads = λ h. h; leaves = λ h. refl; enters = λ h. h })
  walks-part states x q join told of (ends (NextState n)) events way w =
      walk-at states x q events [] way (into n.state.name) (end_chances states told q (NextState n)) w.0 w.1
      (record { reads = λ h. h; leaves = λ h. h; enters = λ h. (and_true (is_state states q n.state.name) true h).0 })
  walks-part states x q join told of (ends (Stop at)) events way w =
      walk-at states x q events [] way stops no_chances w.0 w.1 (record { reads = λ h. h; leaves = λ h. h; enters = λ h. h })
  walks-part states x q join told of (ends (Join j)) events way w = of j.connector.name events way w
  walks-part states x q join told of (does a rest) events way (after, is, w) =
      walk-at states x q events (action_events a ++ after) way way (chances states told x q (does a rest)) is refl
      (part-part (walk_chances states x q (action_events a ++ after) way) (behind (event_chances (action_events a) x) (walk_chances states x q after way)) (chances states told x q (does a rest))
      (walk-after states x q (action_events a) after way)
      (behind-part (event_chances (action_events a) x) (event_chances (action_events a) x) (walk_chances states x q after way) (chances states told x q rest)
      (part-same (event_chances (action_events a) x)) (walks-part states x q join told of rest after way w)))
  walks-part states x q join told of (decides at t c rest) events way (chosen, after, between, is, w, goes) =
      walk-at states x q events (tree_events t ++ (chosen ++ after)) way way (chances states told x q (decides at t c rest)) is refl
      (part-part (walk_chances states x q (tree_events t ++ (chosen ++ after)) way) (behind (event_chances (tree_events t) x) (walk_chances states x q (chosen ++ after) way)) (chances states told x q (decides at t c rest))
      (walk-after states x q (tree_events t) (chosen ++ after) way)
      (behind-part (event_chances (tree_events t) x) (event_chances (tree_events t) x) (walk_chances states x q (chosen ++ after) way) (behind (choice_chances states told x q c) (chances states told x q rest))
      (part-same (event_chances (tree_events t) x))
      (walk-then states x q (Walks join rest) chosen after between way (choice_chances states told x q c) (chances states told x q rest)
      (chosen-part states x q join told of c chosen between w) (walks-part states x q join told of rest) goes)))

  pub chosen-part : (states : List Identifier) (x : List ℕ) (q : ℕ) (join : List ℕ → List Event → Way → Type 0) (told : List ℕ → Chances) → CountsWalks states x q join told
      → (c : Choice) (events : List Event) (way : Way) → IsChosen join c events way → IsPart (walk_chances states x q events way) (choice_chances states told x q c)
  chosen-part states x q join told of nothing_else events way w = absurd w
  chosen-part states x q join told of (otherwise body) events way w = walks-part states x q join told of body events way w
  chosen-part states x q join told of (answer at ranges body others) events way w = elim w [
    | inl one ↦ part-part (walk_chances states x q events way) (chances states told x q body) (choice_chances states told x q (answer at ranges body others))
        (walks-part states x q join told of body events way one) (beside-first (chances states told x q body) (choice_chances states told x q others))
    | inr other ↦ part-part (walk_chances states x q events way) (choice_chances states told x q others) (choice_chances states told x q (answer at ranges body others))
        (chosen-part states x q join told of others events way other) (beside-second (chances states told x q body) (choice_chances states told x q others))
  ]
