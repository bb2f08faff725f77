-- What the walks of a text may do with a variable: as Booleans, and as walks.
use Rattle.std.proofs.Common.{◌≡◌, ℕ, zero, suc, ◌+◌, ◌<◌, ◌≤◌, true, false, not, ◌&&◌, List, [], ◌++◌, length, Option, Some, refl, sym, ap, ◌∙◌, subst, arith, inl, inr}
use Rattle.std.specs.Prelude.{⊤}
use Rattle.std.specs.Option.{option_map_or}
use Rattle.std.proofs.lemmas.Bool.{not-true, and_parts as and_true, and_from as both_true, or_cases as or_true, or_left as true_or}
use Rattle.std.proofs.lemmas.List.{append-nil}
use Rattle.sdl_ast.specs.declared.expression.Identifier.{Identifier}
use Rattle.sdl_ast.specs.declared.tree.End.{End}
use Rattle.sdl_ast.specs.declared.tree.End.TheVariants.{NextState, Stop, Join}
use Rattle.sdl_ast.specs.Plain.{Text, falls, ends, does, decides, Choice, nothing_else, otherwise, answer, PlainConnection, PlainProcess}
use Rattle.sdl_tables.specs.Names.{is_state, connection_named, states_of}
use Rattle.sdl_sound.specs.Paths.{Event, tree_events, action_events, reads_first, sets_in, Way, onward, stops, enters as into, GoesOn, Walks, IsChosen, last_way, Follows}
use Rattle.sdl_sound.specs.Chances.{Chances, no_chances, event_chances, behind, beside, last_chances, chances, choice_chances, chances_by, text_chances}
use Rattle.sdl_sound.proofs.Walks.{reads_first-append, sets_in-append, reads-later}
use Rattle.sdl_unset.proofs.WalkChances.{walk_chances, IsPart, walk-at, CountsWalks, walks-part}

-- ---- each chance has a walk that takes it

-- Each DECISION of a text has a body, and `P` holds for the connector of each JOIN.
abbrev pub HasBody : Choice → Type 0
HasBody nothing_else = ⊥
HasBody (otherwise body) = ⊤
HasBody (answer at ranges body others) = ⊤

abbrev pub EndsWell : (List ℕ → Type 0) → End → Type 0
EndsWell P (NextState n) = ⊤
EndsWell P (Stop at) = ⊤
EndsWell P (Join j) = P j.connector.name

abbrev mutual
  pub IsWhole : (List ℕ → Type 0) → Text → Type 0
  IsWhole P falls = ⊤
  IsWhole P (ends e) = EndsWell P e
  IsWhole P (does a rest) = IsWhole P rest
  IsWhole P (decides at t c rest) = HasBody c × AreWhole P c × IsWhole P rest

  pub AreWhole : (List ℕ → Type 0) → Choice → Type 0
  AreWhole P nothing_else = ⊤
  AreWhole P (otherwise body) = IsWhole P body
  AreWhole P (answer at ranges body others) = IsWhole P body × AreWhole P others

mutual
  pub whole-more : (P Q : List ℕ → Type 0) → ((y : List ℕ) → P y → Q y) → (t : Text) → IsWhole P t → IsWhole Q t
  whole-more P Q f falls h = tt
  whole-more P Q f (ends (NextState n)) h = tt
  whole-more P Q f (ends (Stop at)) h = tt
  whole-more P Q f (ends (Join j)) h = f j.connector.name h
  whole-more P Q f (does a rest) h = whole-more P Q f rest h
  whole-more P Q f (decides at t c rest) h = (h.0, choice-more P Q f c h.1, whole-more P Q f rest h.2)

  pub choice-more : (P Q : List ℕ → Type 0) → ((y : List ℕ) → P y → Q y) → (c : Choice) → AreWhole P c → AreWhole Q c
  choice-more P Q f nothing_else h = tt
  choice-more P Q f (otherwise body) h = whole-more P Q f body h
  choice-more P Q f (answer at ranges body others) h = (whole-more P Q f body h.0, choice-more P Q f others h.1)

-- There is a walk.
abbrev pub HasWalk : (List Event → Way → Type 0) → Type 0
HasWalk walks = (events : List Event) × (way : Way) × walks events way

goes-on : (rest : List Event → Way → Type 0) (between : Way) → HasWalk rest → (after : List Event) × (way : Way) × GoesOn between rest after way
goes-on rest onward some = some
goes-on rest stops some = ([], stops, (refl, refl))
goes-on rest (into s) some = ([], into s, (refl, refl))

mutual
  pub has_walk : (join : List ℕ → List Event → Way → Type 0) (P : List ℕ → Type 0) → ((y : List ℕ) → P y → HasWalk (join y))
      → (t : Text) → IsWhole P t → HasWalk (Walks join t)
  has_walk join P some falls h = ([], onward, (refl, refl))
  has_walk join P some (ends (NextState n)) h = ([], into n.state.name, (refl, refl))
  has_walk join P some (ends (Stop at)) h = ([], stops, (refl, refl))
  has_walk join P some (ends (Join j)) h = some j.connector.name h
  has_walk join P some (does a rest) h =
      let after = has_walk join P some rest h in (action_events a ++ after.0, after.1, (after.0, refl, after.2))
  has_walk join P some (decides at t c rest) h =
      let chosen = has_chosen join P some c h.0 h.1 in
      let after = goes-on (Walks join rest) chosen.1 (has_walk join P some rest h.2) in
      (tree_events t ++ (chosen.0 ++ after.0), after.1, (chosen.0, after.0, chosen.1, refl, chosen.2, after.2))

  pub has_chosen : (join : List ℕ → List Event → Way → Type 0) (P : List ℕ → Type 0) → ((y : List ℕ) → P y → HasWalk (join y))
      → (c : Choice) → HasBody c → AreWhole P c → HasWalk (IsChosen join c)
  has_chosen join P some nothing_else body h = absurd body
  has_chosen join P some (otherwise body) there h = has_walk join P some body h
  has_chosen join P some (answer at ranges body others) there h =
      let one = has_walk join P some body h.0 in (one.0, one.1, inl one.2)

-- Each chance is taken by one of these walks.
pub record AreShown (walks : List Event → Way → Type 0) (states : List Identifier) (x : List ℕ) (q : ℕ) (c : Chances) : Type 0 where
  pub reads : c.reads ≡ true → (events : List Event) × (way : Way) × walks events way × (reads_first events x ≡ true)
  pub leaves : c.leaves ≡ true → (events : List Event) × walks events onward × (sets_in events x ≡ false)
  pub enters : c.enters ≡ true → (events : List Event) × (s : List ℕ) × walks events (into s) × (is_state states q s ≡ true) × (sets_in events x ≡ false)

shown-by : (one other : List Event → Way → Type 0) (states : List Identifier) (x : List ℕ) (q : ℕ) (c : Chances)
    → ((events : List Event) (way : Way) → one events way → other events way) → AreShown one states x q c → AreShown other states x q c
shown-by one other states x q c f h = record {
  reads = λ r. let w = h.reads r in (w.0, w.1, f w.0 w.1 w.2, w.3);
  leaves = λ l. let w = h.leaves l in (w.0, f w.0 onward w.1, w.2);
  enters = λ e. let w = h.enters e in (w.0, w.1, f w.0 (into w.1) w.2, w.3, w.4);
}

-- Walks, each followed by one of the others.
abbrev pub Then : (List Event → Way → Type 0) → (List Event → Way → Type 0) → List Event → Way → Type 0
Then one rest events way = (chosen after : List Event) × (between : Way) × (events ≡ chosen ++ after) × one chosen between × GoesOn between rest after way

pub reads-now : (xs ys : List Event) (x : List ℕ) → reads_first xs x ≡ true → reads_first (xs ++ ys) x ≡ true
reads-now xs ys x h = reads_first-append xs ys x ∙ true_or (reads_first xs x) (not (sets_in xs x) && reads_first ys x) h

pub sets-neither : (xs ys : List Event) (x : List ℕ) → sets_in xs x ≡ false → sets_in ys x ≡ false → sets_in (xs ++ ys) x ≡ false
sets-neither xs ys x h k =
    not-true (sets_in (xs ++ ys) x) (sets_in-append xs ys x ∙ both_true (not (sets_in xs x)) (not (sets_in ys x)) (ap not h) (ap not k))

shown-behind : (one rest : List Event → Way → Type 0) (states : List Identifier) (x : List ℕ) (q : ℕ) (c d : Chances)
    → AreShown one states x q c → HasWalk rest → AreShown rest states x q d → AreShown (Then one rest) states x q (behind c d)
shown-behind one rest states x q c d first some second = record {
  reads = λ h. elim (or_true c.reads (c.leaves && d.reads) h) [
    | inl now ↦
        let w = first.reads now in
        let after = goes-on rest w.1 some in
        (w.0 ++ after.0, after.1, (w.0, after.0, w.1, refl, w.2, after.2), reads-now w.0 after.0 x w.3)
    | inr later ↦
        let parts = and_true c.leaves d.reads later in
        let w = first.leaves parts.0 in
        let v = second.reads parts.1 in
        (w.0 ++ v.0, v.1, (w.0, v.0, onward, refl, w.1, v.2), reads-later w.0 v.0 x w.2 v.3)
  ];
  leaves = λ h.
      let parts = and_true c.leaves d.leaves h in
      let w = first.leaves parts.0 in
      let v = second.leaves parts.1 in
      (w.0 ++ v.0, (w.0, v.0, onward, refl, w.1, v.1), sets-neither w.0 v.0 x w.2 v.2);
  enters = λ h. elim (or_true c.enters (c.leaves && d.enters) h) [
    | inl now ↦
        let w = first.enters now in
        (w.0, w.1, (w.0, [], into w.1, sym (append-nil w.0), w.2, (refl, refl)), w.3, w.4)
    | inr later ↦
        let parts = and_true c.leaves d.enters later in
        let w = first.leaves parts.0 in
        let v = second.enters parts.1 in
        (w.0 ++ v.0, v.1, (w.0, v.0, onward, refl, w.1, v.2), v.3, sets-neither w.0 v.0 x w.2 v.4)
  ];
}

-- Only these events.
abbrev pub Only : List Event → List Event → Way → Type 0
Only es events way = (events ≡ es) × (way ≡ onward)

shown-only : (states : List Identifier) (x : List ℕ) (q : ℕ) (es : List Event) → AreShown (Only es) states x q (event_chances es x)
shown-only states x q es = record {
  reads = λ h. (es, onward, (refl, refl), h);
  leaves = λ h. (es, (refl, refl), not-true (sets_in es x) h);
  enters = λ h. let bad : false ≡ true = h in absurd (cc);
}

shown-after : (rest : List Event → Way → Type 0) (states : List Identifier) (x : List ℕ) (q : ℕ) (es : List Event) (d : Chances)
    → HasWalk rest → AreShown rest states x q d
    → AreShown (λ events way. (after : List Event) × (events ≡ es ++ after) × rest after way) states x q (behind (event_chances es x) d)
shown-after rest states x q es d some h =
    shown-by (Then (Only es) rest) (λ events way. (after : List Event) × (events ≡ es ++ after) × rest after way) states x q (behind (event_chances es x) d)
    (λ events way w. (w.1, w.3 ∙ ap (λ (u : List Event). u ++ w.1) w.4.0, subst (λ (b : Way). GoesOn b rest w.1 way) w.4.1 w.5))
    (shown-behind (Only es) rest states x q (event_chances es x) d (shown-only states x q es) some h)

mutual
  pub shown : (states : List Identifier) (x : List ℕ) (q : ℕ) (join : List ℕ → List Event → Way → Type 0) (told : List ℕ → Chances) (P : List ℕ → Type 0)
      → ((y : List ℕ) → P y → HasWalk (join y)) → ((y : List ℕ) → P y → AreShown (join y) states x q (told y))
      → (t : Text) → IsWhole P t → AreShown (Walks join t) states x q (chances states told x q t)
  shown states x q join told P some each falls h = record {
    reads = λ r. let bad : false ≡ true = r in absurd (cc);
    leaves = λ l. ([], (refl, refl), refl);
    enters = λ e. let bad : false ≡ true = e in absurd (cc);
  }
  shown states x q join told P some each (ends (NextState n)) h = record {
    reads = λ r. let bad : false ≡ true = r in absurd (cc);
    leaves = λ l. let bad : false ≡ true = l in absurd (cc);
    enters = λ e. ([], n.state.name, (refl, refl), e, refl);
  }
  shown states x q join told P some each (ends (Stop at)) h = record {
    reads = λ r. let bad : false ≡ true = r in absurd (cc);
    leaves = λ l. let bad : false ≡ true = l in absurd (cc);
    enters = λ e. let bad : false ≡ true = e in absurd (cc);
  }
  shown states x q join told P some each (ends (Join j)) h = each j.connector.name h
  shown states x q join told P some each (does a rest) h =
      shown-after (Walks join rest) states x q (action_events a) (chances states told x q rest) (has_walk join P some rest h)
      (shown states x q join told P some each rest h)
  shown states x q join told P some each (decides at t c rest) h =
      let c1 = choice_chances states told x q c in
      let c2 = chances states told x q rest in
      let both = shown-behind (IsChosen join c) (Walks join rest) states x q c1 c2 (shown_choice states x q join told P some each c h.1)
      (has_walk join P some rest h.2) (shown states x q join told P some each rest h.2) in
      let chosen = has_chosen join P some c h.0 h.1 in
      let after = goes-on (Walks join rest) chosen.1 (has_walk join P some rest h.2) in
      let one : HasWalk (Then (IsChosen join c) (Walks join rest)) = (chosen.0 ++ after.0, after.1, (chosen.0, after.0, chosen.1, refl, chosen.2, after.2)) in
      shown-by (λ events way. (after : List Event) × (events ≡ tree_events t ++ after) × Then (IsChosen join c) (Walks join rest) after way)
      (Walks join (decides at t c rest)) states x q (behind (event_chances (tree_events t) x) (behind c1 c2))
      (λ events way w. (w.2.0, w.2.1, w.2.2, w.1 ∙ ap (λ es. tree_events t ++ es) w.2.3, w.2.4, w.2.5))
      (shown-after (Then (IsChosen join c) (Walks join rest)) states x q (tree_events t) (behind c1 c2) one both)

  pub shown_choice : (states : List Identifier) (x : List ℕ) (q : ℕ) (join : List ℕ → List Event → Way → Type 0) (told : List ℕ → Chances) (P : List ℕ → Type 0)
      → ((y : List ℕ) → P y → HasWalk (join y)) → ((y : List ℕ) → P y → AreShown (join y) states x q (told y))
      → (c : Choice) → AreWhole P c → AreShown (IsChosen join c) states x q (choice_chances states told x q c)
  shown_choice states x q join told P some each nothing_else h = record {
    reads = λ r. let bad : false ≡ true = r in absurd (cc);
    leaves = λ l. let bad : false ≡ true = l in absurd (cc);
    enters = λ e. let bad : false ≡ true = e in absurd (cc);
  }
  shown_choice states x q join told P some each (otherwise body) h = shown states x q join told P some each body h
  shown_choice states x q join told P some each (answer at ranges body others) h =
      let one = shown states x q join told P some each body h.0 in
      let other = shown_choice states x q join told P some each others h.1 in
      let c1 = chances states told x q body in
      let c2 = choice_chances states told x q others in
      record {
        reads = λ r. elim (or_true c1.reads c2.reads r) [
          | inl a ↦ let w = one.reads a in (w.0, w.1, inl w.2, w.3)
          | inr b ↦ let w = other.reads b in (w.0, w.1, inr w.2, w.3)
        ];
        leaves = λ l. elim (or_true c1.leaves c2.leaves l) [
          | inl a ↦ let w = one.leaves a in (w.0, inl w.1, w.2)
          | inr b ↦ let w = other.leaves b in (w.0, inr w.1, w.2)
        ];
        enters = λ e. elim (or_true c1.enters c2.enters e) [
          | inl a ↦ let w = one.enters a in (w.0, w.1, inl w.2, w.3, w.4)
          | inr b ↦ let w = other.enters b in (w.0, w.1, inr w.2, w.3, w.4)
        ];
      }

-- ---- through connections

-- There is a connection with this name, and its rank is below n.
abbrev pub IsBefore : PlainProcess → (List ℕ → ℕ) → ℕ → List ℕ → Type 0
IsBefore p rank n y = (rank y < n) × (c : PlainConnection) × (connection_named p y ≡ Some c)

-- Each JOIN of a connection leads to one of lower rank, and each DECISION has a body.
abbrev pub AreRanked : PlainProcess → (List ℕ → ℕ) → Type 0
AreRanked p rank = (y : List ℕ) (c : PlainConnection) → connection_named p y ≡ Some c → IsWhole (IsBefore p rank (rank y)) c.text

-- A connection of rank n or lower joins only connections of rank below n.
inner-whole : (p : PlainProcess) (rank : List ℕ → ℕ) → AreRanked p rank → (n : ℕ) (y : List ℕ) (c : PlainConnection) → rank y < suc n
    → connection_named p y ≡ Some c → IsWhole (IsBefore p rank n) c.text
inner-whole p rank ranked n y c lt is =
    whole-more (IsBefore p rank (rank y)) (IsBefore p rank n) (λ z h. (omega (arith, h.0, lt), h.1, h.2)) c.text (ranked y c is)

pub follows_some : (p : PlainProcess) (rank : List ℕ → ℕ) → AreRanked p rank → (n : ℕ) (y : List ℕ) → IsBefore p rank n y → HasWalk (Follows p n y)
follows_some p rank ranked zero y h = absurd (omega (arith, h.0))
follows_some p rank ranked (suc n) y (lt, c, is) =
    let w = has_walk (Follows p n) (IsBefore p rank n) (follows_some p rank ranked n) c.text (inner-whole p rank ranked n y c lt is) in
    (w.0, last_way w.1, (c, is, w.1, w.2, refl))

pub follows_shown : (p : PlainProcess) (rank : List ℕ → ℕ) (x : List ℕ) (q : ℕ) → AreRanked p rank → (n : ℕ) (y : List ℕ) → IsBefore p rank n y
    → AreShown (Follows p n y) (states_of p) x q (chances_by p n x q y)
follows_shown p rank x q ranked zero y h = absurd (omega (arith, h.0))
follows_shown p rank x q ranked (suc n) y (lt, c, is) =
    let told = λ (d : PlainConnection). last_chances (chances (states_of p) (chances_by p n x q) x q d.text) in
    let inner = shown (states_of p) x q (Follows p n) (chances_by p n x q) (IsBefore p rank n) (follows_some p rank ranked n) (follows_shown p rank x q ranked n)
    c.text (inner-whole p rank ranked n y c lt is) in
    subst (λ (o : Option PlainConnection). AreShown (Follows p (suc n) y) (states_of p) x q (option_map_or told o no_chances)) (sym is) (record {
      reads = λ r. let w = inner.reads r in (w.0, last_way w.1, (c, is, w.1, w.2, refl), w.3);
      leaves = λ l. let bad : false ≡ true = l in absurd (cc);
      enters = λ e. let w = inner.enters e in (w.0, w.1, (c, is, into w.1, w.2, refl), w.3, w.4);
    })

last-part : (states : List Identifier) (x : List ℕ) (q : ℕ) (events : List Event) (inner : Way) (c : Chances) → IsPart (walk_chances states x q events inner) c
    → IsPart (walk_chances states x q events (last_way inner)) (last_chances c)
last-part states x q events onward c h = record { reads = h.reads; leaves = λ l. l; enters = λ e. let bad : false ≡ true = e in absurd (cc) }
last-part states x q events stops c h = record { reads = h.reads; leaves = λ l. l; enters = λ e. let bad : false ≡ true = e in absurd (cc) }
last-part states x q events (into s) c h = record { reads = h.reads; leaves = λ l. l; enters = h.enters }

pub follows_part : (p : PlainProcess) (x : List ℕ) (q n : ℕ) → CountsWalks (states_of p) x q (Follows p n) (chances_by p n x q)
follows_part p x q zero y events way w = absurd w
follows_part p x q (suc n) y events way (c, is, inner, w, last) =
    let told = λ (d : PlainConnection). last_chances (chances (states_of p) (chances_by p n x q) x q d.text) in
    subst (λ (o : Option PlainConnection). IsPart (walk_chances (states_of p) x q events way) (option_map_or told o no_chances)) (sym is)
    (walk-at (states_of p) x q events events way (last_way inner) (told c) refl last
    (last-part (states_of p) x q events inner (chances (states_of p) (chances_by p n x q) x q c.text)
    (walks-part (states_of p) x q (Follows p n) (chances_by p n x q) (follows_part p x q n) c.text events inner w)))

-- ---- as many JOINs as there are connections

goes-more : (one other : List Event → Way → Type 0) → ((events : List Event) (way : Way) → one events way → other events way)
    → (between : Way) (after : List Event) (way : Way) → GoesOn between one after way → GoesOn between other after way
goes-more one other f onward after way h = f after way h
goes-more one other f stops after way h = h
goes-more one other f (into s) after way h = h

mutual
  pub walks-more : (one other : List ℕ → List Event → Way → Type 0) → ((y : List ℕ) (events : List Event) (way : Way) → one y events way → other y events way)
      → (t : Text) (events : List Event) (way : Way) → Walks one t events way → Walks other t events way
  walks-more one other f falls events way w = w
  walks-more one other f (ends (NextState n)) events way w = w
  walks-more one other f (ends (Stop at)) events way w = w
  walks-more one other f (ends (Join j)) events way w = f j.connector.name events way w
  walks-more one other f (does a rest) events way (after, is, w) = (after, is, walks-more one other f rest after way w)
  walks-more one other f (decides at t c rest) events way (chosen, after, between, is, w, goes) = (
    chosen,
    after,
    between,
    is,
    chosen-more one other f c chosen between w,
    goes-more (Walks one rest) (Walks other rest) (walks-more one other f rest) between after way goes,
  )

  pub chosen-more : (one other : List ℕ → List Event → Way → Type 0) → ((y : List ℕ) (events : List Event) (way : Way) → one y events way → other y events way)
      → (c : Choice) (events : List Event) (way : Way) → IsChosen one c events way → IsChosen other c events way
  chosen-more one other f nothing_else events way w = w
  chosen-more one other f (otherwise body) events way w = walks-more one other f body events way w
  chosen-more one other f (answer at ranges body others) events way w = elim w [
    | inl h ↦ inl (walks-more one other f body events way h)
    | inr h ↦ inr (chosen-more one other f others events way h)
  ]

follows_more : (p : PlainProcess) (n m : ℕ) → n ≤ m → (y : List ℕ) (events : List Event) (way : Way) → Follows p n y events way → Follows p m y events way
follows_more p zero m le y events way w = absurd w
follows_more p (suc n) zero le y events way w = absurd (omega (arith, le))
follows_more p (suc n) (suc m) le y events way (c, is, inner, w, last) =
    (c, is, inner, walks-more (Follows p n) (Follows p m) (follows_more p n m (omega (arith, le))) c.text events inner w, last)

mutual
  pub chances-same : (states : List Identifier) (x : List ℕ) (q : ℕ) (one other : List ℕ → Chances) (P : List ℕ → Type 0) → ((y : List ℕ) → P y → one y ≡ other y)
      → (t : Text) → IsWhole P t → chances states one x q t ≡ chances states other x q t
  chances-same states x q one other P f falls h = refl
  chances-same states x q one other P f (ends (NextState n)) h = refl
  chances-same states x q one other P f (ends (Stop at)) h = refl
  chances-same states x q one other P f (ends (Join j)) h = f j.connector.name h
  chances-same states x q one other P f (does a rest) h = ap (behind (event_chances (action_events a) x)) (chances-same states x q one other P f rest h)
  chances-same states x q one other P f (decides at t c rest) h =
      ap (λ d. behind (event_chances (tree_events t) x) (behind d (chances states one x q rest))) (choice-same states x q one other P f c h.1)
      ∙ ap (λ d. behind (event_chances (tree_events t) x) (behind (choice_chances states other x q c) d)) (chances-same states x q one other P f rest h.2)

  pub choice-same : (states : List Identifier) (x : List ℕ) (q : ℕ) (one other : List ℕ → Chances) (P : List ℕ → Type 0) → ((y : List ℕ) → P y → one y ≡ other y)
      → (c : Choice) → AreWhole P c → choice_chances states one x q c ≡ choice_chances states other x q c
  choice-same states x q one other P f nothing_else h = refl
  choice-same states x q one other P f (otherwise body) h = chances-same states x q one other P f body h
  choice-same states x q one other P f (answer at ranges body others) h =
      ap (λ d. beside d (choice_chances states one x q others)) (chances-same states x q one other P f body h.0)
      ∙ ap (beside (chances states other x q body)) (choice-same states x q one other P f others h.1)

pub by_same : (p : PlainProcess) (rank : List ℕ → ℕ) (x : List ℕ) (q : ℕ) → AreRanked p rank → (n m : ℕ) (y : List ℕ) → rank y < n → rank y < m
    → (c : PlainConnection) → connection_named p y ≡ Some c → chances_by p n x q y ≡ chances_by p m x q y
by_same p rank x q ranked zero m y below under c is = absurd (omega (arith, below))
by_same p rank x q ranked (suc n) zero y below under c is = absurd (omega (arith, under))
by_same p rank x q ranked (suc n) (suc m) y below under c is =
    let told = λ (k : ℕ) (d : PlainConnection). last_chances (chances (states_of p) (chances_by p k x q) x q d.text) in
    let inner = chances-same (states_of p) x q (chances_by p n x q) (chances_by p m x q) (IsBefore p rank (rank y))
    (λ z h. by_same p rank x q ranked n m z (omega (arith, h.0, below)) (omega (arith, h.0, under)) h.1 h.2) c.text (ranked y c is) in
    ap (λ (o : Option PlainConnection). option_map_or (told n) o no_chances) is
    ∙ (ap last_chances inner ∙ sym (ap (λ (o : Option PlainConnection). option_map_or (told m) o no_chances) is))

-- What a walk does is among the chances of the text.
pub walk_tells : (p : PlainProcess) (rank : List ℕ → ℕ) (x : List ℕ) (q : ℕ) → AreRanked p rank → (t : Text) → IsWhole (IsBefore p rank (length p.connections)) t
    → (n : ℕ) (events : List Event) (way : Way) → Walks (Follows p n) t events way → IsPart (walk_chances (states_of p) x q events way) (text_chances p t x q)
walk_tells p rank x q ranked t whole n events way w =
    let m = length p.connections in
    let longer = walks-more (Follows p n) (Follows p (m + n)) (follows_more p n (m + n) (omega arith)) t events way w in
    let told = walks-part (states_of p) x q (Follows p (m + n)) (chances_by p (m + n) x q) (follows_part p x q (m + n)) t events way longer in
    let same = chances-same (states_of p) x q (chances_by p (m + n) x q) (chances_by p m x q) (IsBefore p rank m)
    (λ y h. by_same p rank x q ranked (m + n) m y (omega (arith, h.0)) h.0 h.1 h.2) t whole in
    subst (IsPart (walk_chances (states_of p) x q events way)) same told

-- Each chance of the text has a walk that takes it.
pub walk_shown : (p : PlainProcess) (rank : List ℕ → ℕ) (x : List ℕ) (q : ℕ) → AreRanked p rank → (t : Text) → IsWhole (IsBefore p rank (length p.connections)) t
    → AreShown (Walks (Follows p (length p.connections)) t) (states_of p) x q (text_chances p t x q)
walk_shown p rank x q ranked t whole =
    let m = length p.connections in
    shown (states_of p) x q (Follows p m) (chances_by p m x q) (IsBefore p rank m) (follows_some p rank ranked m) (follows_shown p rank x q ranked m) t whole
