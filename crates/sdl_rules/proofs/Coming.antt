-- The connections to which the transitions lead that are started by signals of a sender.
use Rattle.std.proofs.Common.{◌≡◌, ◌<◌, ℕ, suc, Bool, true, false, not, ◌&&◌, ◌||◌, List, [], ◌∷◌, ◌++◌, Option, Some, None, if◌then◌else◌, map, fold, length, arith, refl, sym, ap, ◌∙◌, subst, true≢false}
use Rattle.std.specs.Prelude.{All, slice_get, option_to_list}
use Rattle.std.specs.List.{list_any, list_all, flat_map}
use Rattle.std.specs.Option.{option_map, option_map_or, is_some}
use Rattle.std.specs.Global.{Vec}
use Rattle.std.proofs.lemmas.Grind.{flat_map-append}
use Rattle.std.proofs.lemmas.List.Folds.{list_any-append, list_all-append, list_all-map}
use Rattle.std.proofs.lemmas.List.Elements.{All-nil, All-cons, All-append}
use Rattle.std.proofs.lemmas.Option.{slice_get-map, slice_get_within}
use Rattle.std.proofs.Math.Bool.{and-true, and-false}
use Rattle.sdl_ast.specs.declared.expression.Identifier.{Identifier}
use Rattle.sdl_ast.specs.declared.tree.Join.{Join}
use Rattle.sdl_ast.specs.declared.tree.Stimulus.{Stimulus}
use Rattle.sdl_ast.specs.Views.{stimulus_of}
use Rattle.sdl_ast.specs.Plain.{PlainStimulus, PlainInput, PlainConnection, PlainProcess, PlainBlock}
use Rattle.sdl_tables.specs.Names.{same_name, is_in, number_of, connector_names, input_parts}
use Rattle.sdl_tables.proofs.Tables.{is_some-position}
use Rattle.sdl_sound.specs.Statements.{joins_of}
use Rattle.sdl_sound.specs.Joins.{comes, reaches}
use Rattle.sdl_sound.specs.Orders.{targets_of}
use Rattle.sdl_sound.specs.Actions.{begins, takes, input_origins, start_origins, joining_origins, connection_origins}
use Rattle.sdl_sound.specs.Receivers.{answers, answers_origin, answers_all}
use Rattle.sdl_sound.proofs.Numbered.{number_names, folded_same}
use Rattle.plain_laws.proofs.Places.{there_is}
use Rattle.sdl_rules.specs.Distinct.{has_sender, distinct}
use Rattle.sdl_scopes.specs.Known.{AreSenders}
use Rattle.sdl_scopes.specs.Reaches.{is_marked, PlainSent, senders_in}
use Rattle.sdl_scopes.specs.Parties.{IsSender, gets_back}
use Rattle.sdl_rules.specs.SenderTables.{AreSendersOf, stimulus_rows, add_stimulus, add_input, ToldAll}
use Rattle.sdl_rules.specs.Reached.{joining_of, input_joining, takes_one, starts_with, row_at, may_begin, sent_joins, sent_reach, sent_by, sent_all}
use Rattle.sdl_rules.specs.declared.reaching.Joining.{Joining}
use Rattle.sdl_scopes.specs.declared.sender.Sender.{Sender}
use Rattle.sdl_scopes.specs.declared.sender.Sender.TheVariants.{Nobody}
use Rattle.sdl_rules.specs.declared.sender_table.SenderTable.{SenderTable}
use Rattle.sdl_rules.proofs.Alike.{distinct_there, distinct_are, row_covered}
use Rattle.sdl_rules.proofs.SenderRows.{tells_at}
use Rattle.sdl_rules.proofs.Spreading.{all_true, same_all, all_if, spread, all_flat, picked, any_joined, rows_there}

-- ---- rows that have a sender

bits_at : (rows : List (Vec Sender)) (u : Sender) (o : Option ℕ)
    → option_map_or (is_marked (map (λ row. has_sender row.items u) rows)) o false
    ≡ has_sender (option_map_or (λ n. option_map_or (λ (row : Vec Sender). row.items) (slice_get rows n) []) o []) u
bits_at rows u None = refl
bits_at rows u (Some n) =
    ap (λ (m : Option Bool). option_map_or (λ b. b) m false) (slice_get-map (λ (row : Vec Sender). has_sender row.items u) rows n)
    ∙ by_row (slice_get rows n)
  where
    by_row : (m : Option (Vec Sender)) → option_map_or (λ b. b) (option_map (λ (row : Vec Sender). has_sender row.items u) m) false
        ≡ has_sender (option_map_or (λ (row : Vec Sender). row.items) m []) u
    by_row None = refl
    by_row (Some row) = refl

takes_is : (t : SenderTable) (u : Sender) (xs : List PlainStimulus)
    → takes_one (map (λ row. has_sender row.items u) t.rows.items) (map (λ x. number_of t.names x.name.name) xs)
    ≡ list_any (λ x. has_sender (row_at t x.name.name) u) xs
takes_is t u [] = refl
takes_is t u (x ∷ xs) = λ i. bits_at t.rows.items u (number_of t.names x.name.name) i || takes_is t u xs i

-- The signals and timers that an INPUT takes.
pub stimuli_numbered : (names : List Identifier) (xs : List Stimulus) → stimulus_rows names xs ≡ map (λ x. number_of names x.name.name) (map stimulus_of xs)
stimuli_numbered names [] = refl
stimuli_numbered names (x ∷ xs) = ap (λ l. number_of names x.name.name ∷ l) (stimuli_numbered names xs)

-- ---- the connections that are joined

starts_are : (p : PlainProcess) (t : SenderTable) (u : Sender) (inputs : List PlainInput)
    → starts_with (map (λ row. has_sender row.items u) t.rows.items) (map (input_joining t.names p) inputs)
    ≡ targets_of p (flat_map (λ i. if may_begin t u i then joins_of i.text else []) inputs)
starts_are p t u [] = refl
starts_are p t u (i ∷ inputs) =
    (λ k. (if takes_is t u i.stimuli k then targets_of p (joins_of i.text) else []) ++ starts_are p t u inputs k)
    ∙ ap (λ l. l ++ targets_of p (flat_map (λ i. if may_begin t u i then joins_of i.text else []) inputs)) (by_test (may_begin t u i))
    ∙ sym (flat_map-append (λ (j : Join). option_to_list (number_of (connector_names p) j.connector.name)) (if may_begin t u i then joins_of i.text else [])
    (flat_map (λ i. if may_begin t u i then joins_of i.text else []) inputs))
  where
    by_test : (b : Bool) → (if b then targets_of p (joins_of i.text) else []) ≡ targets_of p (if b then joins_of i.text else [])
    by_test true = refl
    by_test false = refl

pub starts_is : (p : PlainProcess) (t : SenderTable) (u : Sender) → starts_with (map (λ row. has_sender row.items u) t.rows.items) (map (input_joining t.names p) (input_parts p))
    ≡ targets_of p (sent_joins p t u)
starts_is p t u = starts_are p t u (input_parts p)

pub starts_within : (k : ℕ) (marks : List Bool) (js : List Joining) → All (λ j. All (λ n. n < k) j.targets.items) js → All (λ n. n < k) (starts_with marks (map joining_of js))
starts_within k marks [] h = All-nil (λ n. n < k)
starts_within k marks (j ∷ js) h =
    All-append (λ n. n < k) (if takes_one marks j.rows.items then j.targets.items else []) (starts_with marks (map joining_of js)) (by_test (takes_one marks j.rows.items))
    (starts_within k marks js (λ i d less. h (suc i) d (omega (arith, less))))
  where
    by_test : (b : Bool) → All (λ n. n < k) (if b then j.targets.items else [])
    by_test true = h 0 j (omega arith)
    by_test false = All-nil (λ n. n < k)

-- ---- each signal and timer has its row

name_kept : (ids : List Identifier) (x : PlainStimulus) (y : List ℕ) → is_in ids y ≡ true → is_in (add_stimulus ids x) y ≡ true
name_kept ids x y h = by_test (is_in ids x.name.name)
  where
    by_test : (t : Bool) → is_in (if t then ids else ids ++ x.name ∷ []) y ≡ true
    by_test true = h
    by_test false = list_any-append (λ (id : Identifier). same_name y id.name) ids (x.name ∷ []) ∙ ap (λ t. t || is_in (x.name ∷ []) y) h

name_there : (ids : List Identifier) (x : PlainStimulus) → is_in (add_stimulus ids x) x.name.name ≡ true
name_there ids x = by_test (is_in ids x.name.name) refl
  where
    by_test : (t : Bool) → is_in ids x.name.name ≡ t → is_in (if t then ids else ids ++ x.name ∷ []) x.name.name ≡ true
    by_test true e = e
    by_test false e =
        list_any-append (λ (id : Identifier). same_name x.name.name id.name) ids (x.name ∷ [])
        ∙ (ap (λ t. t || (same_name x.name.name x.name.name || false)) e ∙ ap (λ t. t || false) (folded_same x.name.name x.name.name refl))

names_there : (inputs : List PlainInput) → list_all (λ i. list_all (λ x. is_in (fold add_input [] inputs) x.name.name) i.stimuli) inputs ≡ true
names_there inputs = rows_there is_in add_stimulus (λ x. x.name.name) name_kept name_there (λ i. i.stimuli) [] inputs

marked : {A : Type 0} (f : A → Bool) (xs : List A) (n : ℕ) (x : A) → slice_get xs n ≡ Some x → is_marked (map f xs) n ≡ f x
marked f xs n x e = ap (λ (o : Option Bool). option_map_or (λ b. b) o false) (slice_get-map f xs n ∙ ap (option_map f) e)

-- ---- the possible senders of what starts the transitions that lead to a connection

module _ (b : PlainBlock) (p : PlainProcess) (t : SenderTable) (told : ToldAll b p t) where
  -- Each row belongs to a name.
  row_are : (n : ℕ) (row : Vec Sender) → slice_get t.rows.items n ≡ Some row → All (IsSender b) row.items
  row_are n row e =
      let within : n < length t.names = subst (λ k. n < k) told.tells.count (slice_get_within t.rows.items n row e) in
      let id = there_is t.names n within in
      (told.tells.each n id.0 row id.1 e).numbered

  all_are : All (IsSender b) (distinct t.rows.items)
  all_are = distinct_are (IsSender b) t.rows.items row_are

  row_told : (y s : List ℕ) (o : Option ℕ) → number_of t.names y ≡ o → is_in t.names y ≡ true
      → list_all (λ u. not (has_sender (row_at t y) u) || gets_back b p s u) (distinct t.rows.items) ≡ answers b p s y
  row_told y s None e there =
      absurd (true≢false (sym there ∙ (sym (is_some-position (λ (id : Identifier). same_name y id.name) t.names) ∙ ap is_some e)))
  row_told y s (Some n) e there =
      let us = distinct t.rows.items in
      let id = number_names t.names y n e in
      let within : n < length t.rows.items = subst (λ k. n < k) (sym told.tells.count) (slice_get_within t.names n id.0 id.1) in
      let row = there_is t.rows.items n within in
      let is : row_at t y ≡ row.0.items =
      ap (λ o. option_map_or (λ n. option_map_or (λ (row : Vec Sender). row.items) (slice_get t.rows.items n) []) o []) e
      ∙ ap (λ (m : Option (Vec Sender)). option_map_or (λ (row : Vec Sender). row.items) m []) row.1 in
      let are : AreSendersOf b p y row.0.items = tells_at b p t y n row.0 e row.1 told.tells in
      ap (λ r. list_all (λ u. not (has_sender r u) || gets_back b p s u) us) is
      ∙ row_covered b p s us row.0.items all_are are.numbered (distinct_there t.rows.items n row.0 row.1)
      ∙ are.told s

  input_told : (s : List ℕ) (i : PlainInput) → list_all (λ x. is_in t.names x.name.name) i.stimuli ≡ true
      → list_all (λ u. not (may_begin t u i) || gets_back b p s u) (distinct t.rows.items) ≡ answers_all b p (input_origins i) s
  input_told s i there =
      let us = distinct t.rows.items in
      spread (λ u (x : PlainStimulus). has_sender (row_at t x.name.name) u) (gets_back b p s) us i.stimuli
      ∙ all_if (λ (x : PlainStimulus). is_in t.names x.name.name) (λ x. list_all (λ u. not (has_sender (row_at t x.name.name) u) || gets_back b p s u) us)
      (λ x. answers b p s x.name.name) i.stimuli there (λ x h. row_told x.name.name s (number_of t.names x.name.name) refl h)
      ∙ sym (list_all-map (answers_origin b p s) takes i.stimuli)

  -- An INPUT, whether or not its transition leads to the connection.
  joining_told : (s : List ℕ) (i : PlainInput) (comes_there : Bool) → list_all (λ x. is_in t.names x.name.name) i.stimuli ≡ true
      → list_all (λ u. not (may_begin t u i && comes_there) || gets_back b p s u) (distinct t.rows.items)
      ≡ list_all (answers_origin b p s) (if comes_there then input_origins i else [])
  joining_told s i true there =
      same_all (λ u. not (may_begin t u i && true) || gets_back b p s u) (λ u. not (may_begin t u i) || gets_back b p s u) (distinct t.rows.items)
      (λ u. ap (λ m. not m || gets_back b p s u) (and-true (may_begin t u i)))
      ∙ input_told s i there
  joining_told s i false there =
      all_true (λ u. not (may_begin t u i && false) || gets_back b p s u) (distinct t.rows.items)
      (λ u. ap (λ m. not m || gets_back b p s u) (and-false (may_begin t u i)))

  inputs_told : (s x : List ℕ) (inputs : List PlainInput) → list_all (λ i. list_all (λ x. is_in t.names x.name.name) i.stimuli) inputs ≡ true
      → list_all (λ u. not (list_any (λ i. may_begin t u i && reaches p i.text x) inputs) || gets_back b p s u) (distinct t.rows.items)
      ≡ answers_all b p (flat_map (joining_origins p x) inputs) s
  inputs_told s x inputs there =
      let us = distinct t.rows.items in
      spread (λ u (i : PlainInput). may_begin t u i && reaches p i.text x) (gets_back b p s) us inputs
      ∙ all_if (λ (i : PlainInput). list_all (λ x. is_in t.names x.name.name) i.stimuli)
      (λ i. list_all (λ u. not (may_begin t u i && reaches p i.text x) || gets_back b p s u) us)
      (λ i. list_all (answers_origin b p s) (joining_origins p x i)) inputs there (λ i h. joining_told s i (reaches p i.text x) h)
      ∙ sym (all_flat (joining_origins p x) (answers_origin b p s) inputs)

  module _ (n : ℕ) (c : PlainConnection) (here : slice_get p.connections n ≡ Some c) where
    mark_is : (u : Sender) → is_marked (sent_reach p t u) n ≡ list_any (λ i. may_begin t u i && reaches p i.text c.name.name) (input_parts p)
    mark_is u =
        marked (λ (d : PlainConnection). list_any (λ j. comes p j.connector.name d.name.name) (sent_joins p t u)) p.connections n c here
        ∙ any_joined (may_begin t u) (λ i. joins_of i.text) (λ (j : Join). comes p j.connector.name c.name.name) (input_parts p)

    start_told : (s : List ℕ)
        → (not (is_marked (map (λ (d : PlainConnection). reaches p p.start.text d.name.name) p.connections) n) || false) ≡ answers_all b p (start_origins p c.name.name) s
    start_told s =
        ap (λ m. not m || false) (marked (λ (d : PlainConnection). reaches p p.start.text d.name.name) p.connections n c here)
        ∙ by_test (reaches p p.start.text c.name.name)
      where
        by_test : (m : Bool) → (not m || false) ≡ answers_all b p (if m then begins ∷ [] else []) s
        by_test true = refl
        by_test false = refl

    senders_told : (s : List ℕ)
        → list_all (λ (z : PlainSent). not (is_marked z.reached n) || gets_back b p s z.sender) (map (sent_by p t) (distinct t.rows.items))
        ≡ answers_all b p (flat_map (joining_origins p c.name.name) (input_parts p)) s
    senders_told s =
        list_all-map (λ (z : PlainSent). not (is_marked z.reached n) || gets_back b p s z.sender) (sent_by p t) (distinct t.rows.items)
        ∙ same_all (λ u. not (is_marked (sent_reach p t u) n) || gets_back b p s u)
        (λ u. not (list_any (λ i. may_begin t u i && reaches p i.text c.name.name) (input_parts p)) || gets_back b p s u) (distinct t.rows.items)
        (λ u. ap (λ m. not m || gets_back b p s u) (mark_is u))
        ∙ inputs_told s c.name.name (input_parts p)
        (ap (λ ids. list_all (λ i. list_all (λ x. is_in ids x.name.name) i.stimuli) (input_parts p)) told.names ∙ names_there (input_parts p))

    told_at : (s : List ℕ) → list_all (gets_back b p s) (senders_in (sent_all p t) n) ≡ answers_all b p (connection_origins p c) s
    told_at s =
        picked (λ (z : PlainSent). is_marked z.reached n) (λ z. z.sender) (gets_back b p s) (sent_all p t)
        ∙ (λ k. start_told s k && senders_told s k)
        ∙ sym (list_all-append (answers_origin b p s) (start_origins p c.name.name) (flat_map (joining_origins p c.name.name) (input_parts p)))

    picked_are : (us : List Sender) → All (IsSender b) us → All (IsSender b) (senders_in (map (sent_by p t) us) n)
    picked_are [] are = All-nil (IsSender b)
    picked_are (u ∷ us) are =
        All-append (IsSender b) (if is_marked (sent_reach p t u) n then u ∷ [] else []) (senders_in (map (sent_by p t) us) n) (by_test (is_marked (sent_reach p t u) n))
        (picked_are us (λ k d less. are (suc k) d (omega (arith, less))))
      where
        by_test : (m : Bool) → All (IsSender b) (if m then u ∷ [] else [])
        by_test true = All-cons (IsSender b) u [] (are 0 u (omega arith)) (All-nil (IsSender b))
        by_test false = All-nil (IsSender b)

    pub sent_are : AreSenders b p (senders_in (sent_all p t) n) (connection_origins p c)
    sent_are = record {
      told = told_at;
      numbered = first_are (is_marked (map (λ (d : PlainConnection). reaches p p.start.text d.name.name) p.connections) n);
    }
      where
        first_are : (m : Bool) → All (IsSender b) ((if m then Nobody ∷ [] else []) ++ senders_in (map (sent_by p t) (distinct t.rows.items)) n)
        first_are true = All-cons (IsSender b) Nobody (senders_in (map (sent_by p t) (distinct t.rows.items)) n) tt (picked_are (distinct t.rows.items) all_are)
        first_are false = picked_are (distinct t.rows.items) all_are
