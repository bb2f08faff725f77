-- Texts of a process that break no rule, for one origin and for several.
use Rattle.std.proofs.Common.{◌≡◌, ℕ, ◌+◌, ◌≤◌, true, false, cond, ◌&&◌, List, [], ◌∷◌, ◌++◌, length, Option, Some, None, refl, ap, ◌∙◌, arith, nat_lt}
use Rattle.std.specs.Prelude.{nat_eq}
use Rattle.std.specs.List.{flat_map, list_any}
use Rattle.std.proofs.lemmas.Bool.Decides.{nat_tests}
use Rattle.sdl_ast.specs.declared.tree.Destination.{Destination}
use Rattle.sdl_ast.specs.declared.tree.Destination.TheVariants as address
use Rattle.sdl_ast.specs.Plain.{PlainSending, PlainAction, task, output, set_timer, reset_timer, Text, PlainConnection, PlainProcess, PlainBlock}
use Rattle.sdl_tables.specs.Names.{Input, variables_of, variable_names, timers_of, connector_names, states_of, inputs_by_state, saves_by_state}
use Rattle.sdl_tables.specs.Scopes.{repeats}
use Rattle.sdl_sound.specs.Statements.{Statement, acts, asks, covers, finishes, statements_of}
use Rattle.sdl_sound.specs.Actions.{Origin, begins, takes, connection_origins}
use Rattle.sdl_sound.specs.Joins.{reaches}
use Rattle.sdl_sound.specs.Longest.{Piece, text_budget, text_size, piece_size, piece_depth, piece_effects, pieces_of}
use Rattle.sdl_sound.specs.Names.{unknown, statement_unknown, place_names}
use Rattle.sdl_sound.specs.Ends.{strays}
use Rattle.sdl_sound.specs.Sorts.{wrong_statement, wrong_stimulus, wrong_initial}
use Rattle.sdl_sound.specs.Divisors.{statement_divisors}
use Rattle.sdl_sound.specs.Decisions.{statement_unanswered}
use Rattle.sdl_sound.specs.Receivers.{answers_origin, answers_all, arrives, lost_sending, lost_action, lost_statement, doubtful_statement}
use Rattle.sdl_meaning.specs.Outcomes.{Scope}
use Rattle.sdl_compile.specs.Made.{IsSmall}
use Rattle.sdl_compile.specs.Drafts.{IsTrigger}
use Rattle.sdl_compile.proofs.Knowing.{FineStatement}
use Rattle.sdl_meaning.proofs.Sorting.{passed}
use Rattle.sdl_sound.proofs.Items.{Each, each_with, each_false, each_nil}
use Rattle.std.proofs.lemmas.Bool.{ltb-false as at_most}
use Rattle.plain_laws.proofs.Lists.{append-nil_left as nil_front, append-nil_right as nil_back}

pub unequal_number : (m n : ℕ) → nat_eq m n ≡ false → m ≡ n → ⊥
unequal_number m n e f = grind (arith, nat_tests)

both_nil : (a b : List ℕ) → a ≡ [] → b ≡ [] → a ++ b ≡ []
both_nil a b e f = ap (λ l. l ++ b) e ∙ f

-- ---- the limits

small_piece : (c : Scope) (q : Piece) → text_budget c.process q.text ≤ text_size c.process q.text → nat_lt 512 (piece_size c.process q) ≡ false → nat_lt 16 (piece_depth c.process q) ≡ false → nat_lt 32 (piece_effects c.process q) ≡ false → IsSmall c q
small_piece c q s e f g =
    let h = at_most 512 (piece_size c.process q) e in
    record { size = h; budget = omega (arith, s, h); depth = at_most 16 (piece_depth c.process q) f; effects = at_most 32 (piece_effects c.process q) g }

pub small_pieces : (c : Scope) (qs : List Piece) → ((t : Text) → text_budget c.process t ≤ text_size c.process t) → list_any (λ q. nat_lt 512 (piece_size c.process q)) qs ≡ false → list_any (λ q. nat_lt 16 (piece_depth c.process q)) qs ≡ false
    → list_any (λ q. nat_lt 32 (piece_effects c.process q)) qs ≡ false → Each (IsSmall c) qs
small_pieces c qs law e f g = by_piece qs (each_false (λ q. nat_lt 512 (piece_size c.process q)) qs e) (each_false (λ q. nat_lt 16 (piece_depth c.process q)) qs f) (each_false (λ q. nat_lt 32 (piece_effects c.process q)) qs g)
  where
    by_piece : (qs : List Piece) → Each (λ q. nat_lt 512 (piece_size c.process q) ≡ false) qs → Each (λ q. nat_lt 16 (piece_depth c.process q) ≡ false) qs → Each (λ q. nat_lt 32 (piece_effects c.process q) ≡ false) qs → Each (IsSmall c) qs
    by_piece [] e f g = tt
    by_piece (q ∷ qs) e f g = (small_piece c q (law q.text) e.0 f.0 g.0, by_piece qs e.1 f.1 g.1)

-- ---- texts that break no rule

-- A text with these origins breaks no rule; `at` is the place to report if it runs off its end.
pub record FineText (c : Scope) (is : List Origin) (at : ℕ) (t : Text) : Type 0 where
  pub statements : Each (FineStatement c is) (statements_of t)
  pub ended : strays (states_of c.process) (at ∷ []) t ≡ []

-- Nor do the connections to which the text leads, with this origin.
abbrev pub FineReached : Scope → Origin → Text → PlainConnection → Type 0
FineReached c o t k = reaches c.process t k.name.name ≡ true → Each (FineStatement c (o ∷ [])) (statements_of k.text)

pub record FineWhole (c : Scope) (o : Origin) (at : ℕ) (t : Text) : Type 0 where
  pub text : FineText c (o ∷ []) at t
  pub reached : Each (FineReached c o t) c.process.connections

pub record FineInput (c : Scope) (i : Input) : Type 0 where
  pub whole : FineWhole c (takes i.stimulus) i.at i.text
  pub trigger : IsTrigger c i.stimulus.name
  pub places : unknown (variable_names c.process) (place_names i.stimulus.places) ≡ []
  pub placed : wrong_stimulus c.block (variables_of c.process) i.stimulus ≡ []

pub record FineProcess (c : Scope) : Type 0 where
  pub start : FineWhole c begins c.process.start.at c.process.start.text
  pub inputs : Each (Each (FineInput c)) (inputs_by_state c.process)
  pub saves : Each (Each (IsTrigger c)) (saves_by_state c.process)
  pub connections : Each (λ (k : PlainConnection). FineText c (connection_origins c.process k) k.at k.text) c.process.connections
  pub initial : flat_map wrong_initial (variables_of c.process) ≡ []
  pub some : 1 ≤ c.process.instances
  pub instances : c.process.instances ≤ 8
  pub states : length (states_of c.process) ≤ 64
  pub variables : length (variables_of c.process) ≤ 32
  pub timers : length (timers_of c.process) ≤ 8
  pub small : Each (IsSmall c) (pieces_of c.process)
  pub distinct : repeats [] (variable_names c.process) ≡ []
  pub connectors : repeats [] (connector_names c.process) ≡ []

-- The lists of places of each rule, statement by statement.
module _ (c : Scope) (is : List Origin) where
  abbrev NoneIn : (Statement → List ℕ) → List Statement → Type 0
  NoneIn f ss = flat_map f ss ≡ []

  pub fine_statements : (ss : List Statement) → NoneIn (statement_unknown c.block c.process) ss → NoneIn (wrong_statement c.block (variables_of c.process)) ss → NoneIn (lost_statement c.block c.process is) ss
      → NoneIn (doubtful_statement c.block c.process) ss → NoneIn (statement_unanswered (variables_of c.process)) ss → NoneIn statement_divisors ss → Each (FineStatement c is) ss
  fine_statements ss u w l d a v =
      by_statement ss (each_nil (statement_unknown c.block c.process) ss u) (each_nil (wrong_statement c.block (variables_of c.process)) ss w) (each_nil (lost_statement c.block c.process is) ss l)
      (each_nil (doubtful_statement c.block c.process) ss d) (each_nil (statement_unanswered (variables_of c.process)) ss a) (each_nil statement_divisors ss v)
    where
      by_statement : (ss : List Statement) → Each (λ s. statement_unknown c.block c.process s ≡ []) ss → Each (λ s. wrong_statement c.block (variables_of c.process) s ≡ []) ss → Each (λ s. lost_statement c.block c.process is s ≡ []) ss
          → Each (λ s. doubtful_statement c.block c.process s ≡ []) ss → Each (λ s. statement_unanswered (variables_of c.process) s ≡ []) ss → Each (λ s. statement_divisors s ≡ []) ss → Each (FineStatement c is) ss
      by_statement [] u w l d a v = tt
      by_statement (s ∷ ss) u w l d a v =
          (record { named = u.0; sorted = w.0; received = l.0; single = d.0; answered = a.0; divided = v.0 }, by_statement ss u.1 w.1 l.1 d.1 a.1 v.1)

  -- What holds of each statement holds of all.
  pub all_sorted : (ss : List Statement) → Each (FineStatement c is) ss → NoneIn (wrong_statement c.block (variables_of c.process)) ss
  all_sorted [] fine = refl
  all_sorted (s ∷ ss) fine = both_nil (wrong_statement c.block (variables_of c.process) s) (flat_map (wrong_statement c.block (variables_of c.process)) ss) fine.0.sorted (all_sorted ss fine.1)

-- ---- one origin of several

module _ (c : Scope) (is : List Origin) (y : Origin) (among : (s : List ℕ) → answers_all c.block c.process is s ≡ true → answers_origin c.block c.process s y ≡ true) where
  abbrev b1 : PlainBlock
  b1 = c.block

  abbrev p1 : PlainProcess
  p1 = c.process

  arrives_single : (to : Option Destination) (s : List ℕ) → arrives b1 p1 is to s ≡ true → arrives b1 p1 (y ∷ []) to s ≡ true
  arrives_single None s e = e
  arrives_single (Some (address.Process id)) s e = e
  arrives_single (Some (address.Sender at)) s e = ap (λ t. t && true) (among s e)

  sendings_single : (to : Option Destination) (list : List PlainSending) → flat_map (lost_sending b1 p1 is to) list ≡ [] → flat_map (lost_sending b1 p1 (y ∷ []) to) list ≡ []
  sendings_single to [] e = refl
  sendings_single to (x ∷ list) e =
      let f = lost_sending b1 p1 is to in
      let g = passed (arrives b1 p1 is to x.signal.name) x.signal.at (nil_front (f x) (flat_map f list) e) in
      both_nil (lost_sending b1 p1 (y ∷ []) to x) (flat_map (lost_sending b1 p1 (y ∷ []) to) list) (ap (λ t. cond t [] (x.signal.at ∷ [])) (arrives_single to x.signal.name g)) (sendings_single to list (nil_back (f x) (flat_map f list) e))

  action_single : (a : PlainAction) → lost_action b1 p1 is a ≡ [] → lost_action b1 p1 (y ∷ []) a ≡ []
  action_single (task at ts) e = refl
  action_single (output at list to) e = sendings_single to list e
  action_single (set_timer at t n) e = refl
  action_single (reset_timer at n) e = refl

  statement_single : (s : Statement) → lost_statement b1 p1 is s ≡ [] → lost_statement b1 p1 (y ∷ []) s ≡ []
  statement_single (acts a) e = action_single a e
  statement_single (asks at q choice) e = refl
  statement_single (covers q rs) e = refl
  statement_single (finishes t) e = refl

  pub statements_single : (ss : List Statement) → Each (FineStatement c is) ss → Each (FineStatement c (y ∷ [])) ss
  statements_single ss h =
      each_with (FineStatement c is) (FineStatement c (y ∷ []))
      (λ s f. record { named = f.named; sorted = f.sorted; received = statement_single s f.received; single = f.single; answered = f.answered; divided = f.divided }) ss h
