-- The warnings of a text: for each kind a list, with a warning for each place where its condition
-- holds.
use Rattle.std.specs.Prelude.{ℕ, Bool, true, false, not, ◌&&◌, ◌||◌, List, [], ◌∷◌, ◌++◌}
use Rattle.std.specs.Prelude.{Option, None, Some, if◌then◌else◌, find, slice_get, codes}
use Rattle.std.specs.List.{list_any, flat_map}
use Rattle.std.specs.List.Sorted.{IsPermutation, IsNonDecreasingBy}
use Rattle.std.specs.Option.{option_map_or, option_to_list}
use Rattle.sdl_ast.specs.declared.expression.Identifier.{Identifier}
use Rattle.sdl_ast.specs.declared.tree.Party.{Party}
use Rattle.sdl_ast.specs.declared.tree.Party.TheVariants.{Environment, Process}
use Rattle.sdl_ast.specs.declared.tree.Destination.{Destination}
use Rattle.sdl_ast.specs.declared.tree.Destination.TheVariants as address
use Rattle.sdl_ast.specs.declared.tree.Constant.{Constant}
use Rattle.sdl_ast.specs.declared.tree.Range.{Range}
use Rattle.sdl_ast.specs.declared.tree.Range.TheVariants.{Value, Compared, Between}
use Rattle.sdl_ast.specs.declared.tree.Join.{Join}
use Rattle.sdl_ast.specs.Plain.{Tree, number, truth, variable, unary, binary}
use Rattle.sdl_ast.specs.Plain.{PlainSending, PlainAction, task, output, set_timer, reset_timer}
use Rattle.sdl_ast.specs.Plain.{Choice, nothing_else, otherwise, answer, PlainConnection}
use Rattle.sdl_ast.specs.Plain.{PlainStimulus, PlainInput, PlainState, PlainProcess, PlainPath}
use Rattle.sdl_ast.specs.Plain.{PlainSignal, PlainClause, PlainSynonym, PlainDeclaration}
use Rattle.sdl_ast.specs.Plain.{PlainEntity, PlainBlock}
use Rattle.sdl_tables.specs.Names.{same_name, is_in, number_of, signals_of, processes_of}
use Rattle.sdl_tables.specs.Names.{Variable, variables_of, variable_names, timers_of, states_of}
use Rattle.sdl_tables.specs.Names.{input_parts, Input}
use Rattle.sdl_tables.specs.Names.{inputs_of, stimulus_of, clause_saves, part_triggers}
use Rattle.sdl_tables.specs.Names.{timers_in}
use Rattle.sdl_sound.specs.Names.{tree_names, place_names}
use Rattle.sdl_sound.specs.Receivers.{party_of, paths_of, carries}
use Rattle.sdl_sound.specs.Statements.{Statement, acts, asks, covers, finishes, joins_of}
use Rattle.sdl_sound.specs.Joins.{comes}
use Rattle.sdl_rules.specs.Expansion.{synonyms_in, synonyms_of, own_synonyms_in, own_synonyms_of}
use Rattle.sdl_rules.specs.Expansion.{hiding_names}
use Rattle.sdl_warnings.specs.Stated.{process_statements}
use Rattle.sdl_warnings.specs.Ways.{state_numbers, is_entered, is_way}
use Rattle.sdl_warnings.specs.Values.{is_spent}
use Rattle.sdl_warnings.specs.declared.warning.Warning.{Warning}
use Rattle.sdl_warnings.specs.declared.warning.Kind.{Kind}
use Rattle.sdl_warnings.specs.declared.warning.Kind.TheVariants.{UnreachedState, UnsentInput}
use Rattle.sdl_warnings.specs.declared.warning.Kind.TheVariants.{UntakenTimer, UnsetTimer}
use Rattle.sdl_warnings.specs.declared.warning.Kind.TheVariants.{UnusedVariable, AssignedVariable}
use Rattle.sdl_warnings.specs.declared.warning.Kind.TheVariants.{UnroutedSignal, UntakenSignal}
use Rattle.sdl_warnings.specs.declared.warning.Kind.TheVariants.{VainSave, SpentAnswer}
use Rattle.sdl_warnings.specs.declared.warning.Kind.TheVariants.{FixedDecision, UnusedSynonym}
use Rattle.sdl_warnings.specs.declared.warning.Kind.TheVariants.{UnreachedConnection}

-- a warning at a place
abbrev pub warned : ℕ → Kind → List Warning
warned at kind = record { at = at; kind = kind } ∷ []

-- none where this holds
abbrev pub unless : Bool → List Warning → List Warning
unless holds found = if holds then [] else found

-- ---- A1: a state to which no way leads from START

abbrev pub unreached_at : Option Identifier → List Warning
unreached_at None = []
unreached_at (Some id) = warned id.at (UnreachedState id.name)

abbrev pub unreached_state : PlainProcess → ℕ → List Warning
unreached_state p n = unless (is_entered p n) (unreached_at (slice_get (states_of p) n))

abbrev pub unreached_states : PlainProcess → List Warning
unreached_states p = flat_map (unreached_state p) (state_numbers p)

-- ---- A2: an input of a signal that nobody sends there. The environment sends what a route brings
-- from it. A process sends what a route brings from it if it has an OUTPUT of it without TO, with
-- TO SENDER or with TO the receiver.

abbrev pub addresses : List ℕ → Option Destination → Bool
addresses to None = true
addresses to (Some (address.Sender at)) = true
addresses to (Some (address.Process id)) = same_name to id.name

abbrev pub sends : List ℕ → List ℕ → Statement → Bool
sends to s (acts (task at assignments)) = false
sends to s (acts (output at sendings destination)) =
    addresses to destination && list_any (λ x. same_name s x.signal.name) sendings
sends to s (acts (set_timer at delay timer)) = false
sends to s (acts (reset_timer at timer)) = false
sends to s (asks at q c) = false
sends to s (covers q ranges) = false
sends to s (finishes e) = false

abbrev pub is_sender : PlainBlock → PlainProcess → List ℕ → PlainProcess → Bool
is_sender b p s q =
    carries b (party_of q) (party_of p) s
    && list_any (sends p.name.name s) (process_statements q)

abbrev pub is_sent : PlainBlock → PlainProcess → List ℕ → Bool
is_sent b p s =
    carries b Environment (party_of p) s || list_any (is_sender b p s) (processes_of b)

abbrev pub unsent_stimulus : PlainBlock → PlainProcess → PlainStimulus → List Warning
unsent_stimulus b p x =
    unless (is_in (timers_of p) x.name.name || is_sent b p x.name.name)
    (warned x.name.at (UnsentInput x.name.name p.name.name))

abbrev pub unsent_inputs : PlainBlock → PlainProcess → List Warning
unsent_inputs b p = flat_map (λ i. flat_map (unsent_stimulus b p) i.stimuli) (input_parts p)

-- ---- A3: a timer that is set and never an input, or an input and never set

abbrev pub sets_timer : List ℕ → Statement → Bool
sets_timer x (acts (task at assignments)) = false
sets_timer x (acts (output at sendings to)) = false
sets_timer x (acts (set_timer at delay timer)) = same_name x timer.name
sets_timer x (acts (reset_timer at timer)) = false
sets_timer x (asks at q c) = false
sets_timer x (covers q ranges) = false
sets_timer x (finishes e) = false

abbrev pub is_set : PlainProcess → List ℕ → Bool
is_set p x = list_any (sets_timer x) (process_statements p)

-- whether an INPUT names it
abbrev pub names_stimulus : List ℕ → PlainInput → Bool
names_stimulus x i = list_any (λ s. same_name x s.name.name) i.stimuli

abbrev pub is_input : PlainProcess → List ℕ → Bool
is_input p x = list_any (names_stimulus x) (input_parts p)

abbrev pub idle_timer : PlainProcess → Identifier → List Warning
idle_timer p id =
    unless (is_input p id.name || not (is_set p id.name)) (warned id.at (UntakenTimer id.name))
    ++ unless (is_set p id.name || not (is_input p id.name)) (warned id.at (UnsetTimer id.name))

abbrev pub idle_in_declaration : PlainProcess → PlainDeclaration → List Warning
idle_in_declaration p d = flat_map (idle_timer p) (timers_in d)

abbrev pub idle_timers : PlainProcess → List Warning
idle_timers p = flat_map (idle_in_declaration p) p.declarations

-- ---- A4: a variable that no expression reads

abbrev pub reads_in : List ℕ → Tree → Bool
reads_in x t = is_in (tree_names t) x

abbrev pub reads_in_sending : List ℕ → PlainSending → Bool
reads_in_sending x s = list_any (reads_in x) s.parameters

abbrev pub reads_in_action : List ℕ → PlainAction → Bool
reads_in_action x (task at assignments) = list_any (λ a. reads_in x a.value) assignments
reads_in_action x (output at sendings to) = list_any (reads_in_sending x) sendings
reads_in_action x (set_timer at delay timer) = reads_in x delay
reads_in_action x (reset_timer at timer) = false

abbrev pub reads : List ℕ → Statement → Bool
reads x (acts a) = reads_in_action x a
reads x (asks at q c) = reads_in x q
reads x (covers q ranges) = false
reads x (finishes e) = false

abbrev pub is_read : PlainProcess → List ℕ → Bool
is_read p x = list_any (reads x) (process_statements p)

-- a TASK or a place of an INPUT assigns it
abbrev pub assigns : List ℕ → Statement → Bool
assigns x (acts (task at assignments)) = list_any (λ a. same_name x a.variable.name) assignments
assigns x (acts (output at sendings to)) = false
assigns x (acts (set_timer at delay timer)) = false
assigns x (acts (reset_timer at timer)) = false
assigns x (asks at q c) = false
assigns x (covers q ranges) = false
assigns x (finishes e) = false

abbrev pub stimulus_assigns : List ℕ → PlainStimulus → Bool
stimulus_assigns x s = is_in (place_names s.places) x

abbrev pub input_assigns : List ℕ → PlainInput → Bool
input_assigns x i = list_any (stimulus_assigns x) i.stimuli

abbrev pub is_assigned : PlainProcess → List ℕ → Bool
is_assigned p x =
    list_any (assigns x) (process_statements p) || list_any (input_assigns x) (input_parts p)

abbrev pub variable_kind : Bool → List ℕ → Kind
variable_kind assigned x = if assigned then AssignedVariable x else UnusedVariable x

abbrev pub unread_variable : PlainProcess → Identifier → List Warning
unread_variable p id =
    unless (is_read p id.name) (warned id.at (variable_kind (is_assigned p id.name) id.name))

abbrev pub unread_variables : PlainProcess → List Warning
unread_variables p = flat_map (unread_variable p) (variable_names p)

-- ---- A5: a signal on no route, or on a route to a process that neither takes nor saves it

abbrev pub is_routed : PlainBlock → List ℕ → Bool
is_routed b s = list_any (λ path. is_in path.signals s) (paths_of b)

abbrev pub unrouted_signal : PlainBlock → PlainSignal → List Warning
unrouted_signal b s =
    unless (is_routed b s.name.name) (warned s.name.at (UnroutedSignal s.name.name))

abbrev pub unrouted_signals : PlainBlock → List Warning
unrouted_signals b = flat_map (unrouted_signal b) (signals_of b)

-- whether some state of a process takes or saves it
abbrev pub heeds : PlainProcess → List ℕ → Bool
heeds p s = list_any (λ part. is_in (part_triggers part) s) p.states

abbrev pub is_heeded : PlainBlock → List ℕ → List ℕ → Bool
is_heeded b to s = list_any (λ p. same_name to p.name.name && heeds p s) (processes_of b)

abbrev pub untaken_signal : PlainBlock → Identifier → Identifier → List Warning
untaken_signal b to s =
    unless (is_heeded b to.name s.name) (warned s.at (UntakenSignal s.name to.name))

abbrev pub untaken_to : PlainBlock → List Identifier → Party → List Warning
untaken_to b signals Environment = []
untaken_to b signals (Process to) = flat_map (untaken_signal b to) signals

abbrev pub untaken_in_path : PlainBlock → PlainPath → List Warning
untaken_in_path b path = untaken_to b path.signals path.to

abbrev pub untaken_signals : PlainBlock → List Warning
untaken_signals b = flat_map (untaken_in_path b) (paths_of b)

-- ---- A6: a signal or timer that is saved in a state from which no way leads to one that takes it

abbrev pub takes_in : List ℕ → List Input → Bool
takes_in x inputs = list_any (λ i. same_name x (stimulus_of i).name) inputs

abbrev pub takes : PlainProcess → List ℕ → ℕ → Bool
takes p x n = takes_in x (inputs_of p n)

abbrev pub comes_to_take : PlainProcess → List ℕ → ℕ → Bool
comes_to_take p x s = list_any (λ n. is_way p s n && takes p x n) (state_numbers p)

-- whether no way leads from a state, by its name, to one that takes it
abbrev pub saves_vainly : PlainProcess → List ℕ → Identifier → Bool
saves_vainly p x id =
    option_map_or (λ s. not (comes_to_take p x s)) (number_of (states_of p) id.name) false

-- the first such state of those that the part names
abbrev pub vain_at : Identifier → Option Identifier → List Warning
vain_at x None = []
vain_at x (Some id) = warned x.at (VainSave x.name id.name)

abbrev pub vain_save : PlainProcess → PlainState → Identifier → List Warning
vain_save p part x = vain_at x (find (saves_vainly p x.name) part.names)

abbrev pub vain_in_clause : PlainProcess → PlainState → PlainClause → List Warning
vain_in_clause p part c = flat_map (vain_save p part) (clause_saves c)

abbrev pub vain_in_part : PlainProcess → PlainState → List Warning
vain_in_part p part = flat_map (vain_in_clause p part) part.clauses

abbrev pub vain_saves : PlainProcess → List Warning
vain_saves p = flat_map (vain_in_part p) p.states

-- ---- A7: an answer whose values earlier answers match

abbrev pub spent_answers : List Range → Choice → List Warning
spent_answers earlier nothing_else = []
spent_answers earlier (otherwise body) = []
spent_answers earlier (answer at ranges body others) =
    unless (not (is_spent earlier ranges)) (warned at SpentAnswer)
    ++ spent_answers (earlier ++ ranges) others

-- ---- A8: a DECISION whose question has no variable

abbrev pub is_constant : Tree → Bool
is_constant (number at k) = true
is_constant (truth at b) = true
is_constant (variable at id) = false
is_constant (unary at operator operand) = is_constant operand
is_constant (binary at operator left right) = is_constant left && is_constant right

abbrev pub fixed_decision : ℕ → Tree → List Warning
fixed_decision at q = unless (not (is_constant q)) (warned at FixedDecision)

abbrev pub statement_warnings : Statement → List Warning
statement_warnings (acts a) = []
statement_warnings (asks at q c) = fixed_decision at q ++ spent_answers [] c
statement_warnings (covers q ranges) = []
statement_warnings (finishes e) = []

abbrev pub decision_warnings : PlainProcess → List Warning
decision_warnings p = flat_map statement_warnings (process_statements p)

-- ---- A9: a synonym that nothing uses. Values of synonyms, initial values, expressions and answers
-- use names. In a process a name is that of its own variable or synonym if it declares one, else
-- that of a synonym of the block. (Z.100, visibility.)

-- a constant is the synonym with a name
abbrev pub is_named : List ℕ → Constant → Bool
is_named x c = is_in (option_to_list c.synonym) x

abbrev pub range_names : List ℕ → Range → Bool
range_names x (Value c) = is_named x c
range_names x (Compared at r c) = is_named x c
range_names x (Between low high) = is_named x low || is_named x high

-- a value of an answer is it
abbrev pub answers_name : List ℕ → Statement → Bool
answers_name x (acts a) = false
answers_name x (asks at q c) = false
answers_name x (covers q ranges) = list_any (range_names x) ranges
answers_name x (finishes e) = false

-- it is the initial value of a variable
abbrev pub is_initial : List ℕ → Variable → Bool
is_initial x v = option_map_or (is_named x) v.initial false

-- the value of a synonym names it
abbrev pub value_names : List ℕ → PlainSynonym → Bool
value_names x d = reads_in x d.value

-- a process has a use of a name
abbrev pub has_use : PlainProcess → List ℕ → Bool
has_use p x =
    (list_any (value_names x) (own_synonyms_of p) || list_any (is_initial x) (variables_of p))
    || (is_read p x || list_any (answers_name x) (process_statements p))

-- a process uses the synonym of its block with a name
abbrev pub uses_outer : List ℕ → PlainProcess → Bool
uses_outer x p = not (is_in (hiding_names p) x) && has_use p x

abbrev pub is_used : PlainBlock → List ℕ → Bool
is_used b x =
    list_any (value_names x) (synonyms_of b) || list_any (uses_outer x) (processes_of b)

-- N1 and N2 of a block are limits of the terminal, without a use in the text (Q.703, 6.4)
abbrev pub is_limit : List ℕ → Bool
is_limit x = same_name x (codes "N1") || same_name x (codes "N2")

abbrev pub unused_synonym : PlainBlock → PlainSynonym → List Warning
unused_synonym b d =
    unless (is_limit d.name.name || is_used b d.name.name)
    (warned d.name.at (UnusedSynonym d.name.name))

abbrev pub unused_in_entity : PlainBlock → PlainEntity → List Warning
unused_in_entity b e = flat_map (unused_synonym b) (synonyms_in e)

abbrev pub unused_own : PlainProcess → PlainSynonym → List Warning
unused_own p d = unless (has_use p d.name.name) (warned d.name.at (UnusedSynonym d.name.name))

abbrev pub unused_in_declaration : PlainProcess → PlainDeclaration → List Warning
unused_in_declaration p d = flat_map (unused_own p) (own_synonyms_in d)

abbrev pub unused_in_process : PlainProcess → List Warning
unused_in_process p = flat_map (unused_in_declaration p) p.declarations

-- the synonyms of a block as it is written
abbrev pub unused_synonyms : PlainBlock → List Warning
unused_synonyms b =
    flat_map (unused_in_entity b) b.entities ++ flat_map unused_in_process (processes_of b)

-- ---- A10: a connection to which no JOIN leads from START or an INPUT, through others too

abbrev pub outer_joins : PlainProcess → List Join
outer_joins p = joins_of p.start.text ++ flat_map (λ i. joins_of i.text) (input_parts p)

abbrev pub is_joined : PlainProcess → PlainConnection → Bool
is_joined p c = list_any (λ j. comes p j.connector.name c.name.name) (outer_joins p)

abbrev pub unreached_connection : PlainProcess → PlainConnection → List Warning
unreached_connection p c =
    unless (is_joined p c) (warned c.at (UnreachedConnection c.name.name))

abbrev pub unreached_connections : PlainProcess → List Warning
unreached_connections p = flat_map (unreached_connection p) p.connections

-- ---- all of them

abbrev pub process_warnings : PlainBlock → PlainProcess → List Warning
process_warnings b p =
    unreached_states p ++ (vain_saves p ++ (unsent_inputs b p ++ (idle_timers p
    ++ (unread_variables p ++ (decision_warnings p ++ unreached_connections p)))))

abbrev pub block_warnings : PlainBlock → List Warning
block_warnings b =
    unrouted_signals b
    ++ (untaken_signals b ++ flat_map (process_warnings b) (processes_of b))

-- the warnings of a text that reads as a block and means another one, with values in place of its
-- synonyms
abbrev pub text_warnings : PlainBlock → PlainBlock → List Warning
text_warnings written meant = block_warnings meant ++ unused_synonyms written

-- these are the warnings of such a text, each once, in the order of the text
pub record AreWarnings (written meant : PlainBlock) (found : List Warning) : Type 0 where
  pub all : IsPermutation (text_warnings written meant) found
  pub ordered : IsNonDecreasingBy (λ (w : Warning). w.at) found
