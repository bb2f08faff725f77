-- For productions above transitions, reading with marks is reading the whole tree and then marking it.
use Rattle.std.proofs.Common.{◌≡◌, ◌∙◌, ℕ, List, [], ◌∷◌, Option, Some, None, map, refl, sym, ap}
use Rattle.std.specs.List.{filter_map}
use Rattle.std.specs.Option.{option_to_list}
use Rattle.sdl_lex.specs.declared.lexemes.Token.{Token}
use Rattle.sdl_lex.specs.declared.lexemes.Word.TheVariants as words
use Rattle.sdl_lex.specs.declared.lexemes.Symbol.TheVariants.{Colon}
use Rattle.sdl_ast.specs.declared.expression.Identifier.{Identifier}
use Rattle.sdl_productions.specs.Tokens.{a_symbol, a_word, a_name, an_entity, a_declaration, a_clause, a_section}
use Rattle.sdl_ast.specs.Plain.{Text, PlainStimulus, PlainClause, input, save, PlainState, PlainConnection, PlainSection, in_state, in_connection, state_in, connection_in, PlainProcessHead, process_from, PlainStart, PlainSynonym, PlainDeclaration, variables, timers, own_synonyms, PlainEntity, signals, route, connect, synonyms, process, PlainBlock}
use Rattle.sdl_ast.specs.Heights.{or_first, first_of, lesser, high_in_text, high_in_clause, high_in_state, high_in_connection, high_in_synonym, high_in_declaration, high_in_entity, first_too_high}
use Rattle.sdl_productions.specs.Productions.{stimulus_at, text_at, input_at, save_at, clause_at, closing_at, end_state_at, state_at, end_connection_at, connection_at, state_section_at, connection_section_at, section_at, start_at, process_head_at, process_at, entity_at, block_at}
use Rattle.sdl_productions.specs.DeclarationProductions.{names_at, terminator_at, signal_at, signals_at, path_at, route_at, connect_at, group_at, variables_at, timers_at, synonyms_at, block_synonyms_at, own_synonyms_at, declaration_at}
use Rattle.sdl_productions.specs.Machine.{whole_trees, low_trees, expression_at}
use Rattle.sdl_productions.specs.Readings.{read, fails, Reading, then_read, At, ◌>>=◌, optional, many, give, token, separated_from, separated}
use Rattle.sdl_productions.specs.Bodies.{whole_texts, marked_texts}
use Rattle.sdl_productions.specs.Marks.{kept, by_place, marked, map_marked, gathered, process_with, process_marked}
use Rattle.sdl_productions.specs.MarkedParts.{kept_at, marked_input, marked_clause, marked_state, marked_connection, MarkedSection, a_state, a_connection, marked_state_in, marked_connection_in, marked_section, marked_start, marked_own_synonyms, marked_declaration, marked_process, marked_synonyms, marked_entity, marked_block}
use Rattle.sdl_productions.proofs.Lowering.{mapped, Lowers, give_lowers, then_lowers, next_lowers, choice_lowers, many_lowers}
use Rattle.sdl_productions.proofs.MarkLemmas.{one_marked, list_gathered}
use Rattle.sdl_tree.proofs.LoweredActions.{lowered_synonym, synonyms_lowers}
use Rattle.sdl_tree.proofs.LowHeights.{synonyms_stay}
use Rattle.sdl_tree.proofs.TextMarks.{marked_text, text_lowers}

-- A part built from one part has the mark of that part.
give_one : {A B : Type 0} (f : B → Option ℕ) (p : Option ℕ) (build : A → B) (x : A) → f (build x) ≡ p → Lowers (marked f) (give (build x)) (give (map_marked build (by_place p x)))
unfolding Lowers mapped
give_one f p build x e ts = ap (λ m. read m ts) (sym (ap (λ q. by_place q (build x)) e ∙ one_marked build p x))

-- A part built from a list of parts has the first mark of the list.
give_list : {A B : Type 0} (f : B → Option ℕ) (each : A → Option ℕ) (build : List A → B) (xs : List A) → f (build xs) ≡ first_of each xs
    → Lowers (marked f) (give (build xs)) (give (map_marked build (gathered (map (marked each) xs))))
unfolding Lowers mapped
give_list f each build xs e ts =
    ap (λ m. read (map_marked build m) ts) (list_gathered each xs)
    ∙ ap (λ m. read m ts) (sym (ap (λ q. by_place q (build xs)) e ∙ one_marked build (first_of each xs) xs))

-- A part in which nothing can be too high is never marked.

NoneOf : {A : Type 0} → (A → Option ℕ) → Reading A → Type 0
NoneOf f (read x us) = f x ≡ None
NoneOf f (fails us) = Unit {0}

NoneRead : {A : Type 0} → (A → Option ℕ) → At A → Type 0
NoneRead f p = (ts : List Token) → NoneOf f (p ts)

give_none : {A : Type 0} (f : A → Option ℕ) (x : A) → f x ≡ None → NoneRead f (give x)
unfolding NoneRead NoneOf
give_none f x e ts = e

then_none : {A B : Type 0} (f : B → Option ℕ) (p : At A) (q : A → At B) → ((x : A) → NoneRead f (q x)) → NoneRead f (p >>= q)
unfolding NoneRead NoneOf
then_none {A} {B} f p q h ts = by_result (p ts)
  where
    by_result : (r : Reading A) → NoneOf f (then_read r q)
    by_result (read x us) = h x us
    by_result (fails us) = tt

never_lowers : {A : Type 0} (f : A → Option ℕ) (p : At A) → NoneRead f p → Lowers (marked f) p (kept_at p)
unfolding Lowers mapped NoneRead NoneOf
never_lowers {A} f p none ts = by_result (p ts) (none ts)
  where
    by_result : (r : Reading A) → NoneOf f r → then_read r (λ x. give (kept x)) ≡ mapped (marked f) r
    by_result (fails us) e = refl
    by_result (read x us) e = ap (λ q. read (by_place q x) us) (sym e)

save_none : NoneRead high_in_clause save_at
unfolding save_at
save_none =
    then_none high_in_clause (token (a_word words.Save)) _ λ _. then_none high_in_clause names_at _ λ names.
    then_none high_in_clause terminator_at _ λ _. give_none high_in_clause (save names) refl

signals_none : NoneRead high_in_entity signals_at
unfolding signals_at
signals_none =
    then_none high_in_entity (token (a_word words.Signal)) _ λ _. then_none high_in_entity (separated signal_at) _ λ declared.
    then_none high_in_entity terminator_at _ λ _. give_none high_in_entity (signals declared) refl

route_none : NoneRead high_in_entity route_at
unfolding route_at
route_none =
    then_none high_in_entity (token (a_word words.SignalRoute)) _ λ _. then_none high_in_entity (token a_name) _ λ name.
    then_none high_in_entity path_at _ λ first. then_none high_in_entity (optional (a_word words.From) path_at) _ λ second.
    give_none high_in_entity (route (record { name = name; paths = first ∷ option_to_list second })) refl

connect_none : NoneRead high_in_entity connect_at
unfolding connect_at
connect_none =
    then_none high_in_entity (token (a_word words.Connect)) _ λ _. then_none high_in_entity names_at _ λ channels.
    then_none high_in_entity (token (a_word words.And)) _ λ _. then_none high_in_entity names_at _ λ routes.
    then_none high_in_entity terminator_at _ λ _. give_none high_in_entity (connect channels routes) refl

variables_none : NoneRead high_in_declaration variables_at
unfolding variables_at
variables_none =
    then_none high_in_declaration (token (a_word words.Dcl)) _ λ _. then_none high_in_declaration (separated group_at) _ λ groups.
    then_none high_in_declaration terminator_at _ λ _. give_none high_in_declaration (variables groups) refl

timers_none : NoneRead high_in_declaration timers_at
unfolding timers_at
timers_none =
    then_none high_in_declaration (token (a_word words.Timer)) _ λ _. then_none high_in_declaration names_at _ λ names.
    then_none high_in_declaration terminator_at _ λ _. give_none high_in_declaration (timers names) refl

-- synonyms

stays_marked : {A : Type 0} (p q : Option ℕ) (x y : A) → q ≡ p → (p ≡ None → y ≡ x) → by_place q y ≡ by_place p x
stays_marked None q x y e h = ap (λ r. by_place r y) e ∙ ap (λ z. kept z) (h refl)
stays_marked (Some at) q x y e h = ap (λ r. by_place r y) e

give_synonyms : (list : List PlainSynonym) → Lowers (marked high_in_entity) (give (synonyms list)) (give (marked high_in_entity (synonyms (map lowered_synonym list))))
unfolding Lowers mapped
give_synonyms list ts =
    let s = synonyms_stay list in
    ap (λ m. read m ts)
    (stays_marked (first_of high_in_synonym list) (first_of high_in_synonym (map lowered_synonym list)) (synonyms list) (synonyms (map lowered_synonym list)) s.place
    (λ e. ap (λ l. synonyms l) (s.same e)))

block_synonyms_lowers : Lowers (marked high_in_entity) block_synonyms_at marked_synonyms
unfolding block_synonyms_at marked_synonyms
block_synonyms_lowers =
    then_lowers (map lowered_synonym) (marked high_in_entity) (synonyms_at (expression_at whole_trees)) _ (synonyms_at (expression_at low_trees)) _ synonyms_lowers λ list.
    give_synonyms list

give_own_synonyms : (list : List PlainSynonym) → Lowers (marked high_in_declaration) (give (own_synonyms list)) (give (marked high_in_declaration (own_synonyms (map lowered_synonym list))))
unfolding Lowers mapped
give_own_synonyms list ts =
    let s = synonyms_stay list in
    ap (λ m. read m ts)
    (stays_marked (first_of high_in_synonym list) (first_of high_in_synonym (map lowered_synonym list)) (own_synonyms list) (own_synonyms (map lowered_synonym list)) s.place
    (λ e. ap (λ l. own_synonyms l) (s.same e)))

own_synonyms_lowers : Lowers (marked high_in_declaration) own_synonyms_at marked_own_synonyms
unfolding own_synonyms_at marked_own_synonyms
own_synonyms_lowers =
    then_lowers (map lowered_synonym) (marked high_in_declaration) (synonyms_at (expression_at whole_trees)) _ (synonyms_at (expression_at low_trees)) _ synonyms_lowers λ list.
    give_own_synonyms list

declaration_lowers : Lowers (marked high_in_declaration) declaration_at marked_declaration
unfolding declaration_at marked_declaration
declaration_lowers =
    choice_lowers (marked high_in_declaration) (a_word words.Dcl) variables_at _ (kept_at variables_at) _ (never_lowers high_in_declaration variables_at variables_none)
    (choice_lowers (marked high_in_declaration) (a_word words.Synonym) own_synonyms_at timers_at marked_own_synonyms (kept_at timers_at) own_synonyms_lowers (never_lowers high_in_declaration timers_at timers_none))

-- STATE parts.

input_with : ℕ → List PlainStimulus → Text → PlainClause
input_with at stimuli t = input (record { at = at; stimuli = stimuli; text = t })

input_lowers : Lowers (marked high_in_clause) input_at marked_input
unfolding input_at marked_input input_with
input_lowers =
    next_lowers (marked high_in_clause) (token (a_word words.Input)) _ _ λ at. next_lowers (marked high_in_clause) (separated stimulus_at) _ _ λ stimuli.
    next_lowers (marked high_in_clause) terminator_at _ _ λ _. then_lowers marked_text (marked high_in_clause) (text_at whole_texts) _ (text_at marked_texts) _ text_lowers λ text.
    give_one high_in_clause (high_in_text text) (input_with at stimuli) text refl

clause_lowers : Lowers (marked high_in_clause) clause_at marked_clause
unfolding clause_at marked_clause
clause_lowers =
    choice_lowers (marked high_in_clause) (a_word words.Input) input_at save_at marked_input (kept_at save_at) input_lowers (never_lowers high_in_clause save_at save_none)

state_with : List Identifier → List PlainClause → PlainState
state_with names cs = record { names = names; clauses = cs }

state_lowers : Lowers (marked high_in_state) state_at marked_state
unfolding state_at marked_state state_with
state_lowers =
    next_lowers (marked high_in_state) (token (a_word words.State)) _ _ λ _. next_lowers (marked high_in_state) (token a_name) _ _ λ name.
    next_lowers (marked high_in_state) (separated_from name (token a_name)) _ _ λ names. next_lowers (marked high_in_state) terminator_at _ _ λ _.
    then_lowers (map (marked high_in_clause)) (marked high_in_state) (many a_clause clause_at) _ (many a_clause marked_clause) _ (many_lowers (marked high_in_clause) a_clause clause_at marked_clause clause_lowers) λ clauses.
    next_lowers (marked high_in_state) (optional (a_word words.EndState) (end_state_at name.name)) _ _ λ _.
    give_list high_in_state high_in_clause (state_with names) clauses refl

-- CONNECTIONs.

connection_with : ℕ → Identifier → Text → PlainConnection
connection_with at name t = record { at = at; name = name; text = t }

connection_lowers : Lowers (marked high_in_connection) connection_at marked_connection
unfolding connection_at marked_connection connection_with
connection_lowers =
    next_lowers (marked high_in_connection) (token (a_word words.Connection)) _ _ λ at. next_lowers (marked high_in_connection) (token a_name) _ _ λ name.
    next_lowers (marked high_in_connection) (token (a_symbol Colon)) _ _ λ _. then_lowers marked_text (marked high_in_connection) (text_at whole_texts) _ (text_at marked_texts) _ text_lowers λ text.
    next_lowers (marked high_in_connection) (optional (a_word words.EndConnection) (end_connection_at name.name)) _ _ λ _.
    give_one high_in_connection (high_in_text text) (connection_with at name) text refl

-- The body of a process.

section_mark : PlainSection → MarkedSection
section_mark (in_state s) = a_state (marked high_in_state s)
section_mark (in_connection c) = a_connection (marked high_in_connection c)

state_section_lowers : Lowers section_mark state_section_at (marked_state >>= λ s. give (a_state s))
unfolding state_section_at section_mark
state_section_lowers =
    then_lowers (marked high_in_state) section_mark state_at _ marked_state _ state_lowers λ state.
    give_lowers section_mark (in_state state)

connection_section_lowers : Lowers section_mark connection_section_at (marked_connection >>= λ c. give (a_connection c))
unfolding connection_section_at section_mark
connection_section_lowers =
    then_lowers (marked high_in_connection) section_mark connection_at _ marked_connection _ connection_lowers λ connection.
    give_lowers section_mark (in_connection connection)

section_lowers : Lowers section_mark section_at marked_section
unfolding section_at marked_section
section_lowers = choice_lowers section_mark (a_word words.State) state_section_at connection_section_at _ _ state_section_lowers connection_section_lowers

states_marked : (sections : List PlainSection) → filter_map marked_state_in (map section_mark sections) ≡ map (marked high_in_state) (filter_map state_in sections)
unfolding section_mark
states_marked [] = refl
states_marked (in_state s ∷ sections) = ap (λ ss. marked high_in_state s ∷ ss) (states_marked sections)
states_marked (in_connection c ∷ sections) = states_marked sections

connections_marked : (sections : List PlainSection) → filter_map marked_connection_in (map section_mark sections) ≡ map (marked high_in_connection) (filter_map connection_in sections)
unfolding section_mark
connections_marked [] = refl
connections_marked (in_state s ∷ sections) = connections_marked sections
connections_marked (in_connection c ∷ sections) = ap (λ cs. marked high_in_connection c ∷ cs) (connections_marked sections)

start_with : ℕ → Text → PlainStart
start_with at t = record { at = at; text = t }

high_in_start : PlainStart → Option ℕ
high_in_start s = high_in_text s.text

start_lowers : Lowers (marked high_in_start) start_at marked_start
unfolding start_at marked_start start_with high_in_start
start_lowers =
    next_lowers (marked high_in_start) (token (a_word words.Start)) _ _ λ at. next_lowers (marked high_in_start) terminator_at _ _ λ _.
    then_lowers marked_text (marked high_in_start) (text_at whole_texts) _ (text_at marked_texts) _ text_lowers λ text.
    give_one high_in_start (high_in_text text) (start_with at) text refl

process_by : (head : PlainProcessHead) (declarations : List PlainDeclaration) (start : PlainStart) (states : List PlainState) (connections : List PlainConnection) (o p q r : Option ℕ)
    → map_marked (λ x. process x) (process_marked head (by_place o declarations) (by_place p start) (by_place q states) (by_place r connections))
    ≡ by_place (or_first o (or_first p (lesser q r))) (process (process_with head declarations start states connections))
process_by head declarations start states connections (Some at) p q r = refl
process_by head declarations start states connections None (Some at) q r = refl
process_by head declarations start states connections None None None None = refl
process_by head declarations start states connections None None None (Some at) = refl
process_by head declarations start states connections None None (Some at) None = refl
process_by head declarations start states connections None None (Some at) (Some other) = refl

process_is : (head : PlainProcessHead) (declarations : List PlainDeclaration) (start : PlainStart) (sections : List PlainSection)
    → map_marked (λ x. process x) (process_marked head (gathered (map (marked high_in_declaration) declarations)) (marked high_in_start start)
    (gathered (filter_map marked_state_in (map section_mark sections))) (gathered (filter_map marked_connection_in (map section_mark sections))))
    ≡ marked high_in_entity (process (process_from head declarations start sections))
unfolding high_in_start
process_is head declarations start sections =
    let states : List PlainState = filter_map state_in sections in
    let connections : List PlainConnection = filter_map connection_in sections in
    ap (λ ds. map_marked (λ x. process x) (process_marked head ds (marked high_in_start start)
    (gathered (filter_map marked_state_in (map section_mark sections))) (gathered (filter_map marked_connection_in (map section_mark sections)))))
    (list_gathered high_in_declaration declarations)
    ∙ (ap (λ ss. map_marked (λ x. process x) (process_marked head (marked (first_of high_in_declaration) declarations) (marked high_in_start start) ss (gathered (filter_map marked_connection_in (map section_mark sections)))))
    (ap gathered (states_marked sections) ∙ list_gathered high_in_state states)
    ∙ (ap (λ cs. map_marked (λ x. process x) (process_marked head (marked (first_of high_in_declaration) declarations) (marked high_in_start start) (marked (first_of high_in_state) states) cs))
    (ap gathered (connections_marked sections) ∙ list_gathered high_in_connection connections)
    ∙ process_by head declarations start states connections (first_of high_in_declaration declarations) (high_in_text start.text) (first_of high_in_state states) (first_of high_in_connection connections)))

give_process_lowers : (head : PlainProcessHead) (declarations : List PlainDeclaration) (start : PlainStart) (sections : List PlainSection)
    → Lowers (marked high_in_entity) (give (process (process_from head declarations start sections)))
    (give (map_marked (λ x. process x) (process_marked head (gathered (map (marked high_in_declaration) declarations)) (marked high_in_start start)
    (gathered (filter_map marked_state_in (map section_mark sections))) (gathered (filter_map marked_connection_in (map section_mark sections))))))
unfolding Lowers mapped
give_process_lowers head declarations start sections ts = ap (λ m. read m ts) (process_is head declarations start sections)

process_lowers : Lowers (marked high_in_entity) process_at marked_process
unfolding process_at marked_process
process_lowers =
    next_lowers (marked high_in_entity) process_head_at _ _ λ head.
    then_lowers (map (marked high_in_declaration)) (marked high_in_entity) (many a_declaration declaration_at) _ (many a_declaration marked_declaration) _ (many_lowers (marked high_in_declaration) a_declaration declaration_at marked_declaration declaration_lowers) λ declarations.
    then_lowers (marked high_in_start) (marked high_in_entity) start_at _ marked_start _ start_lowers λ start.
    then_lowers (map section_mark) (marked high_in_entity) (many a_section section_at) _ (many a_section marked_section) _ (many_lowers section_mark a_section section_at marked_section section_lowers) λ sections.
    next_lowers (marked high_in_entity) (token (a_word words.EndProcess)) _ _ λ _. next_lowers (marked high_in_entity) (closing_at head.name.name) _ _ λ _.
    give_process_lowers head declarations start sections

entity_lowers : Lowers (marked high_in_entity) entity_at marked_entity
unfolding entity_at marked_entity
entity_lowers =
    choice_lowers (marked high_in_entity) (a_word words.Signal) signals_at _ (kept_at signals_at) _ (never_lowers high_in_entity signals_at signals_none)
    (choice_lowers (marked high_in_entity) (a_word words.SignalRoute) route_at _ (kept_at route_at) _ (never_lowers high_in_entity route_at route_none)
    (choice_lowers (marked high_in_entity) (a_word words.Connect) connect_at _ (kept_at connect_at) _ (never_lowers high_in_entity connect_at connect_none)
    (choice_lowers (marked high_in_entity) (a_word words.Synonym) block_synonyms_at process_at marked_synonyms marked_process block_synonyms_lowers process_lowers)))

block_with : Identifier → List PlainEntity → PlainBlock
block_with name es = record { name = name; entities = es }

pub block_lowers : Lowers (marked first_too_high) block_at marked_block
unfolding block_at marked_block block_with
block_lowers =
    next_lowers (marked first_too_high) (token (a_word words.Block)) _ _ λ _. next_lowers (marked first_too_high) (token a_name) _ _ λ name.
    next_lowers (marked first_too_high) terminator_at _ _ λ _.
    then_lowers (map (marked high_in_entity)) (marked first_too_high) (many an_entity entity_at) _ (many an_entity marked_entity) _ (many_lowers (marked high_in_entity) an_entity entity_at marked_entity entity_lowers) λ entities.
    next_lowers (marked first_too_high) (token (a_word words.EndBlock)) _ _ λ _. next_lowers (marked first_too_high) (closing_at name.name) _ _ λ _.
    give_list first_too_high high_in_entity (block_with name) entities refl
