-- A text without synonyms is its own expansion.
use Rattle.std.proofs.Common.{◌≡◌, ℕ, Bool, true, false, cond, List, [], ◌∷◌, ◌++◌, Option, None, Some, map, refl, sym, ap, subst, ◌∙◌}
use Rattle.std.specs.List.{flat_map}
use Rattle.std.specs.Option.{option_to_list, option_map}
use Rattle.sdl_ast.specs.declared.tree.Constant.{Constant}
use Rattle.sdl_ast.specs.declared.tree.Range.{Range}
use Rattle.sdl_ast.specs.declared.tree.Range.TheVariants.{Value, Compared, Between}
use Rattle.sdl_ast.specs.Plain.{Tree, number, truth, variable, unary, binary, PlainAssignment, PlainSending, PlainAction, task, output, set_timer, reset_timer, Text, falls, ends, does, decides, Choice, nothing_else, otherwise, answer, PlainInput, PlainClause, input, save, PlainState, PlainStart, PlainConnection, PlainGroup, PlainSynonym, PlainDeclaration, variables, timers, own_synonyms, PlainProcess, PlainEntity, signals, route, connect, synonyms, process, PlainBlock}
use Rattle.turn_code.specs.declared.value.Value as the_value
use Rattle.plain_laws.proofs.Lists.{append-nil_left, append-nil_right}
use Rattle.sdl_tables.specs.Names.{is_in, processes_in}
use Rattle.sdl_rules.specs.Synonyms.{none_known, Known, Sight, known_as, seen, or_around, node_or, expanded_tree, constant_by, expanded_constant, and_synonyms}
use Rattle.sdl_rules.specs.Expansion.{synonyms_in, own_synonyms_in, own_synonyms_of, first_sight, block_known, outer_sight, process_sight, expanded_assignment, expanded_sending, expanded_action, expanded_range, expanded_text, expanded_choice, expanded_input, expanded_clause, expanded_state, expanded_start, expanded_connection, expanded_group, expanded_declaration, expanded_in, expanded_process, expanded_entity, expanded}
use Rattle.sdl_rules.specs.Faults.{range_constants, group_constants, text_constants, choice_constants, declaration_constants, clause_constants, state_constants, connection_constants, process_constants}
use Rattle.sdl_rules.proofs.Literals.{AreLiteral, IsPlainProcess, ArePlain, IsPlain}

literal_parts : (xs ys : List Constant) → AreLiteral (xs ++ ys) → AreLiteral xs × AreLiteral ys
literal_parts [] ys h = (tt, h)
literal_parts (x ∷ xs) ys h = let rest = literal_parts xs ys h.1 in ((h.0, rest.0), rest.1)

-- a list of which each item stays
all_same : {A : Type 0} (f : A → A) → ((x : A) → f x ≡ x) → (xs : List A) → map f xs ≡ xs
all_same f same [] = refl
all_same f same (x ∷ xs) = ap (λ y. y ∷ map f xs) (same x) ∙ ap (λ ys. x ∷ ys) (all_same f same xs)

-- a list of which each item stays that has no constant but literals
literals_same : {A : Type 0} (f : A → A) (constants : A → List Constant) → ((x : A) → AreLiteral (constants x) → f x ≡ x)
    → (xs : List A) → AreLiteral (flat_map constants xs) → map f xs ≡ xs
literals_same f constants same [] h = refl
literals_same f constants same (x ∷ xs) h =
    let parts = literal_parts (constants x) (flat_map constants xs) h in
    ap (λ y. y ∷ map f xs) (same x parts.0) ∙ ap (λ ys. x ∷ ys) (literals_same f constants same xs parts.1)

module _ (s : Sight) (none : (n : List ℕ) → seen s n ≡ None) where
  tree_same : (t : Tree) → expanded_tree s t ≡ t
  tree_same (number at k) = refl
  tree_same (truth at b) = refl
  tree_same (variable at id) = ap (node_or (variable at id) at) (none id.name)
  tree_same (unary at op t) = ap (unary at op) (tree_same t)
  tree_same (binary at op t u) = ap (λ x. binary at op x (expanded_tree s u)) (tree_same t) ∙ ap (binary at op t) (tree_same u)

  assignment_same : (a : PlainAssignment) → expanded_assignment s a ≡ a
  assignment_same a = let make : Tree → PlainAssignment = λ x. record { variable = a.variable; value = x } in ap make (tree_same a.value)

  sending_same : (x : PlainSending) → expanded_sending s x ≡ x
  sending_same x =
      let make : List Tree → PlainSending = λ ts. record { signal = x.signal; parameters = ts } in ap make (all_same (expanded_tree s) tree_same x.parameters)

  action_same : (a : PlainAction) → expanded_action s a ≡ a
  action_same (task at list) = ap (task at) (all_same (expanded_assignment s) assignment_same list)
  action_same (output at list to) = ap (λ xs. output at xs to) (all_same (expanded_sending s) sending_same list)
  action_same (set_timer at delay timer) = ap (λ t. set_timer at t timer) (tree_same delay)
  action_same (reset_timer at timer) = refl

  constant_same : (c : Constant) → c.synonym ≡ None → expanded_constant s c ≡ c
  constant_same c h = ap (constant_by s c) h

  range_same : (r : Range) → AreLiteral (range_constants r) → expanded_range s r ≡ r
  range_same (Value c) h = ap Value (constant_same c h.0)
  range_same (Compared at relation c) h = ap (Compared at relation) (constant_same c h.0)
  range_same (Between low high) h = ap (λ x. Between x (expanded_constant s high)) (constant_same low h.0) ∙ ap (Between low) (constant_same high h.1.0)

  mutual
    text_same : (t : Text) → AreLiteral (text_constants t) → expanded_text s t ≡ t
    text_same falls h = refl
    text_same (ends e) h = refl
    text_same (does a rest) h = ap (λ x. does x (expanded_text s rest)) (action_same a) ∙ ap (does a) (text_same rest h)
    text_same (decides at q choice rest) h =
        let parts = literal_parts (choice_constants choice) (text_constants rest) h in
        ap (λ x. decides at x (expanded_choice s choice) (expanded_text s rest)) (tree_same q)
        ∙ (ap (λ x. decides at q x (expanded_text s rest)) (choice_same choice parts.0) ∙ ap (decides at q choice) (text_same rest parts.1))

    choice_same : (c : Choice) → AreLiteral (choice_constants c) → expanded_choice s c ≡ c
    choice_same nothing_else h = refl
    choice_same (otherwise body) h = ap otherwise (text_same body h)
    choice_same (answer at ranges body others) h =
        let first = literal_parts (flat_map range_constants ranges) (text_constants body ++ choice_constants others) h in
        let second = literal_parts (text_constants body) (choice_constants others) first.1 in
        ap (λ x. answer at x (expanded_text s body) (expanded_choice s others)) (literals_same (expanded_range s) range_constants range_same ranges first.0)
        ∙ (ap (λ x. answer at ranges x (expanded_choice s others)) (text_same body second.0) ∙ ap (answer at ranges body) (choice_same others second.1))

  clause_same : (c : PlainClause) → AreLiteral (clause_constants c) → expanded_clause s c ≡ c
  clause_same (input i) h =
      let make : Text → PlainClause = λ t. input (record { at = i.at; stimuli = i.stimuli; text = t }) in ap make (text_same i.text h)
  clause_same (save names) h = refl

  state_same : (p : PlainState) → AreLiteral (state_constants p) → expanded_state s p ≡ p
  state_same p h =
      let make : List PlainClause → PlainState = λ xs. record { names = p.names; clauses = xs } in
      ap make (literals_same (expanded_clause s) clause_constants clause_same p.clauses h)

  connection_same : (c : PlainConnection) → AreLiteral (connection_constants c) → expanded_connection s c ≡ c
  connection_same c h =
      let make : Text → PlainConnection = λ t. record { at = c.at; name = c.name; text = t } in ap make (text_same c.text h)

  initial_same : (o : Option Constant) → AreLiteral (option_to_list o) → option_map (expanded_constant s) o ≡ o
  initial_same None h = refl
  initial_same (Some c) h = ap Some (constant_same c h.0)

  group_same : (g : PlainGroup) → AreLiteral (group_constants g) → expanded_group s g ≡ g
  group_same g h =
      let make : Option Constant → PlainGroup = λ o. record { names = g.names; sort = g.sort; initial = o } in ap make (initial_same g.initial h)

  declaration_same : (d : PlainDeclaration) → own_synonyms_in d ≡ [] → AreLiteral (declaration_constants d) → expanded_declaration s d ≡ d
  declaration_same (variables groups) empty h = ap variables (literals_same (expanded_group s) group_constants group_same groups h)
  declaration_same (timers names) empty h = refl
  declaration_same (own_synonyms list) empty h = ap own_synonyms (sym empty)

  declarations_same : (ds : List PlainDeclaration) → flat_map own_synonyms_in ds ≡ [] → AreLiteral (flat_map declaration_constants ds) → map (expanded_declaration s) ds ≡ ds
  declarations_same [] empty h = refl
  declarations_same (d ∷ ds) empty h =
      let parts = literal_parts (declaration_constants d) (flat_map declaration_constants ds) h in
      ap (λ x. x ∷ map (expanded_declaration s) ds) (declaration_same d (append-nil_left (own_synonyms_in d) (flat_map own_synonyms_in ds) empty) parts.0)
      ∙ ap (λ xs. d ∷ xs) (declarations_same ds (append-nil_right (own_synonyms_in d) (flat_map own_synonyms_in ds) empty) parts.1)

  process_same : (p : PlainProcess) → IsPlainProcess p → expanded_in s p ≡ p
  process_same p h =
      let all = literal_parts (flat_map declaration_constants p.declarations) _ h.constants in
      let text = literal_parts (text_constants p.start.text) _ all.1 in
      let rest = literal_parts (flat_map state_constants p.states) (flat_map connection_constants p.connections) text.1 in
      let make : List PlainDeclaration → Text → List PlainState → List PlainConnection → PlainProcess =
      λ ds t ps cs. record { name = p.name; instances = p.instances; declarations = ds; start = record { at = p.start.at; text = t }; states = ps; connections = cs } in
      let ps = map (expanded_state s) p.states in
      let cs = map (expanded_connection s) p.connections in
      ap (λ ds. make ds (expanded_text s p.start.text) ps cs) (declarations_same p.declarations h.synonyms all.0)
      ∙ (ap (λ t. make p.declarations t ps cs) (text_same p.start.text text.0)
      ∙ (ap (λ x. make p.declarations p.start.text x cs) (literals_same (expanded_state s) state_constants state_same p.states rest.0)
      ∙ ap (λ x. make p.declarations p.start.text p.states x) (literals_same (expanded_connection s) connection_constants connection_same p.connections rest.1)))

-- no synonym is visible if none is declared
nothing_around : (b : Bool) → (let o : Option the_value.Value = cond b None None in o) ≡ None
nothing_around true = refl
nothing_around false = refl

nothing_seen : (p : PlainProcess) (n : List ℕ) → seen (outer_sight none_known p) n ≡ None
nothing_seen p n = nothing_around (is_in (outer_sight none_known p).hidden n)

plain_process_same : (p : PlainProcess) → IsPlainProcess p → expanded_process none_known p ≡ p
plain_process_same p h =
    ap (λ ds. expanded_in (and_synonyms (outer_sight none_known p) ds) p) h.synonyms ∙ process_same (outer_sight none_known p) (nothing_seen p) p h

entities_same : (es : List PlainEntity) → flat_map synonyms_in es ≡ [] → ArePlain (flat_map processes_in es) → map (expanded_entity none_known) es ≡ es
entities_same [] empty h = refl
entities_same (signals declared ∷ es) empty h = ap (λ xs. signals declared ∷ xs) (entities_same es empty h)
entities_same (route r ∷ es) empty h = ap (λ xs. route r ∷ xs) (entities_same es empty h)
entities_same (connect channels routes ∷ es) empty h = ap (λ xs. connect channels routes ∷ xs) (entities_same es empty h)
entities_same (synonyms list ∷ es) empty h =
    ap (λ l. synonyms l ∷ map (expanded_entity none_known) es) (sym (append-nil_left list (flat_map synonyms_in es) empty))
    ∙ ap (λ xs. synonyms list ∷ xs) (entities_same es (append-nil_right list (flat_map synonyms_in es) empty) h)
entities_same (process p ∷ es) empty h =
    ap (λ x. process x ∷ map (expanded_entity none_known) es) (plain_process_same p h.0) ∙ ap (λ xs. process p ∷ xs) (entities_same es empty h.1)

pub plain_is_same : (b : PlainBlock) → IsPlain b → expanded b ≡ b
plain_is_same b h =
    let make : Known → PlainBlock = λ k. record { name = b.name; entities = map (expanded_entity k) b.entities } in
    let again : List PlainEntity → PlainBlock = λ es. record { name = b.name; entities = es } in
    ap (λ ds. make (and_synonyms first_sight ds).own) h.synonyms ∙ ap again (entities_same b.entities h.synonyms h.processes)
