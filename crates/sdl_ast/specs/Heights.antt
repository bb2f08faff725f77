-- The height of a tree, and the first part of it that exceeds the limit.
use Rattle.std.specs.Prelude.{ℕ, ◌+◌, max, nat_lt, List, [], ◌∷◌, Option, Some, None, if◌then◌else◌}
use Rattle.std.specs.Prelude.{min}
use Rattle.sdl_ast.specs.Limits.{GREATEST_HEIGHT}
use Rattle.sdl_ast.specs.Plain.{Tree, number, truth, variable, unary, binary, PlainAssignment}
use Rattle.sdl_ast.specs.Plain.{PlainSending, PlainAction, task, output, set_timer, reset_timer}
use Rattle.sdl_ast.specs.Plain.{Text, falls, ends, does, decides, Choice, nothing_else, otherwise}
use Rattle.sdl_ast.specs.Plain.{answer, PlainStatement, act, decide, PlainAnswer, PlainClause}
use Rattle.sdl_ast.specs.Plain.{input, save, PlainState, PlainConnection, PlainSynonym}
use Rattle.sdl_ast.specs.Plain.{PlainDeclaration, variables, timers, own_synonyms, PlainProcess}
use Rattle.sdl_ast.specs.Plain.{PlainEntity, signals, route, connect, synonyms, process, PlainBlock}

-- 1 for an operand; for an operator, one more than its highest operand
abbrev pub tree_height : Tree → ℕ
tree_height (number at k) = 1
tree_height (truth at b) = 1
tree_height (variable at n) = 1
tree_height (unary at o x) = tree_height x + 1
tree_height (binary at o x y) = max (tree_height x) (tree_height y) + 1

-- the greatest height in a list, 0 for an empty list
abbrev pub highest : {A : Type 0} → (A → ℕ) → List A → ℕ
highest f [] = 0
highest f (x ∷ xs) = max (f x) (highest f xs)

abbrev pub assignments_height : List PlainAssignment → ℕ
assignments_height assignments = highest (λ a. tree_height a.value) assignments

abbrev pub sending_height : PlainSending → ℕ
sending_height s = highest tree_height s.parameters

-- the height of an action is that of its highest expression, 0 for none
abbrev pub action_height : PlainAction → ℕ
action_height (task at assignments) = assignments_height assignments
action_height (output at sendings to) = highest sending_height sendings
action_height (set_timer at delay timer) = tree_height delay
action_height (reset_timer at timer) = 0

-- a DECISION is one higher than the highest of its question and its answers
abbrev mutual
  pub text_height : Text → ℕ
  text_height falls = 0
  text_height (ends e) = 0
  text_height (does action rest) = max (action_height action) (text_height rest)
  text_height (decides at question choice rest) =
      max (max (tree_height question) (choice_height choice) + 1) (text_height rest)

  -- an answer is as high as its body
  pub choice_height : Choice → ℕ
  choice_height nothing_else = 0
  choice_height (otherwise text) = text_height text
  choice_height (answer at ranges text others) = max (text_height text) (choice_height others)

abbrev pub decision_height : Tree → Choice → ℕ
decision_height question choice = max (tree_height question) (choice_height choice) + 1

abbrev pub clause_height : PlainClause → ℕ
clause_height (input i) = text_height i.text
clause_height (save names) = 0

abbrev pub state_height : PlainState → ℕ
state_height s = highest clause_height s.clauses

abbrev pub connection_height : PlainConnection → ℕ
connection_height c = text_height c.text

-- a synonym is as high as its expression
abbrev pub synonym_height : PlainSynonym → ℕ
synonym_height s = tree_height s.value

abbrev pub declaration_height : PlainDeclaration → ℕ
declaration_height (variables groups) = 0
declaration_height (timers names) = 0
declaration_height (own_synonyms list) = highest synonym_height list

abbrev pub process_height : PlainProcess → ℕ
process_height p =
    max (highest declaration_height p.declarations)
    (max (text_height p.start.text)
    (max (highest state_height p.states) (highest connection_height p.connections)))

abbrev pub entity_height : PlainEntity → ℕ
entity_height (signals declared) = 0
entity_height (route r) = 0
entity_height (connect channels routes) = 0
entity_height (synonyms list) = highest synonym_height list
entity_height (process p) = process_height p

-- the height of the highest expression or DECISION of a text
abbrev pub Height : PlainBlock → ℕ
Height b = highest entity_height b.entities

-- the first place if there is one, else the other
abbrev pub or_first : Option ℕ → Option ℕ → Option ℕ
or_first (Some p) other = Some p
or_first None other = other

abbrev pub first_of : {A : Type 0} → (A → Option ℕ) → List A → Option ℕ
first_of f [] = None
first_of f (x ∷ xs) = or_first (f x) (first_of f xs)

abbrev pub place_of_action : PlainAction → ℕ
place_of_action (task at assignments) = at
place_of_action (output at sendings to) = at
place_of_action (set_timer at delay timer) = at
place_of_action (reset_timer at timer) = at

-- the place of an action that contains an expression above the height limit
abbrev pub high_in_action : PlainAction → Option ℕ
high_in_action a =
    if nat_lt GREATEST_HEIGHT (action_height a) then Some (place_of_action a) else None

-- the place of a DECISION that exceeds the height limit
abbrev pub high_in_decision : ℕ → Tree → Choice → Option ℕ
high_in_decision at question choice =
    if nat_lt GREATEST_HEIGHT (decision_height question choice) then Some at else None

-- The place of the first TASK, OUTPUT, SET or DECISION that is too high. A DECISION comes before
-- the statements in it.
abbrev mutual
  pub high_in_text : Text → Option ℕ
  high_in_text falls = None
  high_in_text (ends e) = None
  high_in_text (does action rest) = or_first (high_in_action action) (high_in_text rest)
  high_in_text (decides at question choice rest) =
      or_first (high_in_decision at question choice)
      (or_first (high_in_choice choice) (high_in_text rest))

  pub high_in_choice : Choice → Option ℕ
  high_in_choice nothing_else = None
  high_in_choice (otherwise text) = high_in_text text
  high_in_choice (answer at ranges text others) =
      or_first (high_in_text text) (high_in_choice others)

-- the place that is too high in one statement without its successors, and in one answer
abbrev pub high_in_statement : PlainStatement → Option ℕ
high_in_statement (act action) = high_in_action action
high_in_statement (decide at question choice) = high_in_decision at question choice

abbrev pub high_in_answer : PlainAnswer → Option ℕ
high_in_answer a = high_in_text a.text

abbrev pub high_in_clause : PlainClause → Option ℕ
high_in_clause (input i) = high_in_text i.text
high_in_clause (save names) = None

abbrev pub high_in_state : PlainState → Option ℕ
high_in_state s = first_of high_in_clause s.clauses

abbrev pub high_in_connection : PlainConnection → Option ℕ
high_in_connection c = high_in_text c.text

-- the lesser of two places, or the only one
abbrev pub lesser : Option ℕ → Option ℕ → Option ℕ
lesser None q = q
lesser (Some p) None = Some p
lesser (Some p) (Some q) = Some (min p q)

-- the place of a synonym with an expression that is too high
abbrev pub high_in_synonym : PlainSynonym → Option ℕ
high_in_synonym s = if nat_lt GREATEST_HEIGHT (synonym_height s) then Some s.name.at else None

abbrev pub high_in_declaration : PlainDeclaration → Option ℕ
high_in_declaration (variables groups) = None
high_in_declaration (timers names) = None
high_in_declaration (own_synonyms list) = first_of high_in_synonym list

-- STATE parts and CONNECTIONs are mixed in the text, so the lesser place is the first
abbrev pub high_in_process : PlainProcess → Option ℕ
high_in_process p =
    or_first (first_of high_in_declaration p.declarations)
    (or_first (high_in_text p.start.text)
    (lesser (first_of high_in_state p.states) (first_of high_in_connection p.connections)))

abbrev pub high_in_entity : PlainEntity → Option ℕ
high_in_entity (signals declared) = None
high_in_entity (route r) = None
high_in_entity (connect channels routes) = None
high_in_entity (synonyms list) = first_of high_in_synonym list
high_in_entity (process p) = high_in_process p

abbrev pub first_too_high : PlainBlock → Option ℕ
first_too_high b = first_of high_in_entity b.entities
