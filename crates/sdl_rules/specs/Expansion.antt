-- The meaning of a text: the text with a constant of its value in place of each synonym.
use Rattle.std.specs.Prelude.{List, [], Option, map}
use Rattle.std.specs.List.{flat_map}
use Rattle.std.specs.Option.{option_map}
use Rattle.sdl_ast.specs.declared.expression.Identifier.{Identifier}
use Rattle.sdl_ast.specs.declared.tree.Range.{Range}
use Rattle.sdl_ast.specs.declared.tree.Range.TheVariants.{Value, Compared, Between}
use Rattle.sdl_ast.specs.Plain.{PlainAssignment, PlainSending, PlainAction, task, output, set_timer}
use Rattle.sdl_ast.specs.Plain.{reset_timer, Text, falls, ends, does, decides, Choice, nothing_else}
use Rattle.sdl_ast.specs.Plain.{otherwise, answer, PlainStatement, act, decide, PlainAnswer}
use Rattle.sdl_ast.specs.Plain.{PlainConnection, PlainInput, PlainClause, input, save, PlainState}
use Rattle.sdl_ast.specs.Plain.{PlainStart, PlainGroup, PlainSynonym, PlainDeclaration, variables}
use Rattle.sdl_ast.specs.Plain.{timers, own_synonyms, PlainProcess, PlainEntity, signals, route}
use Rattle.sdl_ast.specs.Plain.{connect, synonyms, process, PlainBlock}
use Rattle.sdl_tables.specs.Names.{names_once}
use Rattle.sdl_rules.specs.Synonyms.{Known, none_known, Sight, expanded_tree, expanded_constant}
use Rattle.sdl_rules.specs.Synonyms.{and_synonyms}

-- ---- the declarations of a block and a process

abbrev pub synonyms_in : PlainEntity → List PlainSynonym
synonyms_in (signals declared) = []
synonyms_in (route r) = []
synonyms_in (connect channels routes) = []
synonyms_in (synonyms list) = list
synonyms_in (process p) = []

-- the synonyms of a block, over all SYNONYMs, in the order of the text
abbrev pub synonyms_of : PlainBlock → List PlainSynonym
synonyms_of b = flat_map synonyms_in b.entities

abbrev pub own_synonyms_in : PlainDeclaration → List PlainSynonym
own_synonyms_in (variables groups) = []
own_synonyms_in (timers names) = []
own_synonyms_in (own_synonyms list) = list

-- those of a process
abbrev pub own_synonyms_of : PlainProcess → List PlainSynonym
own_synonyms_of p = flat_map own_synonyms_in p.declarations

-- no synonym is visible at the beginning of a block
abbrev pub first_sight : Sight
first_sight = record { own = none_known; hidden = []; outer = none_known }

-- the synonyms of a block with their values
abbrev pub block_known : PlainBlock → Known
block_known b = (and_synonyms first_sight (synonyms_of b)).own

abbrev pub synonym_names : List PlainSynonym → List Identifier
synonym_names list = map (λ d. d.name) list

abbrev pub names_declared : PlainDeclaration → List Identifier
names_declared (variables groups) = flat_map (λ g. g.names) groups
names_declared (timers names) = []
names_declared (own_synonyms list) = synonym_names list

-- the variables and synonyms of a process, which hide synonyms of its block
abbrev pub hiding_names : PlainProcess → List Identifier
hiding_names p = flat_map names_declared p.declarations

-- the synonyms that are visible at the beginning of a process: all of the block
abbrev pub outer_sight : Known → PlainProcess → Sight
outer_sight k p =
    record { own = none_known; hidden = names_once (hiding_names p); outer = k }

-- the synonyms that are visible in the declarations and transitions of a process
abbrev pub process_sight : Known → PlainProcess → Sight
process_sight k p = and_synonyms (outer_sight k p) (own_synonyms_of p)

-- ---- the tree with values

abbrev pub expanded_assignment : Sight → PlainAssignment → PlainAssignment
expanded_assignment s a = record { variable = a.variable; value = expanded_tree s a.value }

abbrev pub expanded_sending : Sight → PlainSending → PlainSending
expanded_sending s x =
    record { signal = x.signal; parameters = map (expanded_tree s) x.parameters }

abbrev pub expanded_action : Sight → PlainAction → PlainAction
expanded_action s (task at list) = task at (map (expanded_assignment s) list)
expanded_action s (output at list to) = output at (map (expanded_sending s) list) to
expanded_action s (set_timer at delay timer) = set_timer at (expanded_tree s delay) timer
expanded_action s (reset_timer at timer) = reset_timer at timer

abbrev pub expanded_range : Sight → Range → Range
expanded_range s (Value c) = Value (expanded_constant s c)
expanded_range s (Compared at relation c) = Compared at relation (expanded_constant s c)
expanded_range s (Between low high) =
    Between (expanded_constant s low) (expanded_constant s high)

abbrev mutual
  pub expanded_text : Sight → Text → Text
  expanded_text s falls = falls
  expanded_text s (ends e) = ends e
  expanded_text s (does a rest) = does (expanded_action s a) (expanded_text s rest)
  expanded_text s (decides at q choice rest) =
      decides at (expanded_tree s q) (expanded_choice s choice) (expanded_text s rest)

  pub expanded_choice : Sight → Choice → Choice
  expanded_choice s nothing_else = nothing_else
  expanded_choice s (otherwise body) = otherwise (expanded_text s body)
  expanded_choice s (answer at ranges body others) =
      answer at (map (expanded_range s) ranges) (expanded_text s body) (expanded_choice s others)

-- a single statement and a single answer
abbrev pub expanded_statement : Sight → PlainStatement → PlainStatement
expanded_statement s (act a) = act (expanded_action s a)
expanded_statement s (decide at q choice) =
    decide at (expanded_tree s q) (expanded_choice s choice)

abbrev pub expanded_answer : Sight → PlainAnswer → PlainAnswer
expanded_answer s a = record {
  at = a.at;
  ranges = map (expanded_range s) a.ranges;
  text = expanded_text s a.text;
}

abbrev pub expanded_input : Sight → PlainInput → PlainInput
expanded_input s i = record { at = i.at; stimuli = i.stimuli; text = expanded_text s i.text }

abbrev pub expanded_clause : Sight → PlainClause → PlainClause
expanded_clause s (input i) = input (expanded_input s i)
expanded_clause s (save names) = save names

abbrev pub expanded_state : Sight → PlainState → PlainState
expanded_state s part =
    record { names = part.names; clauses = map (expanded_clause s) part.clauses }

abbrev pub expanded_start : Sight → PlainStart → PlainStart
expanded_start s x = record { at = x.at; text = expanded_text s x.text }

abbrev pub expanded_connection : Sight → PlainConnection → PlainConnection
expanded_connection s c = record { at = c.at; name = c.name; text = expanded_text s c.text }

abbrev pub expanded_group : Sight → PlainGroup → PlainGroup
expanded_group s g = record {
  names = g.names;
  sort = g.sort;
  initial = option_map (expanded_constant s) g.initial;
}

-- a SYNONYM without its names
abbrev pub expanded_declaration : Sight → PlainDeclaration → PlainDeclaration
expanded_declaration s (variables groups) = variables (map (expanded_group s) groups)
expanded_declaration s (timers names) = timers names
expanded_declaration s (own_synonyms list) = own_synonyms []

abbrev pub expanded_in : Sight → PlainProcess → PlainProcess
expanded_in s p = record {
  name = p.name;
  instances = p.instances;
  declarations = map (expanded_declaration s) p.declarations;
  start = expanded_start s p.start;
  states = map (expanded_state s) p.states;
  connections = map (expanded_connection s) p.connections;
}

abbrev pub expanded_process : Known → PlainProcess → PlainProcess
expanded_process k p = expanded_in (process_sight k p) p

abbrev pub expanded_entity : Known → PlainEntity → PlainEntity
expanded_entity k (signals declared) = signals declared
expanded_entity k (route r) = route r
expanded_entity k (connect channels routes) = connect channels routes
expanded_entity k (synonyms list) = synonyms []
expanded_entity k (process p) = process (expanded_process k p)

-- the block with the value of each synonym in its place
abbrev pub expanded : PlainBlock → PlainBlock
expanded b =
    record { name = b.name; entities = map (expanded_entity (block_known b)) b.entities }
