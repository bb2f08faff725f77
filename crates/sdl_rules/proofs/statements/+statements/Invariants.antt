use Rattle.std.proofs.Common.{List, take}
use Rattle.std.specs.List.{flat_map}
use Rattle.sdl_ast.specs.declared.tree.Decision.{out-Decision}
use Rattle.sdl_ast.specs.Views.{tree_of, block_of, process_of}
use Rattle.sdl_tables.specs.Scopes.{Marks}
use Rattle.sdl_rules.specs.Asked.{asked_all}
use Rattle.sdl_sound.specs.Parts.{statement_parts, answer_parts}
use Rattle.sdl_sound.specs.Actions.{Origin}
use Rattle.sdl_scopes.specs.Known.{Knows}
use Rattle.sdl_rules.proofs.statements.+statements.Given as goal

abbrev pub invariant-in_transition-loop-statement : goal.invariant-in_transition-loop-statement
invariant-in_transition-loop-statement l =
    (os : List Origin) → Knows (block_of l.block) (process_of l.process) l.from os → Marks l.place
    (flat_map (λ s. asked_all l.rule (block_of l.block) (process_of l.process) os (statement_parts s)) (take l.statement-index l.statement-items))

abbrev pub invariant-in_decision-loop-answer : goal.invariant-in_decision-loop-answer
invariant-in_decision-loop-answer l =
    (os : List Origin) → Knows (block_of l.block) (process_of l.process) l.from os → Marks l.place
    (flat_map
    (λ a. asked_all l.rule (block_of l.block) (process_of l.process) os (answer_parts (tree_of (out-Decision l.decision).question) a))
    (take l.answer-index l.answer-items))
