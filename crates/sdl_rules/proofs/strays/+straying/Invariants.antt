use Rattle.std.proofs.Common.{map, take}
use Rattle.sdl_ast.specs.Views.{plain_answer, plain_statement}
use Rattle.sdl_rules.specs.Faults.{AreOf, constants_places, answer_constants, statement_constants}
use Rattle.sdl_rules.specs.Views.{sight_of}
use Rattle.std.specs.List.{flat_map}
use Rattle.sdl_rules.proofs.strays.+straying.Given as goal

abbrev pub invariant-strays_in_transition-loop-statement : goal.invariant-strays_in_transition-loop-statement
invariant-strays_in_transition-loop-statement l =
    AreOf (constants_places (sight_of l.sight) (flat_map statement_constants (map plain_statement (take l.statement-index l.statement-items)))) l.found

abbrev pub invariant-strays_in_decision-loop-answer : goal.invariant-strays_in_decision-loop-answer
invariant-strays_in_decision-loop-answer l =
    AreOf (constants_places (sight_of l.sight) (flat_map answer_constants (map plain_answer (take l.answer-index l.answer-items)))) l.found
