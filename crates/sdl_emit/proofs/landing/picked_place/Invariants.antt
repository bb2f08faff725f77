use Rattle.std.proofs.Common.{◌≡◌, drop}
use Rattle.sdl_ast.specs.declared.tree.Decision.{out-Decision}
use Rattle.sdl_ast.specs.Views.{choice_of, answers_before, else_choice}
use Rattle.sdl_emit.specs.Landing.{picked_by}
use Rattle.sdl_emit.proofs.landing.picked_place.Given as goal

abbrev pub invariant-loop-number : goal.invariant-loop-number
invariant-loop-number l =
    picked_by l.otherwise (drop l.number l.starts) (answers_before (drop l.number l.answer-items) (else_choice (out-Decision l.decision).otherwise)) l.value
    ≡ picked_by l.otherwise l.starts (choice_of l.decision) l.value
