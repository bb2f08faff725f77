use Rattle.std.proofs.Common.{ap, ◌∙◌, map, take_all}
use Rattle.std.specs.List.{list_any}
use Rattle.sdl_ast.specs.Plain.{PlainAssignment}
use Rattle.sdl_ast.specs.Views.{assignment_of}
use Rattle.sdl_warnings.specs.Warned.{reads_in}
use Rattle.sdl_warnings.proofs.reads.reads_in_assignments.Goals as goal

pub returns : goal.returns
returns c =
    c.loop-assignment.invariant
    ∙ ap (λ l. list_any (λ (a : PlainAssignment). reads_in c.args.name a.value) (map assignment_of l)) (take_all c.loop-assignment.assignment-index c.args.assignments.now c.loop-assignment-test.false)
