use Rattle.std.proofs.Common.{ap, ◌∙◌, map, take_all}
use Rattle.std.specs.List.{list_any}
use Rattle.sdl_ast.specs.Plain.{PlainAssignment}
use Rattle.sdl_ast.specs.Views.{assignment_of}
use Rattle.sdl_tables.specs.Names.{same_name}
use Rattle.sdl_warnings.proofs.reads.assigns_in.Goals as goal

pub returns : goal.returns
returns c =
    c.loop-assignment.invariant
    ∙ ap (λ l. list_any (λ (a : PlainAssignment). same_name c.args.name a.variable.name) (map assignment_of l)) (take_all c.loop-assignment.assignment-index c.args.assignments.now c.loop-assignment-test.false)
