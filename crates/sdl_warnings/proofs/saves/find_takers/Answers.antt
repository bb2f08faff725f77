use Rattle.std.proofs.Common.{map}
use Rattle.sdl_ast.specs.Views.{process_of}
use Rattle.sdl_tables.specs.Rows.{rows_inputs}
use Rattle.sdl_warnings.proofs.StateWays.{takers_count, takers_each}
use Rattle.sdl_warnings.proofs.saves.find_takers.Goals as goal

pub returns-clause-takers : goal.returns-clause-takers
returns-clause-takers c =
    let p = process_of c.args.process.now in
    let rows = map rows_inputs c.args.inputs.now in
    record {
      count = takers_count p c.args.name rows c.in_ok-marks.marks.items c.requires c.in_ok-marks.ensures;
      each = takers_each p c.args.name rows c.in_ok-marks.marks.items c.requires c.in_ok-marks.ensures;
    }
