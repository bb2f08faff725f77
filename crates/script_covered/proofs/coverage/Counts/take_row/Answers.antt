use Rattle.sdl_ast.specs.Views.{process_of}
use Rattle.sdl_tables.specs.Rows.{row_input}
use Rattle.script_covered.proofs.Countings.{row_taken}
use Rattle.script_covered.proofs.coverage.Counts.take_row.Goals as goal

pub returns : goal.returns
returns c = λ xs has.
    row_taken (process_of c.args.process.now) (row_input c.args.row.now) c.deref.result.now c.args.input.now xs c.args.self.now c.take_at.new.self c.pass.new.counts c.deref.ensures.value (c.take_at.ensures xs) c.pass.ensures has
