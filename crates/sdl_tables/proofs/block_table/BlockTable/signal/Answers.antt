use Rattle.std.proofs.Common.{arith}
use Rattle.sdl_ast.specs.Views.{block_of}
use Rattle.sdl_tables.proofs.BlockLemmas.{signal-none, signal-some, signal-past}
use Rattle.sdl_tables.proofs.block_table.BlockTable.signal.Goals as goal

pub returns-in-None : goal.returns-in-None
returns-in-None c =
    signal-none (block_of c.args.self.now) c.args.name c.signals.result.now c.signals.ensures c.in-None.ensures.number

pub returns-then-number-rows : goal.returns-then-number-rows
returns-then-number-rows c =
    signal-some (block_of c.args.self.now) c.args.name c.signals.result.now c.in-Some.number c.rows-rows.result.now
    c.index-rows-number.result c.signals.ensures c.in-Some.ensures.number c.rows-rows.ensures (omega arith) c.index-rows-number.is

pub returns-else-number-rows : goal.returns-else-number-rows
returns-else-number-rows c =
    signal-past (block_of c.args.self.now) c.args.name c.signals.result.now c.in-Some.number c.rows-rows.result.now
    c.signals.ensures c.in-Some.ensures.number c.rows-rows.ensures (omega arith)
