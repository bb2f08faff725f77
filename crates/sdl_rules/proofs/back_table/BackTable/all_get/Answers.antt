use Rattle.std.proofs.Common.{true≢false, sym}
use Rattle.sdl_ast.specs.Views.{block_of, process_of}
use Rattle.sdl_rules.proofs.back_table.BackTable.all_get.Goals as goal

pub returns-in-Some : goal.returns-in-Some
returns-in-Some c = λ brings senders.
    c.all_get_back.ensures (c.in-Some.ensures (block_of c.args.block.now) (process_of c.args.process.now) brings) senders

pub returns-in-None : goal.returns-in-None
returns-in-None c = λ brings senders.
    c.all_get_back-in-None.ensures (λ q n number there. absurd (true≢false (sym there))) senders
