use Rattle.sdl_ast.specs.Views.{block_of, process_of}
use Rattle.sdl_rules.proofs.lost.lost_in_process.Goals as goal

pub lost_in_start-requires : goal.lost_in_start-requires
lost_in_start-requires c = record { backs = c.new-backs.ensures (block_of c.args.block.now) (process_of c.args.process.now) }
