use Rattle.std.proofs.Common.{◌≡◌, fold, map, take}
use Rattle.sdl_ast.specs.Views.{input_of, block_of, process_of}
use Rattle.sdl_rules.specs.SenderTables.{Tells, add_input}
use Rattle.sdl_rules.proofs.sender_table.SenderTable.learn_inputs.Given as goal

abbrev pub invariant-loop-input : goal.invariant-loop-input
invariant-loop-input l = record {
  names : l.self.names ≡ fold add_input l.initial.self.names (map (λ i. input_of i.now) (take l.input-index l.inputs));
  tells : Tells (block_of l.block) (process_of l.process) l.initial.self → Tells (block_of l.block) (process_of l.process) l.self;
}
