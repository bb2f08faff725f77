use Rattle.std.proofs.Common.{◌≡◌, fold, map, take}
use Rattle.sdl_ast.specs.Views.{stimulus_of, block_of, process_of}
use Rattle.sdl_rules.specs.SenderTables.{Tells, add_stimulus}
use Rattle.sdl_rules.proofs.sender_table.SenderTable.learn_stimuli.Given as goal

abbrev pub invariant-loop-stimulus : goal.invariant-loop-stimulus
invariant-loop-stimulus l = record {
  names : l.self.names ≡ fold add_stimulus l.initial.self.names (map stimulus_of (take l.stimulus-index l.stimuli));
  tells : Tells (block_of l.block) (process_of l.process) l.initial.self → Tells (block_of l.block) (process_of l.process) l.self;
}
