use Rattle.std.proofs.Common.{◌≡◌, take}
use Rattle.sdl_rules.specs.SenderTables.{stimulus_rows}
use Rattle.sdl_rules.proofs.sender_table.SenderTable.rows_of.Given as goal

abbrev pub invariant-loop-stimulus : goal.invariant-loop-stimulus
invariant-loop-stimulus l = l.rows.items ≡ stimulus_rows l.self.names (take l.stimulus-index l.stimuli)
