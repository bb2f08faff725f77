use Rattle.std.proofs.Common.{◌≡◌, true}
use Rattle.std.specs.Prelude.{take}
use Rattle.std.specs.List.{list_all}
use Rattle.script_lines.specs.Lines.{texts}
use Rattle.line_play.specs.SetGiven.{is_number}
use Rattle.line_play.proofs.set.given.are_numbers.Given as goal

abbrev pub invariant-loop-word : goal.invariant-loop-word
invariant-loop-word l = list_all is_number (texts (take l.word-index l.words)) ≡ true
