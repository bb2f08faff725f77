use Rattle.std.proofs.Common.{◌≡◌}
use Rattle.std.specs.Prelude.{take}
use Rattle.script_lines.specs.Lines.{texts}
use Rattle.line_play.specs.SetGiven.{numbers_of}
use Rattle.line_play.proofs.set.given.numbers_in.Given as goal

abbrev pub invariant-loop-word : goal.invariant-loop-word
invariant-loop-word l = l.links.items ≡ numbers_of (texts (take l.word-index l.words))
