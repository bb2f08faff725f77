use Rattle.std.specs.Prelude.{take}
use Rattle.script_ends.specs.TermAnswers.{command_of}
use Rattle.line_tending.specs.Rounds.{AddsOrders}
use Rattle.line_play.specs.SetDoing.{TriesEach}
use Rattle.line_play.proofs.set.commanding.obey_links.Given as goal

abbrev pub invariant-loop-link : goal.invariant-loop-link
invariant-loop-link l = record {
  adds : AddsOrders l.initial.tender l.tender;
  each : TriesEach (command_of l.order) l.initial.tender (take l.link-index l.links) l.tender l.first;
}
