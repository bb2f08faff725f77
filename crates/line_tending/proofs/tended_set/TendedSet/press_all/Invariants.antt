use Rattle.line_tending.specs.Readers.{PressesEach, commands_at}
use Rattle.line_tending.specs.Rounds.{Adds}
use Rattle.line_tending.proofs.tended_set.TendedSet.press_all.Given as goal

abbrev pub invariant-loop-link : goal.invariant-loop-link
invariant-loop-link l =
    Adds l.initial.self l.self × PressesEach (commands_at l.was l.is) l.initial.self.ordered l.initial.self.set l.link l.self.set
