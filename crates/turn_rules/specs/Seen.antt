-- The transition that the checks see.
use Rattle.turn_code.specs.Transitions.{Transition}
use Rattle.turn_rules.specs.declared.transition.Transition.{Transition as Borrowed}

abbrev pub seen : Borrowed → Transition
seen x = record {
  number = x.number.0;
  process = x.process.now;
  trigger = x.trigger;
  parameters = x.parameters.now;
  entry = x.entry;
  piece = x.piece.now;
}
