use Rattle.line_tending.specs.Readers.{no_command}
use Rattle.line_tending.proofs.tended_set.TendedSet.press.Goals as goal

pub returns-in-Here-Here-clause-pressed : goal.returns-in-Here-Here-clause-pressed
returns-in-Here-Here-clause-pressed c = rw (c.in-Here-Here.is-0, c.in-Here-Here.is-1) no_command

pub returns-in-Here-Here-2-clause-pressed : goal.returns-in-Here-Here-2-clause-pressed
returns-in-Here-Here-2-clause-pressed c = rw (c.in-Here-Here.is-0, c.in-Here-Here.is-1) no_command

pub returns-in-Here-Here-3-clause-pressed : goal.returns-in-Here-Here-3-clause-pressed
returns-in-Here-Here-3-clause-pressed c = rw (c.in-Here-Here.is-0, c.in-Here-Here.is-1) no_command
