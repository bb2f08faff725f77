use Rattle.script_play.proofs.BookTurns.{has_turns}
use Rattle.script_play.proofs.turns.turns_are_as_read.Goals as goal

pub returns : goal.returns
returns c = has_turns c.events_run_as_read.ensures c.set_law.ensures c.args.set.now c.draft-valid.ensures.valid
