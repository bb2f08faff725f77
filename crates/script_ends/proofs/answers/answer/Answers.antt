use Rattle.script_ends.proofs.answers.answer.Goals as goal

pub returns-in-Ok : goal.returns-in-Ok
returns-in-Ok c = record { middle = c.done.new.terminal; does = c.in-Ok.ensures; after = c.obey_clear-cleared.ensures.terminal }
