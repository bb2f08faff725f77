use Rattle.script_ends.proofs.opened.open_group.Goals as goal

pub returns-in-Ok-clause-ok : goal.returns-in-Ok-clause-ok
returns-in-Ok-clause-ok c = (c.in-Ok.group, c.in-Ok.ensures.ok, c.player_of.ensures.playing)
