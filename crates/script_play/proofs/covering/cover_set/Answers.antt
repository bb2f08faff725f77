use Rattle.script_play.proofs.CoveredPlays.{of_bytes, of_bytes_in_part}
use Rattle.script_play.proofs.covering.cover_set.Goals as goal

pub returns-in-Ok-clause-held : goal.returns-in-Ok-clause-held
returns-in-Ok-clause-held g c zero said keeps =
    of_bytes c.args.limits _ _ _ _ c.args.name.now c.in-Ok.text.now c.args.bytes.now c.args.set.now said c.in-Ok.ensures.cases.0 (c.cover.ensures.held zero said keeps)

pub returns-in-Ok-clause-missed : goal.returns-in-Ok-clause-missed
returns-in-Ok-clause-missed g c one said keeps =
    of_bytes_in_part c.args.limits _ _ _ _ c.args.name.now c.in-Ok.text.now c.args.bytes.now c.args.set.now said c.in-Ok.ensures.cases.0 (c.cover.ensures.missed one said keeps)
