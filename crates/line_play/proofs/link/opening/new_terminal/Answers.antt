use Rattle.line_play.proofs.NoSets.{new_over, no_limit, no_text}
use Rattle.line_play.proofs.SetOpening.{lacking_over}
use Rattle.line_play.proofs.link.opening.new_terminal.Goals as goal

pub returns-in-Ok-within-clause-ok : goal.returns-in-Ok-within-clause-ok
returns-in-Ok-within-clause-ok g c =
    new_over c.open_within.result c.args.chosen c.args.mode _ c.in-Ok.found c.in-Ok-within.limits c.in-Ok.ensures.set c.in-Ok-within.ensures.ok c.open_within.ensures.ok

pub returns-in-Ok-within-clause-refused : goal.returns-in-Ok-within-clause-refused
returns-in-Ok-within-clause-refused g c =
    lacking_over c.open_within.result c.args.name.now c.args.chosen c.args.mode _ _ _ c.in-Ok.found c.in-Ok-within.limits c.in-Ok.ensures.set c.in-Ok-within.ensures.ok c.open_within.ensures.refused

pub returns-in-Ok-clause-refused : goal.returns-in-Ok-clause-refused
returns-in-Ok-clause-refused g c two =
    no_limit c.args.name.now c.args.chosen c.args.mode _ c.in-Ok.found c.in-Err-within.limit _ _ c.in-Ok.ensures.set c.in-Err-within.ensures.err (c.refuse_limit.ensures.printed two)

pub returns-clause-refused : goal.returns-clause-refused
returns-clause-refused g c =
    no_text c.args.chosen c.args.mode _ c.args.name.now _ _ c.in-Err.refusal _ c.in-Err.ensures.fault c.refuse_text.ensures.refused c.refuse_text.ensures.told
