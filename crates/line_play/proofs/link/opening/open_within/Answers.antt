use Rattle.line_play.proofs.SetOpening.{lacking, lacks_one}
use Rattle.line_play.proofs.link.opening.open_within.Goals as goal

pub returns-in-Err-clause-refused : goal.returns-in-Err-clause-refused
returns-in-Err-clause-refused g c =
    lacking c.args.set.now c.in-Err.error _ _ _ (lacks_one c.args.set.now c.in-Err.error c.in-Err.ensures.err) c.refuse_name.ensures.printed
