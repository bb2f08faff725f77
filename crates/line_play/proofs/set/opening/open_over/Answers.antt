use Rattle.line_play.proofs.SetOpening.{all_unused, lacking, tended_of}
use Rattle.line_play.proofs.set.opening.open_over.Goals as goal

pub tend-requires : goal.tend-requires
tend-requires g c = all_unused c.args.set.now _ _ _ _ c.in-Ok.ensures.ok

pub returns-in-Ok-clause-ok : goal.returns-in-Ok-clause-ok
returns-in-Ok-clause-ok g c = tended_of c.tend.result c.args.plan c.args.limits c.args.set.now _ c.in-Ok.ensures.ok c.tend.ensures.ok

pub returns-in-Err-clause-refused : goal.returns-in-Err-clause-refused
returns-in-Err-clause-refused g c = lacking c.args.set.now c.in-Err.error _ _ _ c.in-Err.ensures.err c.refuse_name.ensures.printed
