use Rattle.line_play.proofs.SetTelling.{ok_so}
use Rattle.line_play.specs.SetDoing.{obeys}
use Rattle.line_play.proofs.SetDoing.{obeys_at, disobeyed_at}
use Rattle.line_play.proofs.set.commanding.obey_one.Goals as goal

pub returns-in-Ok-clause-tries : goal.returns-in-Ok-clause-tries
returns-in-Ok-clause-tries c =
    obeys (obeys_at c.command_of.result _ c.args.link c.args.tender.now c.obey.new.self c.command_of.ensures c.in-Ok.ensures.start c.in-Ok.ensures.put_off
    c.in-Ok.ensures.ordered c.in-Ok.ensures.other)

pub returns-in-Err-clause-adds : goal.returns-in-Err-clause-adds
returns-in-Err-clause-adds c = ok_so c.first_refusal.result _ c.obey.ensures.adds

pub returns-in-Err-clause-tries : goal.returns-in-Err-clause-tries
returns-in-Err-clause-tries c =
    disobeyed_at c.first_refusal.result c.command_of.result _ c.args.link c.args.tender.now c.obey.new.self c.args.first c.in-Err.error c.command_of.ensures
    c.in-Err.ensures.err c.first_refusal.ensures.first c.first_refusal.ensures.other
