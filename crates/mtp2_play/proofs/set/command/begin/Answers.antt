use Rattle.mtp2_play.proofs.Known.{ran_on}
use Rattle.mtp2_play.proofs.set.command.begin.Goals as goal

pub returns-in-Ok-clause-ran : goal.returns-in-Ok-clause-ran
returns-in-Ok-clause-ran g c = ran_on c.args.end.now c.args.tender c.in-Ok.streams.orders _ c.serve.result c.in-Ok.ensures.orders c.serve.ensures.ran
