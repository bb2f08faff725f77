use Rattle.std.proofs.Common.{◌∙◌}
use Rattle.m3ua_gateway.proofs.QueueLaws.{taken}
use Rattle.m3ua_gateway.proofs.gateway.Gateway.take_first.Goals as goal

pub returns-clause-account : goal.returns-clause-account
returns-clause-account c = c.remove_first.ensures.account ∙ taken c.args.self.now c.args.selection c.remove_first.ensures.counts.0 c.remove_first.ensures.counts.1
