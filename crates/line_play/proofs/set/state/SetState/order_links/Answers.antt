use Rattle.std.proofs.Common.{string_bytes}
use Rattle.line_play.specs.SetDoing.{stood}
use Rattle.line_play.proofs.SetDoing.{commanded, not_commanded}
use Rattle.line_play.proofs.SetTelling.{ok_so}
use Rattle.line_play.proofs.set.state.SetState.order_links.Goals as goal

pub returns-clause-adds : goal.returns-clause-adds
returns-clause-adds c = ok_so c.refused_for.result _ c.in_ok-first.ensures.adds

pub returns-clause-obeys : goal.returns-clause-obeys
returns-clause-obeys c =
    commanded c.refused_for.result _ c.args.links.now (stood c.args.self.now) c.obey_links.new.tender _ c.in_ok-first.ensures.tries c.refused_for.ensures.none

pub returns-clause-fault : goal.returns-clause-fault
returns-clause-fault c =
    not_commanded c.refused_for.result (λ s. string_bytes s) _ c.args.links.now (stood c.args.self.now) c.obey_links.new.tender _ c.in_ok-first.ensures.tries
    c.refused_for.ensures.some
