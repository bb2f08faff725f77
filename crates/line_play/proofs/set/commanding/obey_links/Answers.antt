use Rattle.std.proofs.Common.{arith, rules}
use Rattle.script_ends.specs.TermAnswers.{command_of}
use Rattle.line_tending.proofs.Doing.{orders_nothing, orders_then}
use Rattle.line_play.specs.SetDoing.{no_command}
use Rattle.line_play.proofs.SetDoing.{tries_more, tries_all}
use Rattle.line_play.proofs.set.commanding.obey_links.Goals as goal

pub loop-link-init : goal.loop-link-init
loop-link-init c = record { adds = orders_nothing c.args.tender.now; each = no_command }

pub loop-link-preserved : goal.loop-link-preserved
loop-link-preserved c = record {
  adds = orders_then c.args.tender.now c.loop-link.tender c.obey_one.new.tender c.loop-link.invariant.adds c.in_ok-first.ensures.adds;
  each =
      tries_more (command_of c.args.order) c.args.links.now c.loop-link.link-index _ c.args.tender.now c.loop-link.tender c.obey_one.new.tender c.loop-link.first _
      c.loop-link-test.true (search rules) c.loop-link.invariant.each c.in_ok-first.ensures.tries;
}

pub returns-clause-adds : goal.returns-clause-adds
returns-clause-adds c = c.loop-link.invariant.adds

pub returns-clause-tries : goal.returns-clause-tries
returns-clause-tries c =
    tries_all (command_of c.args.order) c.args.links.now c.loop-link.link-index c.args.tender.now c.loop-link.tender c.loop-link.first
    (omega (arith, c.loop-link-test.false)) c.loop-link.invariant.each
