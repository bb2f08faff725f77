use Rattle.std.proofs.Common.{refl}
use Rattle.line_play.specs.SetDoing.{stood}
use Rattle.line_play.proofs.SetDoing.{reset_adds, still}
use Rattle.line_play.proofs.set.state.SetState.obey_plain.Goals as goal

pub returns-in-On-clause-changes : goal.returns-in-On-clause-changes
returns-in-On-clause-changes c = rw c.in-On.is c.look_at.ensures.looks

pub returns-in-On-clause-refuses : goal.returns-in-On-clause-refuses
returns-in-On-clause-refuses c = rw c.in-On.is c.look_at.ensures.none

pub returns-in-Link-clause-changes : goal.returns-in-Link-clause-changes
returns-in-Link-clause-changes c = rw c.in-Link.is c.order_links.ensures.obeys

pub returns-in-Link-clause-refuses : goal.returns-in-Link-clause-refuses
returns-in-Link-clause-refuses c = rw c.in-Link.is c.order_links.ensures.fault

pub returns-in-Reset-clause-changes : goal.returns-in-Reset-clause-changes
returns-in-Reset-clause-changes c = rw c.in-Reset.is (λ none. c.reset_links.ensures)

pub returns-in-Rebalance-clause-changes : goal.returns-in-Rebalance-clause-changes
returns-in-Rebalance-clause-changes c = rw c.in-Rebalance.is c.rebalance.ensures.done

pub returns-in-Rebalance-clause-refuses : goal.returns-in-Rebalance-clause-refuses
returns-in-Rebalance-clause-refuses c = rw c.in-Rebalance.is c.rebalance.ensures.none

pub returns-in_default-clause-changes : goal.returns-in_default-clause-changes
returns-in_default-clause-changes c = λ none. still c.args.order.now c.args.links.now _ c.requires c.in_default.not-On c.in_default.not-Link c.in_default.not-Reset c.in_default.not-Rebalance c.in_default.not-Quit c.in_default.not-Leave

pub returns-in-Reset-clause-adds : goal.returns-in-Reset-clause-adds
returns-in-Reset-clause-adds c = reset_adds c.args.links.now (stood c.args.self.now) (stood c.reset_links.new.self) c.reset_links.ensures

pub returns-in-Quit-clause-changes : goal.returns-in-Quit-clause-changes
returns-in-Quit-clause-changes c = rw c.in-Quit.is (λ none. refl)

pub returns-in-Leave-clause-changes : goal.returns-in-Leave-clause-changes
returns-in-Leave-clause-changes c = rw c.in-Leave.is (λ none. c.leave.ensures)
