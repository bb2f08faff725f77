use Rattle.std.proofs.Common.{subst}
use Rattle.group_changeover.specs.declared.changeover.Changeover.{Changeover}
use Rattle.group_changeover.specs.Changeovers.{Says}
use Rattle.link_group.proofs.group.Group.fail.Goals as goal

pub returns-clause-order : goal.returns-clause-order
returns-clause-order c = subst (λ (m : Changeover). Says c.octets.result.items m) c.in_ok-order.ensures.order c.octets.ensures
