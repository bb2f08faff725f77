use Rattle.std.proofs.Common.{refl, ◌∙◌}
use Rattle.line_play.proofs.SetOrders.{other_word}
use Rattle.line_play.proofs.set.orders.word_in.Goals as goal

pub returns-in-measure : goal.returns-in-measure
returns-in-measure c = rw c.in-measure.is refl

pub returns-in-table : goal.returns-in-table
returns-in-table c = rw c.in-table.is refl

pub returns-in-held : goal.returns-in-held
returns-in-held c = rw c.in-held.is refl

pub returns-in-unsure : goal.returns-in-unsure
returns-in-unsure c = rw c.in-unsure.is refl

pub returns-in-rebalance : goal.returns-in-rebalance
returns-in-rebalance c = rw c.in-rebalance.is refl

pub returns-in-reopen : goal.returns-in-reopen
returns-in-reopen c = rw c.in-reopen.is refl

pub returns-in-quit : goal.returns-in-quit
returns-in-quit c = rw c.in-quit.is refl

pub returns-in-leave : goal.returns-in-leave
returns-in-leave c = rw c.in-leave.is refl

pub returns-in_default : goal.returns-in_default
returns-in_default c =
    c.link_order.ensures
    ∙ other_word c.args.word.now c.in_default.not-measure c.in_default.not-table c.in_default.not-held c.in_default.not-unsure c.in_default.not-rebalance c.in_default.not-reopen c.in_default.not-quit c.in_default.not-leave
