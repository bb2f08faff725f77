use Rattle.std.proofs.Common.{sym, subst}
use Rattle.link_group.specs.Lines.{ByCommand, IsCommandError}
use Rattle.line_tending.specs.Tended.{Tended}
use Rattle.line_tending.proofs.Acting.{on_ok_so}
use Rattle.line_tending.proofs.Giving.{left_by, only_memory}
use Rattle.line_tending.proofs.tended_set.TendedSet.give.Goals as goal

pub returns-in-Ok-clause-ok : goal.returns-in-Ok-clause-ok
returns-in-Ok-clause-ok c =
    on_ok_so c.tell_unsure.result
    (subst (λ (t : Tended). ByCommand c.args.command c.args.link c.args.self.now.set t.set) (sym c.tell_unsure.ensures.same) c.in-Ok.ensures.ok)

pub returns-in-Ok-clause-err : goal.returns-in-Ok-clause-err
returns-in-Ok-clause-err c =
    only_memory (IsCommandError c.args.command c.args.link c.args.self.now.set c.tell_unsure.new.self.set) c.tell_unsure.result
    c.tell_unsure.ensures.memory

pub returns-in-Err-clause-err : goal.returns-in-Err-clause-err
returns-in-Err-clause-err c = left_by (IsCommandError c.args.command c.args.link c.args.self.now.set c.order.new.self.set) c.in-Err.error c.in-Err.ensures.err
