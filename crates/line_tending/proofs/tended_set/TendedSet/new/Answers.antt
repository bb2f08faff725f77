use Rattle.std.proofs.Common.{ap, replicate}
use Rattle.line_tending.specs.Telling.{reports_in, news_in}
use Rattle.line_tending.proofs.Doing.{new_tended}
use Rattle.line_tending.proofs.tended_set.TendedSet.new.Goals as goal

pub returns : goal.returns
returns c =
    new_tended c.args.ends c.args.tests c.args.set c.len-links.result (reports_in c.new.result.items) (news_in c.new.result.items) _ c.admit_all.new.self c.len-links.ensures (ap reports_in c.new.ensures.items) (ap news_in c.new.ensures.items)
    (ap (replicate 16) c.new-4.ensures)
    c.admit_all.ensures
