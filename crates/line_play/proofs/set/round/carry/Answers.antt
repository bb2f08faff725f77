use Rattle.std.proofs.Common.{refl}
use Rattle.line_play.specs.declared.set.lines.LineNews.TheVariants.{Ended, Failed, Opened, Closed}
use Rattle.line_filter.specs.declared.reports.Wait.TheVariants.{Never}
use Rattle.line_play.proofs.SetTelling.{told_as}
use Rattle.line_play.proofs.SetRounds.{said_so, passed_on, missed, line_ended, line_failed, line_opened}
use Rattle.line_play.proofs.set.round.carry.Goals as goal

pub returns-in-Octets : goal.returns-in-Octets
returns-in-Octets g c =
    passed_on c.pass.result c.args.line.link c.args.line.plan.ahead _ _ _ _ c.take.new.part _ c.in-Octets.count c.take.result _ _ _ _ _ c.take.ensures c.in-Octets.is
    c.front-came.ensures c.pass.ensures

pub returns-in-Closed : goal.returns-in-Closed
returns-in-Closed g c =
    missed c.miss.result c.args.line.link c.args.line.plan.ahead _ _ _ _ _ _ (said_so c.args.line.link c.take.new.part c.take.result Closed _ _ c.in-Closed.is c.take.ensures) c.miss.ensures

pub returns-in_ok-format-in-Ended : goal.returns-in_ok-format-in-Ended
returns-in_ok-format-in-Ended g c =
    line_ended c.say_of.result c.args.line.link c.args.line.plan.ahead _ _ _ _ _ _ (said_so c.args.line.link c.take.new.part c.take.result Ended _ _ c.in-Ended.is c.take.ensures)
    (told_as c.say_of.result _ _ Never _ _ _ _ refl c.in_ok-format-in-Ended.ensures.ok c.say_of.ensures)

pub returns-in_ok-format-in-Failed : goal.returns-in_ok-format-in-Failed
returns-in_ok-format-in-Failed g c =
    line_failed c.say_of-in-Failed.result c.args.line.link c.args.line.plan.ahead _ _ _ _ _ _ (said_so c.args.line.link c.take.new.part c.take.result Failed _ _ c.in-Failed.is c.take.ensures)
    (told_as c.say_of-in-Failed.result _ _ Never _ _ _ _ refl c.in_ok-format-in-Failed.ensures.ok c.say_of-in-Failed.ensures)

pub returns-in_ok-format-in-Opened : goal.returns-in_ok-format-in-Opened
returns-in_ok-format-in-Opened g c =
    line_opened c.say_of-in-Opened.result c.args.line.link c.args.line.plan.ahead _ _ _ _ _ _ _ (said_so c.args.line.link c.take.new.part c.take.result Opened _ _ c.in-Opened.is c.take.ensures) c.go_ahead.ensures
    (told_as c.say_of-in-Opened.result _ _ Never _ _ _ _ refl c.in_ok-format-in-Opened.ensures.ok c.say_of-in-Opened.ensures)
