use Rattle.std.proofs.Common.{ℕ, List, refl, subst}
use Rattle.line_tending.specs.declared.link_line.LineChange.TheVariants.{Silent, Back}
use Rattle.line_play.specs.LineTraffic.{Grows, given}
use Rattle.line_filter.specs.declared.reports.Wait.TheVariants.{Never}
use Rattle.line_play.proofs.SetTelling.{told_as}
use Rattle.line_play.proofs.SetRounds.{passed_same, passed_told_so}
use Rattle.line_play.proofs.set.round.pass.Goals as goal

pub returns-in-Same : goal.returns-in-Same
returns-in-Same g c =
    passed_same c.args.line.link c.args.line.plan.ahead _ _ _ _ _ _ c.in_ok-passed.passed _ _ _ c.in-Same.is c.in_ok-passed.ensures (subst (λ (xs : List ℕ). Grows (g.L.Lines.traffic c.args.lines.now) (g.L.Lines.traffic c.give_out.new.lines) (given c.args.line.link xs)) c.as_slice.ensures.value c.give_out.ensures)

pub returns-in_ok-format-in-Silent : goal.returns-in_ok-format-in-Silent
returns-in_ok-format-in-Silent g c =
    passed_told_so c.say_of.result c.args.line.link c.args.line.plan.ahead _ _ _ _ _ _ c.in_ok-passed.passed Silent _ _ _ _ c.in-Silent.is c.in_ok-passed.ensures (subst (λ (xs : List ℕ). Grows (g.L.Lines.traffic c.args.lines.now) (g.L.Lines.traffic c.give_out.new.lines) (given c.args.line.link xs)) c.as_slice.ensures.value c.give_out.ensures)
    (told_as c.say_of.result _ _ Never _ _ _ _ refl c.in_ok-format-in-Silent.ensures.ok c.say_of.ensures)

pub returns-in_ok-format-in-Back : goal.returns-in_ok-format-in-Back
returns-in_ok-format-in-Back g c =
    passed_told_so c.say_of-in-Back.result c.args.line.link c.args.line.plan.ahead _ _ _ _ _ _ c.in_ok-passed.passed Back _ _ _ _ c.in-Back.is c.in_ok-passed.ensures (subst (λ (xs : List ℕ). Grows (g.L.Lines.traffic c.args.lines.now) (g.L.Lines.traffic c.give_out.new.lines) (given c.args.line.link xs)) c.as_slice.ensures.value c.give_out.ensures)
    (told_as c.say_of-in-Back.result _ _ Never _ _ _ _ refl c.in_ok-format-in-Back.ensures.ok c.say_of-in-Back.ensures)
