use Rattle.line_filter.specs.declared.reports.Wait.TheVariants.{Never}
use Rattle.line_play.proofs.SetTelling.{told_as}
use Rattle.line_play.proofs.set.state.say_of.Goals as goal

pub returns : goal.returns
returns g c = told_as c.tell.result _ _ Never _ _ _ _ c.now.ensures c.as_str.ensures.value c.tell.ensures
