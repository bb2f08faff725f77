use Rattle.std.proofs.Common.{sym, ap, ◌∙◌}
use Rattle.std.specs.Prelude.{option_copied}
use Rattle.line_play.specs.SetSeries.{plain_series}
use Rattle.line_play.proofs.SetExposing.{sampled, not_sampled}
use Rattle.line_play.proofs.set.state.SetState.put_sample.Goals as goal

pub returns-in-Some : goal.returns-in-Some
returns-in-Some c =
    sampled c.put_value.result _ _ (plain_series c.args.series) c.args.self.now.tender c.args.link _ _ (ap option_copied (sym c.in-Some.is) ∙ c.terminal.ensures) c.put_value.ensures

pub returns-in-None : goal.returns-in-None
returns-in-None c =
    not_sampled _ (plain_series c.args.series) c.args.self.now.tender c.args.link _ (ap option_copied (sym c.in-None.is) ∙ c.terminal.ensures)
