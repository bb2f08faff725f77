use Rattle.std.specs.Prelude.{◌||◌, is_none}
use Rattle.script_play.proofs.Charting.{columns_made}
use Rattle.script_play.proofs.charts.Chart.all_columns.Goals as goal

pub returns : goal.returns
returns c =
    columns_made c.args.set.now c.has_environment.result (c.args.self.now.environment || is_none c.args.self.now.clock) c.deref.result.now
    c.args.self.now.actors.items _ _ c.has_environment.ensures c.deref.ensures.value c.in_ok-columns.ensures c.in_ok-push_columns.ensures
