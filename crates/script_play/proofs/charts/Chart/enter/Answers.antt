use Rattle.std.proofs.Common.{refl, sym, ap, ◌∙◌}
use Rattle.script_play.specs.Charted.{takes_part}
use Rattle.script_play.proofs.Charting.{entered_already, entered_new, nobody}
use Rattle.script_play.proofs.charts.Chart.enter.Goals as goal

pub returns-then-has : goal.returns-then-has
returns-then-has c = record {
  actors = entered_already c.args.self.now.actors.items c.args.actor
      (ap (λ xs. takes_part xs c.args.actor) (sym c.deref.ensures.value) ∙ (sym c.has.ensures ∙ c.if-has.true));
  environment = nobody c.args.self.now.environment;
  rows = refl;
  clock = refl;
  cut = refl;
}

pub returns : goal.returns
returns c = record {
  actors = λ x. ap (λ xs. takes_part xs x) c.in_ok-push.ensures.items ∙ entered_new c.args.self.now.actors.items c.args.actor x;
  environment = nobody c.args.self.now.environment;
  rows = refl;
  clock = refl;
  cut = refl;
}
