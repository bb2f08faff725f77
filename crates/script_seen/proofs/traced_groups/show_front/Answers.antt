use Rattle.std.proofs.Common.{sym, ◌∙◌}
use Rattle.script_seen.proofs.Tracings.{no_front, own_front}
use Rattle.script_seen.proofs.traced_groups.show_front.Goals as goal

pub returns-then-only_asks : goal.returns-then-only_asks
returns-then-only_asks g c = no_front _ _ _ _ (sym c.only_asks.ensures ∙ c.if-only_asks.true)

pub returns : goal.returns
returns g c = own_front _ _ _ _ _ _ (sym c.only_asks.ensures ∙ c.if-only_asks.false) c.show_line.ensures
