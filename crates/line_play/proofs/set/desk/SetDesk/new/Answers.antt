use Rattle.std.proofs.Common.{refl}
use Rattle.line_play.proofs.SetDesks.{all_wires, all_counts}
use Rattle.line_play.proofs.set.desk.SetDesk.new.Goals as goal

pub returns : goal.returns
returns g c = record {
  set = refl;
  wires = all_wires _ _ _ c.len.ensures c.in_ok-wires.ensures.wires;
  ahead_is = refl;
  focus = refl;
  since = all_counts _ _ _ c.len.ensures c.in_ok-wires.ensures.counts;
  stays = refl;
  none_wait = c.new-2.ensures;
  orders_are = refl;
  reports_are = refl;
}
