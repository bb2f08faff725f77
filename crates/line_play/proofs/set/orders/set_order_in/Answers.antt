use Rattle.std.proofs.Common.{refl, sym}
use Rattle.script_lines.specs.Lines.{texts}
use Rattle.line_play.proofs.SetOrders.{read_send, read_other}
use Rattle.line_play.proofs.set.orders.set_order_in.Goals as goal

pub returns-in-Some : goal.returns-in-Some
returns-in-Some c = read_send c.send_in.result _ (texts c.args.words.now) (sym c.in-Some.ensures) c.send_in.ensures

pub returns-in-None : goal.returns-in-None
returns-in-None c = read_other c.other_in.result _ (texts c.args.words.now) refl (sym c.in-None.ensures) c.other_in.ensures
