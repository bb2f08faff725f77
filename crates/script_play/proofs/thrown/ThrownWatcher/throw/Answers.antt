use Rattle.script_play.proofs.Throwing.{counts_throw}
use Rattle.script_play.proofs.thrown.ThrownWatcher.throw.Goals as goal

pub returns : goal.returns
returns c = λ ns known. counts_throw ns (record { me = c.args.me; state = c.args.state; item = c.args.item.now }) c.args.self.now c.count_item.new.self c.in_ok-count_item.ensures known
