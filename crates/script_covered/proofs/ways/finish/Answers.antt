use Rattle.script_covered.proofs.Walking.{end_taken, none_taken}
use Rattle.script_covered.proofs.ways.finish.Goals as goal

pub returns-in-Some : goal.returns-in-Some
returns-in-Some c = λ ids vs. end_taken ids c.args.end c.in-Some.place vs c.args.counts.now c.take_at.new.self c.in-Some.ensures c.take_at.ensures

pub returns-in-None : goal.returns-in-None
returns-in-None c = λ ids vs. none_taken ids c.args.end vs c.args.counts.now c.in-None.ensures
