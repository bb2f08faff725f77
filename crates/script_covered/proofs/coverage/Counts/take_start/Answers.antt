use Rattle.script_covered.proofs.Countings.{start_taken}
use Rattle.script_covered.proofs.coverage.Counts.take_start.Goals as goal

pub returns : goal.returns
returns c = λ xs has.
    start_taken c.process.result.now c.args.process.now c.args.input.now xs c.args.self.now c.take_at.new.self c.pass.new.counts c.process.ensures.process (c.take_at.ensures xs) c.pass.ensures has
