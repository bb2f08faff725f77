use Rattle.std.proofs.Common.{refl}
use Rattle.std.specs.Prelude.{string_bytes}
use Rattle.line_filter.specs.Streams.{left_in, behind_of}
use Rattle.line_filter.proofs.Leaving.{taken, held}
use Rattle.line_filter.proofs.lines.OrderLines.take_due.Goals as goal

pub returns-clause-due : goal.returns-clause-due
unfolding left_in
returns-clause-due c =
    taken string_bytes c.args.self.now.since c.args.now (behind_of c.args.self.now) c.args.self.now.waiting c.take.result c.take.new.self c.take.ensures.value
    c.take.ensures.after c.if-now-self.false

pub returns-then-now-self-clause-none : goal.returns-then-now-self-clause-none
returns-then-now-self-clause-none c _ = (held c.args.self.now c.args.now c.requires c.if-now-self.true, refl)
