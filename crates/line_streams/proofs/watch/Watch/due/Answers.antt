use Rattle.std.proofs.Common.{◌<◌, ◌≤◌, length, arith}
use Rattle.line_streams.proofs.Watches.{any_more, none_at_all}
use Rattle.line_streams.proofs.watch.Watch.due.Goals as goal

pub returns-then-may_come-clause-some : goal.returns-then-may_come-clause-some
returns-then-may_come-clause-some c = omega (arith, c.args.self.now.ends.ok.0)

pub loop-place-preserved : goal.loop-place-preserved
loop-place-preserved c =
    let within : c.loop-place.place < length c.args.self.now.ends.items = omega (arith, c.args.self.now.ends.ok.0) in
    any_more c.args.now c.args.self.now.ends.items c.loop-place.place c.may_come.result within (λ d. c.may_come.ensures d within) c.if-may_come.false
    c.loop-place.invariant

pub returns-clause-none : goal.returns-clause-none
returns-clause-none c = λ none.
    let all : length c.args.self.now.ends.items ≤ c.loop-place.place = omega (arith, c.args.self.now.ends.ok.0) in
    none_at_all c.args.now c.args.self.now.ends.items c.loop-place.place all c.loop-place.invariant
