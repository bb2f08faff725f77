use Rattle.std.proofs.Common.{refl, arith}
use Rattle.script_lines.proofs.Parts.{found_there, none_there, past_last}
use Rattle.script_lines.proofs.word.actor_at.Goals as goal

pub returns-then-most-instance : goal.returns-then-most-instance
returns-then-most-instance c =
    past_last c.args.set.now c.args.process.0 c.args.instance (omega (arith, c.if-most-instance.true, c.instances-most.ensures.value))

pub returns-in-Some : goal.returns-in-Some
returns-in-Some c =
    found_there c.args.set.now c.args.process.0 c.args.instance c.number_of.result c.in-Some.number _ c.number_of.ensures c.in-Some.is refl

pub returns-in-None : goal.returns-in-None
returns-in-None c = none_there c.args.set.now c.args.process.0 c.args.instance c.number_of.result c.number_of.ensures c.in-None.is
