use Rattle.std.proofs.Common.{ℕ, ◌+◌, ◌-◌, Some, sym, ap, ◌∙◌, arith}
use Rattle.actor_machine.proofs.Counting.{is_there, actor_number, below_one, above_all}
use Rattle.actor_machine.proofs.number.number_of.Goals as goal

pub returns-then-instance-lt1 : goal.returns-then-instance-lt1
returns-then-instance-lt1 c = sym (below_one c.args.set.now c.args.name c.if-instance-lt1.true)

pub returns-then-most-wanted : goal.returns-then-most-wanted
returns-then-most-wanted c =
    sym (above_all c.args.set.now c.args.name (omega (arith, c.if-most-wanted.true, c.instances-most.ensures.value, c.from-wanted.ensures)))

pub first_of-requires : goal.first_of-requires
first_of-requires c =
    is_there c.args.set.now c.args.name.process.0 c.args.name.instance.0 (omega (arith, c.if-instance-lt1.false))
    (omega (arith, c.if-most-wanted.false, c.instances-most.ensures.value, c.from-wanted.ensures))

pub returns : goal.returns
returns c =
    ap (λ (k : ℕ). Some (c.first_of.result + k - 1)) c.from.ensures
    ∙ sym (actor_number c.args.set.now c.draft-valid.ensures.valid c.args.name c.first_of.result (omega (arith, c.if-instance-lt1.false))
    (omega (arith, c.if-most-wanted.false, c.instances-most.ensures.value, c.from-wanted.ensures)) c.first_of.ensures.number)
