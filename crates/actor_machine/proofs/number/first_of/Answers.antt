use Rattle.std.proofs.Common.{◌≡◌, ℕ, take, refl, ap, ◌∙◌, arith}
use Rattle.actor_machine.specs.NameLaws.{instances_in}
use Rattle.actor_machine.proofs.Counting.{process_more, first_number}
use Rattle.actor_machine.proofs.number.first_of.Goals as goal

pub loop-number-init : goal.loop-number-init
loop-number-init c = (refl, omega arith)

pub loop-number-preserved : goal.loop-number-preserved
loop-number-preserved c =
    let more = process_more c.args.set.now.processes c.loop-number.number (omega (arith, c.requires, c.loop-number-test.true)) in
    (omega (arith, more, c.instances.ensures.value, c.loop-number.invariant.0), omega (arith, c.instances.ensures.most, c.loop-number.invariant.1))

pub returns-clause-number : goal.returns-clause-number
returns-clause-number c =
    let same : c.loop-number.number ≡ c.args.process.0 = omega (arith, c.loop-number.auto.number-end, c.loop-number-test.false) in
    first_number c.args.set.now c.draft-valid.ensures.valid c.args.process.0 c.loop-number.count c.requires
    (c.loop-number.invariant.0 ∙ ap (λ (k : ℕ). instances_in (take k c.args.set.now.processes)) same)

pub returns-clause-few : goal.returns-clause-few
returns-clause-few c = omega (arith, c.loop-number.invariant.1, c.loop-number.auto.number-end, c.loop-number-test.false)
