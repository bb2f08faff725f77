use Rattle.turn_check.specs.Seen.{seen}
use Rattle.turn_machine.proofs.Jobs.{safe_in, ends_in}
use Rattle.turn_machine.proofs.ending.run_in.Goals as goal

pub run_code-requires : goal.run_code-requires
run_code-requires c =
    safe_in c.args.verified.now c.args.process.0 c.args.place c.args.input_number c.args.input.now (seen c.in-Some.transition) c.as_slice.result.now
    c.sorts.result c.safe_law.ensures c.draft.ensures.valid c.in-Some.ensures c.requires c.as_slice.ensures c.sorts.ensures

pub returns : goal.returns
returns c =
    ends_in c.args.verified.now c.args.process.0 c.args.place c.args.input_number c.args.input.now (seen c.in-Some.transition) c.as_slice.result.now
    c.run_code.result c.run_code.new.machine c.in-Some.ensures c.as_slice.ensures c.run_code.ensures.ran c.run_code.ensures.within c.run_code.ensures.few
