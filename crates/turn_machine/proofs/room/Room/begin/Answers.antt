use Rattle.std.proofs.Common.{sym, refl, subst}
use Rattle.turn_check.specs.Seen.{seen}
use Rattle.turn_machine.specs.Turn.{Turn, IsRunnableBy}
use Rattle.turn_machine.proofs.Jobs.{code_small, job_runs}
use Rattle.turn_machine.proofs.room.Room.begin.Goals as goal

pub become_turn-requires : goal.become_turn-requires
become_turn-requires c =
    code_small c.args.verified.now c.args.head.process.0 c.args.head.place c.args.head.input_number (seen c.in-Some.transition) c.draft.ensures.valid c.in-Some.ensures

pub invariant_of-self : goal.invariant_of-self
invariant_of-self c =
    subst (λ (t : Turn). IsRunnableBy t c.sorts-self-inside.result) (sym c.become_turn.ensures)
    (job_runs c.args.verified.now c.args.head.actor c.args.head.turn c.args.head.process c.args.head.place c.args.head.input_number c.args.input.now (seen c.in-Some.transition)
    c.in-Some.transition.piece.now.code c.sorts-self-inside.result c.draft.ensures.valid c.in-Some.ensures c.requires.fits refl c.sorts-self-inside.ensures)
