use Rattle.mtp2_play.proofs.Comparing.{alike_of, differ_of}
use Rattle.mtp2_play.proofs.text.diff.compare_sides.Goals as goal

pub returns-in-Ok-write_difference-clause-alike : goal.returns-in-Ok-write_difference-clause-alike
returns-in-Ok-write_difference-clause-alike g c = λ none.
    alike_of c.args.old.now.set c.args.new.now.set c.in-Ok.found c.in-Ok.ensures (c.status_of.ensures.alike none)

pub returns-in-Ok-write_difference-clause-differ : goal.returns-in-Ok-write_difference-clause-differ
returns-in-Ok-write_difference-clause-differ g c = λ some.
    differ_of c.args.old.now.set c.args.new.now.set c.in-Ok.found c.in-Ok.ensures (c.status_of.ensures.differ some)
