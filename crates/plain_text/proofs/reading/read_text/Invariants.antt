-- The bytes read so far were kept and checked.
use Rattle.plain_text.proofs.SoFar.{SoFar}
use Rattle.plain_text.proofs.reading.read_text.Given as goal

abbrev pub invariant-loop : goal.invariant-loop
invariant-loop g l = SoFar (g.R.Read.remaining l.initial.reader) (g.R.Read.remaining l.reader) l.kept.items l.check
