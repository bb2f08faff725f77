use Rattle.std.proofs.KnownBytes.{Appends-kept}
use Rattle.line_filter.proofs.Beginning.{written_within, written_more, written_part}
use Rattle.line_filter.proofs.writing.write_part.Goals as goal
use Rattle.line_filter.proofs.writing.write_part.Goals.{in-Ok, in-Err+else-ne}

pub returns-in-Ok-eq0-clause-part : goal.returns-in-Ok-eq0-clause-part
returns-in-Ok-eq0-clause-part g c =
    written_part _ _ _ _ (written_more _ _ _ c.args.octets.now c.loop-write.gone _ c.loop-write.invariant.written c.in-Ok-eq0.ensures.bytes)

pub returns-then-ne-clause-part : goal.returns-then-ne-clause-part
returns-then-ne-clause-part g c = written_part _ _ _ c.loop-write.gone (Appends-kept _ _ _ _ c.loop-write.invariant.written c.in-Err.ensures.bytes)

pub loop-write-preserved : goal.loop-write-preserved
loop-write-preserved g c = elim c.match-write.branch [
  | in-Ok w ↦
      rw (w.gone-is)
      (record {
        within = written_within c.args.octets.now c.loop-write.gone _ c.loop-write.invariant.within w.in-Ok.ensures.bound;
        written = written_more _ _ _ c.args.octets.now c.loop-write.gone _ c.loop-write.invariant.written w.in-Ok.ensures.bytes;
      })
  | in-Err+else-ne w ↦
      rw (w.gone-is)
      (record { within = c.loop-write.invariant.within; written = Appends-kept _ _ _ _ c.loop-write.invariant.written w.in-Err.ensures.bytes })
]

pub returns-clause-part : goal.returns-clause-part
returns-clause-part g c = written_part _ _ _ c.loop-write.gone c.loop-write.invariant.written
