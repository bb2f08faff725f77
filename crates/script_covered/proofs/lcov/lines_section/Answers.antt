use Rattle.std.proofs.Common.{arith}
use Rattle.script_covered.proofs.Printing.{lines_section_more, lines_section_past}
use Rattle.script_covered.proofs.lcov.lines_section.Goals as goal

pub loop-line-preserved : goal.loop-line-preserved
loop-line-preserved c =
    lines_section_more c.args.seen.now c.loop-line.line _ c.loop-line.section c.push_count.new.section c.loop-line-test.true c.loop-line.invariant c.in_ok-push_count.ensures

pub returns : goal.returns
returns c = lines_section_past c.args.seen.now c.loop-line.line c.loop-line.section (omega arith) c.loop-line.invariant
