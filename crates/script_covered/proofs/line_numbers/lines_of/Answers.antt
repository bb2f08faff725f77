use Rattle.std.proofs.Common.{◌+◌, get_or, refl, arith}
use Rattle.script_covered.proofs.Printing.{line_more, lines_so_more, lines_are}
use Rattle.script_covered.proofs.line_numbers.lines_of.Goals as goal

pub loop-octet-preserved : goal.loop-octet-preserved
loop-octet-preserved c =
    let text = c.args.text.now in
    let i = c.loop-octet.octet-index in
    record {
      line = line_more text i (get_or text i 0) c.loop-octet.line c.in_ok-line.line c.loop-octet-test.true refl c.loop-octet.invariant.line c.in_ok-line.ensures;
      so = lines_so_more text c.loop-octet.lines.items c.push.new.self.items i c.loop-octet.line c.in_ok-push.ensures.items c.loop-octet.invariant.line c.loop-octet.invariant.so;
    }

pub returns : goal.returns
returns c =
    let text = c.args.text.now in
    let i = c.loop-octet.octet-index in
    lines_are text c.push-2.new.self.items (i + 1) (omega (arith, c.loop-octet-test.false, c.loop-octet.auto.octet-index-end))
    (lines_so_more text c.loop-octet.lines.items c.push-2.new.self.items i c.loop-octet.line c.in_ok-push-2.ensures.items c.loop-octet.invariant.line c.loop-octet.invariant.so)
