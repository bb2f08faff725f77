use Rattle.std.proofs.Common.{ℕ, List, ◌++◌, codes, map, ap, subst, ◌∙◌, arith}
use Rattle.std.specs.Io.KnownBytes.{Appends}
use Rattle.script_lines.specs.Lines.{texts, plain_line}
use Rattle.plain_text.specs.Lines.{line_of}
use Rattle.script_seen.specs.Shown.{parted}
use Rattle.script_seen.proofs.Showings.{found_in}
use Rattle.script_seen.proofs.fronts.show_line.Goals as goal

pub returns : goal.returns
returns g c =
    let B : List ℕ → Type 0 = λ bs. Appends (g.W.Write.contents c.args.writer.now) (g.W.Write.contents c.write_all.new.self) bs in (
      c.in_ok-front.front.items,
      record {
        place = c.args.place;
        line = plain_line c.in-Some.line.now;
        there = found_in plain_line c.args.lines.now c.args.place c.in-Some.line.now c.in-Some.ensures.lookup.3.0 c.in-Some.ensures.lookup.1;
        numbered = omega (arith, c.if-line-number.false);
        shown = c.in_ok-front.ensures ∙ ap (λ ws. line_of (codes "> " ++ parted (texts ws))) c.deref.ensures.value;
      },
      subst B c.deref-2.ensures.value c.in_ok-write_all.ensures.bytes,
    )
