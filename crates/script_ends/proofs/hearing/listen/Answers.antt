use Rattle.std.proofs.Common.{ap, length, arith}
use Rattle.std.proofs.lemmas.List.{length-drop}
use Rattle.script_ends.proofs.TermAnswers.{part_more, listens_end}
use Rattle.script_ends.proofs.hearing.listen.Goals as goal
use Rattle.plain_laws.proofs.Lists.{tail_is as all_left}

pub loop-from-preserved : goal.loop-from-preserved
loop-from-preserved c =
    let octets = c.args.octets.now in
    let from = c.loop-from.from in
    record {
      within =
          omega (arith, c.line_in-taken.ensures.few, ap length (all_left from octets), length-drop from octets, c.loop-from.invariant.within);
      listens = λ u others.
          c.loop-from.invariant.listens u
          (part_more c.loop-from.terminal c.line_in-taken.new.self c.drop_reports.new.terminal u octets _ from c.line_in-taken.result
          (all_left from octets) c.if-taken-eq0.false c.line_in-taken.ensures.few c.line_in-taken.ensures.heard c.line_in-taken.ensures.stops
          c.drop_reports.ensures others);
    }

pub returns : goal.returns
returns c =
    c.loop-from.invariant.listens _ (listens_end _ c.args.octets.now c.loop-from.from c.loop-from-test.false)
