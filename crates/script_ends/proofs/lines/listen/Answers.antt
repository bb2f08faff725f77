use Rattle.std.proofs.Common.{ap, length, arith}
use Rattle.std.proofs.lemmas.List.{length-drop}
use Rattle.plain_laws.proofs.Lists.{tail_is as all_left}
use Rattle.script_ends.proofs.LineAnswers.{listens_more, listens_end, there_taken}
use Rattle.script_ends.proofs.lines.listen.Goals as goal

pub loop-from-preserved : goal.loop-from-preserved
loop-from-preserved c =
    let octets = c.args.octets.now in
    let from = c.loop-from.from in
    record {
      there = there_taken c.args.link c.in_ok-from.field-0 _ _ _ c.in_ok-from.ensures;
      within = omega (arith, c.in_ok-from.ensures.few, ap length (all_left from octets), length-drop from octets, c.loop-from.invariant.within);
      listens = λ d others.
          c.loop-from.invariant.listens d
          (listens_more c.args.link _ _ d octets _ from c.in_ok-from.field-0 (all_left from octets) c.in_ok-from.ensures others);
    }

pub returns : goal.returns
returns c = c.loop-from.invariant.listens _ (listens_end c.args.link _ c.args.octets.now c.loop-from.from c.loop-from-test.false)
