use Rattle.script_ends.proofs.TermAnswers.{full_by, hearing_begun, hearing_on}
use Rattle.plain_laws.proofs.Lists.{tail_is as all_left}
use Rattle.script_ends.proofs.hearing.hear.Goals as goal

pub loop-from-init : goal.loop-from-init
loop-from-init c t begun = begun

pub loop-from-preserved : goal.loop-from-preserved
loop-from-preserved c t begun =
    hearing_on t c.loop-from.terminal c.drop_reports.new.terminal c.line_in-taken.new.self c.args.octets.now _ c.loop-from.from c.line_in-taken.result
    (c.loop-from.invariant t begun) c.loop-from-test.true (full_by _ c.loop-from.terminal c.has_room.ensures c.if-has_room.false) c.drop_reports.ensures
    (all_left c.loop-from.from c.args.octets.now) c.line_in-taken.ensures.few c.line_in-taken.ensures.heard

pub returns : goal.returns
returns c =
    let begun =
    hearing_begun c.args.terminal.now c.line_in-from.new.self c.args.octets.now c.line_in-from.result c.line_in-from.ensures.few c.line_in-from.ensures.heard in
    (c.loop-from.invariant c.args.terminal.now begun).all c.loop-from-test.false
