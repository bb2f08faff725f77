use Rattle.std.proofs.Common.{[], vec_len, refl, arith}
use Rattle.std.specs.Prelude.{vec_capacity}
use Rattle.link_term.proofs.Losing.{spoke_sends}
use Rattle.link_term.proofs.Speaking.{spoke_more, spoke_same, spoken_less, spoken_all, room_left}
use Rattle.link_term.proofs.terminal.Terminal.line_out.Goals as goal

pub loop-gone-preserved : goal.loop-gone-preserved
loop-gone-preserved c = record {
  spoke = spoke_more _ _ _ [] _ _ c.loop-gone._gone c.loop-gone.invariant.spoke c.in-Ok.ensures.ok;
  room = room_left (vec_len c.loop-gone.octets) (vec_capacity c.loop-gone.octets) (vec_len c.put_next-in-loop-gone.new.octets)
      (vec_capacity c.put_next-in-loop-gone.new.octets) c.args.units c.loop-gone._gone c.loop-gone-test.true c.loop-gone.invariant.room
      c.in-Ok.ensures.len c.in-Ok.ensures.capacity;
}

pub returns-in-Err-clause-ok : goal.returns-in-Err-clause-ok
returns-in-Err-clause-ok c =
    spoken_less _ c.loop-gone.self _ c.loop-gone._gone c.args.units c.loop-gone.octets.items _ c.loop-gone.auto._gone c.loop-gone-test.true
    c.loop-gone.invariant.spoke c.in-Err.ensures.err c.in-Err.ensures.same c.in-Err.ensures.low

pub returns-clause-ok : goal.returns-clause-ok
returns-clause-ok c =
    spoken_all _ _ c.loop-gone._gone c.args.units _ (omega (arith, c.loop-gone.auto._gone-end, c.if-units-eq0.false, c.loop-gone-test.false))
    c.loop-gone.invariant.spoke

pub returns-in-Err-clause-sends : goal.returns-in-Err-clause-sends
returns-in-Err-clause-sends c =
    spoke_sends c.unacknowledged_messages_stay.ensures _ _ _ _ c.loop-gone._gone c.args.units (omega (arith, c.loop-gone-test.true))
    (spoke_same _ c.loop-gone.self _ [] c.loop-gone.octets.items c.loop-gone.octets.items c.loop-gone._gone c.in-Err.ensures.err refl
    c.loop-gone.invariant.spoke)

pub returns-clause-sends : goal.returns-clause-sends
returns-clause-sends c =
    spoke_sends c.unacknowledged_messages_stay.ensures _ _ _ _ c.loop-gone._gone c.args.units
    (omega (arith, c.loop-gone.auto._gone-end, c.if-units-eq0.false, c.loop-gone-test.false)) c.loop-gone.invariant.spoke
