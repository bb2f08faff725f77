use Rattle.std.proofs.Common.{refl, arith}
use Rattle.link_term.proofs.Cutting.{heard_from, heard_none}
use Rattle.link_term.proofs.Losing.{took_heard, took_from, took_none}
use Rattle.link_term.proofs.Quiet.{heard_part, heard_of, part_within, one_of, some_taken}
use Rattle.link_term.proofs.Taking.{room_for, taken_from}
use Rattle.link_term.proofs.terminal.Terminal.take_part.Goals as goal

pub take_events-requires : goal.take_events-requires
take_events-requires c =
    room_for c.self.inside.processes c.make_room.new.processes c.feed_until-taken.result.1.items c.as_slice.result.now
    (c.if-not-make_room.ensures.room refl) (c.if-not-make_room.ensures.tidied refl) c.as_slice.ensures.value
    (c.feed_until-taken.ensures.one c.self.invariant.0 c.self.invariant.1)

pub returns-clause-most : goal.returns-clause-most
returns-clause-most c = part_within c.args.octets.now c.next_part.result.now c.feed_until-taken.result.0 c.next_part.ensures.part c.feed_until-taken.ensures.most

pub returns-clause-heard : goal.returns-clause-heard
returns-clause-heard c =
    heard_from c.args.self.now _ _ _ c.self.view_is
    (heard_of _ _ c.args.octets.now c.next_part.result.now c.feed_until-taken.result.0 c.next_part.ensures.part c.feed_until-taken.ensures.most
    (heard_part _ _ c.take_events.new.processes c.next_part.result.now c.feed_until-taken.result.0 c.feed_until-taken.result.1.items c.is_counting.result
    c.next_part.ensures.some c.feed_until-taken.ensures.most
    (one_of c.self.inside.processes c.make_room.new.processes c.next_part.result.now c.feed_until-taken.result.0 (c.if-not-make_room.ensures.tidied refl)
    c.feed_until-taken.ensures.most c.next_part.ensures.one)
    c.feed_until-taken.ensures.all c.feed_until-taken.ensures.stands c.feed_until-taken.ensures.events c.feed_until-taken.ensures.before
    c.is_counting.ensures
    (c.if-not-make_room.ensures.room refl)
    (taken_from c.as_slice.result.now c.feed_until-taken.result.1.items c.make_room.new.processes c.self.inside.processes c.take_events.new.processes
    c.as_slice.ensures.value (c.if-not-make_room.ensures.tidied refl) c.take_events.ensures)
    c.tell_counting.ensures.processes
    refl))

pub returns-then-not-make_room-clause-heard : goal.returns-then-not-make_room-clause-heard
returns-then-not-make_room-clause-heard c =
    heard_none c.args.self.now _ c.make_room.new.processes c.self.view_is (c.if-not-make_room.ensures.left refl)

pub returns-clause-left : goal.returns-clause-left
returns-clause-left c none =
    let least =
    some_taken c.self.inside.line c.self.invariant.0 c.next_part.result.now c.feed_until-taken.result.0 c.feed_until-taken.result.1.items
    c.self.invariant.1 c.next_part.ensures.some c.feed_until-taken.ensures.all c.feed_until-taken.ensures.before in
    let f : ⊥ = omega (arith, none, least) in absurd f

pub returns-clause-stops : goal.returns-clause-stops
returns-clause-stops c none =
    let least =
    some_taken c.self.inside.line c.self.invariant.0 c.next_part.result.now c.feed_until-taken.result.0 c.feed_until-taken.result.1.items
    c.self.invariant.1 c.next_part.ensures.some c.feed_until-taken.ensures.all c.feed_until-taken.ensures.before in
    let f : ⊥ = omega (arith, none, least) in absurd f

pub returns-clause-took : goal.returns-clause-took
returns-clause-took c =
    let part = heard_part _ _ c.take_events.new.processes c.next_part.result.now c.feed_until-taken.result.0 c.feed_until-taken.result.1.items
    c.is_counting.result c.next_part.ensures.some c.feed_until-taken.ensures.most
    (one_of c.self.inside.processes c.make_room.new.processes c.next_part.result.now c.feed_until-taken.result.0 (c.if-not-make_room.ensures.tidied refl)
    c.feed_until-taken.ensures.most c.next_part.ensures.one)
    c.feed_until-taken.ensures.all c.feed_until-taken.ensures.stands c.feed_until-taken.ensures.events c.feed_until-taken.ensures.before
    c.is_counting.ensures
    (c.if-not-make_room.ensures.room refl)
    (taken_from c.as_slice.result.now c.feed_until-taken.result.1.items c.make_room.new.processes c.self.inside.processes c.take_events.new.processes
    c.as_slice.ensures.value (c.if-not-make_room.ensures.tidied refl) c.take_events.ensures)
    c.tell_counting.ensures.processes
    refl in
    took_from c.args.self.now _ _ c.self.view_is (took_heard c.unacknowledged_messages_stay.ensures _ _ c.self.invariant.0 _ c.self.invariant.1 part)

pub returns-then-not-make_room-clause-took : goal.returns-then-not-make_room-clause-took
returns-then-not-make_room-clause-took c =
    took_none c.args.self.now _ c.make_room.new.processes c.self.view_is (c.if-not-make_room.ensures.left refl)
