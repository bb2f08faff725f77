use Rattle.std.proofs.Common.{arith}
use Rattle.actor_book.specs.Turns.{rests}
use Rattle.actor_book.proofs.Leasts.{blocked_not_made, idle_not_made, rest_starts, rest_ends, rest_goes_on, rest_is_spent}
use Rattle.turn_pool.proofs.slot_turns.turns_of.Goals as goal

pub loop-turns-init : goal.loop-turns-init
loop-turns-init c = rest_starts c.args.most c.args.book.now

pub returns-in-Blocked-clause-turns : goal.returns-in-Blocked-clause-turns
returns-in-Blocked-clause-turns c =
    (rest_ends c.args.most c.loop-turns.turns c.loop-turns.book c.one_turn.new.book (rests c.args.most c.args.book.now) _ c.loop-turns-test.true c.loop-turns.invariant
    c.in-Blocked.ensures.turn blocked_not_made c.in-Blocked.ensures.book).0

pub returns-in-Blocked-clause-book : goal.returns-in-Blocked-clause-book
returns-in-Blocked-clause-book c =
    (rest_ends c.args.most c.loop-turns.turns c.loop-turns.book c.one_turn.new.book (rests c.args.most c.args.book.now) _ c.loop-turns-test.true c.loop-turns.invariant
    c.in-Blocked.ensures.turn blocked_not_made c.in-Blocked.ensures.book).1

pub returns-in-Idle-clause-turns : goal.returns-in-Idle-clause-turns
returns-in-Idle-clause-turns c =
    (rest_ends c.args.most c.loop-turns.turns c.loop-turns.book c.one_turn.new.book (rests c.args.most c.args.book.now) _ c.loop-turns-test.true c.loop-turns.invariant
    c.in-Idle.ensures.turn idle_not_made c.in-Idle.ensures.book).0

pub returns-in-Idle-clause-book : goal.returns-in-Idle-clause-book
returns-in-Idle-clause-book c =
    (rest_ends c.args.most c.loop-turns.turns c.loop-turns.book c.one_turn.new.book (rests c.args.most c.args.book.now) _ c.loop-turns-test.true c.loop-turns.invariant
    c.in-Idle.ensures.turn idle_not_made c.in-Idle.ensures.book).1

pub loop-turns-preserved : goal.loop-turns-preserved
loop-turns-preserved c =
    rest_goes_on c.args.most c.loop-turns.turns c.loop-turns.book c.one_turn.new.book (rests c.args.most c.args.book.now) c.loop-turns-test.true c.loop-turns.invariant
    c.in-Made.ensures.turn c.in-Made.ensures.book

pub returns-clause-turns : goal.returns-clause-turns
returns-clause-turns c = (rest_is_spent c.args.most c.loop-turns.turns c.loop-turns.book (rests c.args.most c.args.book.now)
    (omega (arith, c.loop-turns.auto.turns-end, c.loop-turns-test.false)) c.loop-turns.invariant).0

pub returns-clause-book : goal.returns-clause-book
returns-clause-book c = (rest_is_spent c.args.most c.loop-turns.turns c.loop-turns.book (rests c.args.most c.args.book.now)
    (omega (arith, c.loop-turns.auto.turns-end, c.loop-turns-test.false)) c.loop-turns.invariant).1
