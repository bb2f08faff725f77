use Rattle.std.proofs.Common.{refl, arith}
use Rattle.actor_book.proofs.Leasts.{made_not_idle, blocked_not_idle, search_starts, search_ends, search_goes_on, none_found}
use Rattle.actor_book.proofs.turn.one_turn.Goals as goal

pub loop-actor-init : goal.loop-actor-init
loop-actor-init c = (refl, search_starts c.args.book.now)

pub returns-in-Made-clause-turn : goal.returns-in-Made-clause-turn
returns-in-Made-clause-turn c =
    (search_ends c.args.book.now c.loop-actor.book c.try_actor.new.book c.loop-actor.actor _ c.loop-actor.invariant.0 (omega (arith, c.actors_in-actor-end.ensures, c.loop-actor-test.true)) c.loop-actor.invariant.1
    c.in-Made.ensures.turn made_not_idle c.in-Made.ensures.book).0

pub returns-in-Made-clause-book : goal.returns-in-Made-clause-book
returns-in-Made-clause-book c =
    (search_ends c.args.book.now c.loop-actor.book c.try_actor.new.book c.loop-actor.actor _ c.loop-actor.invariant.0 (omega (arith, c.actors_in-actor-end.ensures, c.loop-actor-test.true)) c.loop-actor.invariant.1
    c.in-Made.ensures.turn made_not_idle c.in-Made.ensures.book).1

pub returns-in-Blocked-clause-turn : goal.returns-in-Blocked-clause-turn
returns-in-Blocked-clause-turn c =
    (search_ends c.args.book.now c.loop-actor.book c.try_actor.new.book c.loop-actor.actor _ c.loop-actor.invariant.0 (omega (arith, c.actors_in-actor-end.ensures, c.loop-actor-test.true)) c.loop-actor.invariant.1
    c.in-Blocked.ensures.turn blocked_not_idle c.in-Blocked.ensures.book).0

pub returns-in-Blocked-clause-book : goal.returns-in-Blocked-clause-book
returns-in-Blocked-clause-book c =
    (search_ends c.args.book.now c.loop-actor.book c.try_actor.new.book c.loop-actor.actor _ c.loop-actor.invariant.0 (omega (arith, c.actors_in-actor-end.ensures, c.loop-actor-test.true)) c.loop-actor.invariant.1
    c.in-Blocked.ensures.turn blocked_not_idle c.in-Blocked.ensures.book).1

pub loop-actor-preserved : goal.loop-actor-preserved
loop-actor-preserved c =
    search_goes_on c.args.book.now c.loop-actor.book c.try_actor.new.book c.loop-actor.actor c.loop-actor.invariant.0 (omega (arith, c.actors_in-actor-end.ensures, c.loop-actor-test.true)) c.loop-actor.invariant.1
    c.in-Idle.ensures.turn c.in-Idle.ensures.book

pub returns-clause-turn : goal.returns-clause-turn
returns-clause-turn c = (none_found c.args.book.now c.loop-actor.book c.loop-actor.actor c.loop-actor.invariant.0
    (omega (arith, c.actors_in-actor-end.ensures, c.loop-actor-test.false)) c.loop-actor.invariant.1).0

pub returns-clause-book : goal.returns-clause-book
returns-clause-book c = (none_found c.args.book.now c.loop-actor.book c.loop-actor.actor c.loop-actor.invariant.0
    (omega (arith, c.actors_in-actor-end.ensures, c.loop-actor-test.false)) c.loop-actor.invariant.1).1
