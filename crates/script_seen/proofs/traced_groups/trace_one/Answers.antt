use Rattle.script_ends.specs.GroupRuns.{playing_of}
use Rattle.script_seen.specs.TracedGroups.{books_of}
use Rattle.script_seen.proofs.SetTraces.{book_there, followed_one}
use Rattle.script_seen.proofs.traced_groups.trace_one.Goals as goal

pub returns-clause-traced : goal.returns-clause-traced
returns-clause-traced g c d r at =
    let p = playing_of c.args.player.now in
    let b = c.in-Some.book.now in
    followed_one d r (books_of p) c.args.link b c.args.tracer.now _ _ _ _ _ _ c.new-text.ensures.items (book_there p c.args.link b c.in-Some.ensures) at
    c.in_ok-follow.ensures.first c.in_ok-follow.ensures.followed c.in_ok-follow.ensures.in_step c.deref.ensures.value c.in_ok-write_under.ensures

pub returns-clause-every : goal.returns-clause-every
returns-clause-every g c = c.in_ok-follow.ensures.followed.every
