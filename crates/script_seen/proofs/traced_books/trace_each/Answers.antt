use Rattle.std.proofs.Common.{map, ◌∙◌}
use Rattle.script_lines.specs.Lines.{plain_line}
use Rattle.script_lines.specs.Scripts.{plain_said}
use Rattle.script_ends.specs.Played.{last_of}
use Rattle.script_seen.proofs.TracedRuns.{book_going_begins, book_goes_on, book_gone, book_missed_at, book_misses_at, book_traced_all, book_traced_part}
use Rattle.script_seen.proofs.traced_books.trace_each.Goals as goal

pub loop-said-init : goal.loop-said-init
loop-said-init g c =
    book_going_begins (map plain_line c.args.lines.now) c.args.player.now.book (last_of c.args.player.now) (g.W.Write.contents c.args.writer.now)
    (g.T.Write.contents c.args.trace.now) c.args.tracer.now

pub loop-said-preserved : goal.loop-said-preserved
loop-said-preserved g c =
    let so_far = c.loop-said.invariant in
    let next = c.in_ok-trace_next.ensures in
    let on = c.if-not-branch.false in
    let b = c.args.player.now.book in
    book_goes_on (map plain_line c.args.lines.now) b c.args.commands.now c.loop-said.said-index c.said-item.result (last_of c.args.player.now) _ _ _ _ _ _ _ _
    c.loop-said-test.true c.said-item.is
    (record {
      run = λ none. next.goes on b _ _ (so_far.run none);
      every = next.every ∙ so_far.every;
      traced = λ none at. next.traced on b _ _ _ (so_far.run none) (so_far.traced none at);
    })

pub returns-then-not-branch-clause-missed : goal.returns-then-not-branch-clause-missed
returns-then-not-branch-clause-missed g c one none =
    book_missed_at c.args.player.now.book c.args.commands.now c.loop-said.said-index c.said-item.result _ _ _ _ _ c.loop-said-test.true c.said-item.is
    (c.loop-said.invariant.run none) (c.in_ok-trace_next.ensures.missed c.if-not-branch.true)

pub returns-then-not-branch-clause-in_part : goal.returns-then-not-branch-clause-in_part
returns-then-not-branch-clause-in_part g c one none at =
    book_traced_part _ (map plain_line c.args.lines.now) c.args.player.now.book c.args.commands.now c.loop-said.said-index c.said-item.result _ _ _ _
    c.loop-said-test.true c.said-item.is c.loop-said.invariant.every (c.in_ok-trace_next.ensures.untraced c.if-not-branch.true)
    (book_misses_at c.args.player.now.book _ _ _ _ _ _ _ (c.loop-said.invariant.run none) (c.in_ok-trace_next.ensures.missed c.if-not-branch.true))
    (c.loop-said.invariant.traced none at)

pub returns-clause-held : goal.returns-clause-held
returns-clause-held g c zero none =
    let gone = book_gone (map plain_line c.args.lines.now) c.args.player.now.book c.args.commands.now c.loop-said.said-index (last_of c.args.player.now) _ _ _ _ _ _ _ _
    c.loop-said-test.false c.loop-said.invariant in
    record { now = _; last = _; run = gone.run none }

pub returns-clause-traced : goal.returns-clause-traced
returns-clause-traced g c zero none at =
    let gone = book_gone (map plain_line c.args.lines.now) c.args.player.now.book c.args.commands.now c.loop-said.said-index (last_of c.args.player.now) _ _ _ _ _ _ _ _
    c.loop-said-test.false c.loop-said.invariant in
    book_traced_all _ (map plain_line c.args.lines.now) c.args.player.now.book (map plain_said c.args.commands.now) _ _ _ gone.every (gone.traced none at)
