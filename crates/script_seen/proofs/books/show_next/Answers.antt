use Rattle.std.proofs.Common.{[], Some, length, map, ap, ◌∙◌}
use Rattle.script_lines.specs.Lines.{plain_line}
use Rattle.script_lines.specs.Scripts.{plain_said}
use Rattle.script_seen.proofs.Showings.{has_front}
use Rattle.script_seen.proofs.ShownRuns.{book_goes, book_misses}
use Rattle.script_seen.proofs.books.show_next.Goals as goal

pub returns-clause-goes : goal.returns-clause-goes
returns-clause-goes g c on b before first s =
    book_goes (map plain_line c.args.lines.now) b before (plain_said c.args.said.now) first _ _ _ _ _ _ _ _ _ s
    (has_front _ _ _ _ c.in_ok-show_line.ensures) _ _ (c.length_of-before.ensures ∙ ap length c.as_slice.ensures.value) c.as_slice-2.ensures.value c.in_ok-write_behind.ensures (c.in_ok-on.ensures.goes on b before (Some []) s.1)

pub returns-clause-missed : goal.returns-clause-missed
returns-clause-missed g c off b before first s =
    book_misses (map plain_line c.args.lines.now) b before (plain_said c.args.said.now) first _ _ _ _ _ _ _ s
    (has_front _ _ _ _ c.in_ok-show_line.ensures) _ _ (c.length_of-before.ensures ∙ ap length c.as_slice.ensures.value) c.as_slice-2.ensures.value c.in_ok-write_behind.ensures (c.in_ok-on.ensures.missed off)
