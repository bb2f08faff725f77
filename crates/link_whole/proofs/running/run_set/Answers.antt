use Rattle.std.proofs.Common.{◌≤◌, subst}
use Rattle.plain_laws.specs.Limits.{MOST_JOURNAL}
use Rattle.link_whole.proofs.Whole.{ran_as_read}
use Rattle.link_whole.proofs.running.run_set.Goals as goal

pub returns : goal.returns
returns c b is_set =
    ran_as_read c.schedules_run_as_read.ensures b c.args.set.now c.args.limits c.args.steps.now c.in_ok-book.book c.run_schedule.new.book c.in_ok-replies.replies.items is_set
    c.draft-valid.ensures.valid (subst (λ n. n ≤ MOST_JOURNAL) c.journal-few.ensures.value c.journal-few.ensures.most) c.in_ok-book.ensures
    c.in_ok-replies.ensures.replies c.in_ok-replies.ensures.book
