use Rattle.mtp2_play.proofs.Comparing.{pushed_of}
use Rattle.mtp2_play.proofs.text.diff.changed_line.Goals as goal

pub returns : goal.returns
returns c =
    pushed_of c.args.before.now c.args.after.now _ _ _ _ _ c.in_ok-text.ensures.ok c.in_ok-push_str.ensures.bytes c.in_ok-push_str-2.ensures.bytes
    c.in_ok-push_str-3.ensures.bytes c.in_ok-push_str-4.ensures.bytes
