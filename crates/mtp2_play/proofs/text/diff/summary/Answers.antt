use Rattle.std.specs.Prelude.{string_bytes}
use Rattle.mtp2_play.proofs.Comparing.{summed}
use Rattle.mtp2_play.proofs.text.diff.summary.Goals as goal

pub returns : goal.returns
returns c =
    summed c.args.old.now c.args.new.now (string_bytes c.in_ok-before.before) (string_bytes c.in_ok-after.after) c.deref.result.now c.deref-2.result.now
    (string_bytes c.in_ok-text.text) (string_bytes c.in_ok-line.line) c.deref-3.result.now _ c.in_ok-before.ensures c.in_ok-after.ensures c.in_ok-text.ensures
    c.deref.ensures c.deref-2.ensures c.in_ok-line.ensures c.deref-3.ensures c.in_ok-push_str.ensures.bytes
