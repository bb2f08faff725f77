use Rattle.std.proofs.Common.{refl, sym, arith, ◌∙◌}
use Rattle.line_play.proofs.Waiting.{counted_more, counted_all}
use Rattle.line_play.proofs.set.queue.Queue.count.Goals as goal

pub loop-place-init : goal.loop-place-init
loop-place-init c = refl

pub loop-place-preserved : goal.loop-place-preserved
loop-place-preserved c =
    omega (
      arith,
      c.saturating_add-count.ensures,
      counted_more c.args.selection _ c.loop-place.place _ _ c.len-place-end.result (c.len-place-end.ensures ∙ c.args.self.now.waiting.ok.0) c.loop-place-test.true c.loop-place.invariant c.one_at.ensures,
    )

pub returns : goal.returns
returns c =
    counted_all c.args.selection _ c.loop-place.place _ c.len-place-end.result (c.len-place-end.ensures ∙ c.args.self.now.waiting.ok.0) (omega arith) c.loop-place.invariant
