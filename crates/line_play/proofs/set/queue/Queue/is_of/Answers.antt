use Rattle.std.proofs.Common.{refl, ap, ◌==◌, ◌∙◌}
use Rattle.line_play.specs.SetQueues.{selection_in}
use Rattle.line_play.proofs.Waiting.{is_there, is_nowhere}
use Rattle.line_play.proofs.set.queue.Queue.is_of.Goals as goal

pub returns-in-Some : goal.returns-in-Some
returns-in-Some c =
    ap (λ n. n == c.args.wanted) (c.selection.ensures.value ∙ ap selection_in c.as_slice.ensures.value)
    ∙ is_there c.args.wanted _ c.args.place c.in-Some.waiting.now _ c.args.self.now.waiting.ok.0 (c.in-Some.ensures.variant.0 refl) c.in-Some.ensures.lookup

pub returns-in-None : goal.returns-in-None
returns-in-None c = is_nowhere c.args.wanted _ c.args.place _ c.args.self.now.waiting.ok.0 c.in-None.ensures.variant.1
