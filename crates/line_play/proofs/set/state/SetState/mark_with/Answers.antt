use Rattle.std.proofs.Common.{ap, ◌++◌, ◌∙◌}
use Rattle.line_play.specs.SetDoing.{stood, marked}
use Rattle.line_play.proofs.set.state.SetState.mark_with.Goals as goal

pub returns : goal.returns
returns c = ap (λ m. marked m (stood c.args.self.now)) (c.in_ok-push_str.ensures.bytes ∙ ap (λ m. m ++ c.args.mark.now) c.clear.ensures.bytes)
