use Rattle.std.specs.Prelude.{take}
use Rattle.line_play.specs.SetDoing.{stood, Resets}
use Rattle.line_play.proofs.set.state.SetState.reset_links.Given as goal

abbrev pub invariant-loop-link : goal.invariant-loop-link
invariant-loop-link l = Resets (stood l.initial.self) (take l.link-index l.links) (stood l.self)
