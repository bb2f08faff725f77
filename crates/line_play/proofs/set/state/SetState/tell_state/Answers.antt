use Rattle.std.proofs.Common.{sym, ap, option_map, ◌∙◌}
use Rattle.line_play.specs.SetDoing.{stood}
use Rattle.line_play.specs.SetShowing.{state_text}
use Rattle.line_play.proofs.SetTelling.{told_there, told_nowhere}
use Rattle.line_play.proofs.set.state.SetState.tell_state.Goals as goal

pub returns-in-Some : goal.returns-in-Some
returns-in-Some g c =
    told_there c.say_state.result _ _ (stood c.args.self.now) (state_text c.args.process.now c.args.link) c.in-Some.line.items c.as_slice.result.now _
    (ap (option_map (λ v. v.items)) (sym c.in-Some.is) ∙ c.in_ok-line.ensures) c.as_slice.ensures.value c.say_state.ensures

pub returns-in-None : goal.returns-in-None
returns-in-None g c =
    told_nowhere _ (stood c.args.self.now) (state_text c.args.process.now c.args.link) _ (ap (option_map (λ v. v.items)) (sym c.in-None.is) ∙ c.in_ok-line.ensures)
