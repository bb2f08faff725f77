use Rattle.std.proofs.Common.{sym, ap, ◌∙◌}
use Rattle.line_play.specs.SetDoing.{stood}
use Rattle.line_play.specs.SetGiven.{plain_said, plain_whom, links_of}
use Rattle.line_play.proofs.SetObeying.{lacking, there_so}
use Rattle.line_play.proofs.set.state.SetState.obey_other.Goals as goal

pub returns-then-lacks_links : goal.returns-then-lacks_links
returns-then-lacks_links g c =
    lacking c.refuse.result _ (plain_said c.args.said.now) (stood c.args.self.now) _ _ c.requires (sym c.lacks_links.ensures ∙ c.if-lacks_links.true) c.refuse.ensures

pub returns : goal.returns
returns g c =
    there_so c.obey_there.result _ (plain_said c.args.said.now) _ (stood c.args.self.now) _ _ _ c.requires (sym c.lacks_links.ensures ∙ c.if-lacks_links.false)
    (c.as_slice.ensures.value ∙ (c.in_ok-links.ensures ∙ ap (λ n. links_of (plain_whom c.args.said.now.whom) c.args.self.now.focus n) c.len.ensures)) c.obey_there.ensures
