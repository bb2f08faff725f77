use Rattle.std.proofs.Common.{ap, ◌∙◌}
use Rattle.link_group.specs.Set.{LinkSet}
use Rattle.line_tending.specs.Readers.{is_busy}
use Rattle.line_play.proofs.SetExposing.{exposed}
use Rattle.line_play.proofs.set.desk.SetDesk.exposition.Goals as goal

pub returns : goal.returns
returns g c =
    exposed c.args.self.now.state.tender _ _ _ _ _ _ _ _ _ c.new-text.ensures.bytes c.in_ok-put_links.ensures
    (c.unsure-unsure.ensures ∙ ap (λ (s : LinkSet). s.unsure) c.set.ensures) c.in_ok-put_unsure.ensures c.messages-waiting.ensures c.in_ok-put_waiting.ensures
    (c.is_busy-away.ensures ∙ ap is_busy c.reader.ensures) c.in_ok-put_away.ensures
