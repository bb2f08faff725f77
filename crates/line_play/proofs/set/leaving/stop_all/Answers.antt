use Rattle.std.proofs.Common.{◌∙◌, ap}
use Rattle.line_play.specs.SetGiven.{first_links}
use Rattle.line_play.proofs.SetLeaving.{stopped}
use Rattle.line_play.proofs.set.leaving.stop_all.Goals as goal

pub returns : goal.returns
returns c =
    stopped c.args.tender.now c.obey_links.new.tender _ _ (c.as_slice.ensures.value ∙ (c.in_ok-links.ensures ∙ ap first_links c.len.ensures))
    c.in_ok-_refused.ensures.adds c.in_ok-_refused.ensures.tries
