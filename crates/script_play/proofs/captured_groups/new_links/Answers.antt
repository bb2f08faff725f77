use Rattle.std.proofs.Common.{◌≡◌, ◌∙◌, rules}
use Rattle.script_play.proofs.SetCaptures.{unseen_begins, unseen_goes_on, unseen_heard}
use Rattle.script_play.proofs.captured_groups.new_links.Goals as goal

pub loop-link-init : goal.loop-link-init
loop-link-init c = unseen_begins c.args.every _ c.new-links.ensures.items

pub loop-link-preserved : goal.loop-link-preserved
loop-link-preserved c = unseen_goes_on c.args.every _ _ _ _ c.in_ok-push.ensures.items c.loop-link.invariant c.new-link.ensures

pub returns : goal.returns
returns c = λ bs many.
    let end : c.args.count ≡ c.loop-link._link = search rules in
    unseen_heard c.args.every c.loop-link._link bs c.loop-link.links.items (many ∙ end) c.loop-link.invariant
