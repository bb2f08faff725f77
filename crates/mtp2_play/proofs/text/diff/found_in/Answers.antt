use Rattle.mtp2_play.proofs.Comparing.{found_as}
use Rattle.mtp2_play.proofs.text.diff.found_in.Goals as goal

pub returns : goal.returns
returns c =
    found_as c.args.old.now c.args.new.now _ _ c.in_ok-found.found c.draft.ensures.value c.draft-2.ensures.value c.in_ok-found.ensures.items
    c.in_ok-found.ensures.old c.in_ok-found.ensures.new
