use Rattle.std.proofs.Common.{ℕ, List, subst}
use Rattle.std.proofs.lemmas.Result.{IfOk-weaker}
use Rattle.draw_sets.specs.Noting.{AreNoted}
use Rattle.mtp2_play.proofs.Comparing.{lines_of}
use Rattle.mtp2_play.proofs.text.diff.way_lines.Goals as goal

pub returns : goal.returns
returns c =
    IfOk-weaker c.noted.result _ _
    (λ v h. subst (λ (ls : List ℕ). AreNoted ls v.items)
    (lines_of c.args.old.now.set c.args.new.now.set c.args.found.now c.new-lines.result.items c.deref.result.now _ c.deref-2.result.now _ c.requires
    c.new-lines.ensures.items c.deref.ensures.value c.in_ok-extend_from_slice.ensures.items c.deref-2.ensures.value c.in_ok-extend_from_slice-2.ensures.items)
    h) c.noted.ensures
