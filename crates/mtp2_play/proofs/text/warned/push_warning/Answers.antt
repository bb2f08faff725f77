use Rattle.std.proofs.Common.{ap, ◌∙◌, ◌++◌}
use Rattle.mtp2_play.proofs.Warnings.{one_told}
use Rattle.mtp2_play.proofs.text.warned.push_warning.Goals as goal

pub returns : goal.returns
returns c =
    one_told c.args.name.now c.args.text.now c.args.tokens.now c.args.warning c.in_ok-lines.lines.items c.in_ok-all.all.items c.args.told.now.items _ c.in_ok-lines.ensures
    (c.in_ok-all.ensures ∙ ap (λ l. c.args.name.now ++ l) c.deref.ensures.value)
    (c.in_ok-extend_from_slice.ensures.items ∙ ap (λ l. c.args.told.now.items ++ l) c.deref-2.ensures.value)
