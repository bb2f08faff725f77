use Rattle.std.proofs.Common.{rules, w32, SFits, to_z-of_z, sym, ap, ◌∙◌}
use Rattle.resend_store.specs.Limits.{N1 as MOST_N1}
use Rattle.resend_store.specs.Messages.{usual_limits}
use Rattle.mtp2_text.specs.TextLimits.{in_range, own_or}
use Rattle.mtp2_text.proofs.limits.TextLimits.own_messages.Goals as goal

pub returns-in-Some : goal.returns-in-Some
returns-in-Some c =
    let fits : SFits w32 c.in-Some.number = search rules in
    c.messages_in.ensures ∙ (ap (in_range 1 MOST_N1) (to_z-of_z fits) ∙ ap (own_or 1 MOST_N1 usual_limits.messages) (sym c.in-Some.is))
