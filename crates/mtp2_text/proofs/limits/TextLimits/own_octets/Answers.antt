use Rattle.std.proofs.Common.{rules, w32, SFits, to_z-of_z, sym, ap, ◌∙◌}
use Rattle.resend_store.specs.Limits.{N2 as MOST_N2, LEAST_N2}
use Rattle.resend_store.specs.Messages.{usual_limits}
use Rattle.mtp2_text.specs.TextLimits.{in_range, own_or}
use Rattle.mtp2_text.proofs.limits.TextLimits.own_octets.Goals as goal

pub returns-in-Some : goal.returns-in-Some
returns-in-Some c =
    let fits : SFits w32 c.in-Some.number = search rules in
    c.octets_in.ensures ∙ (ap (in_range LEAST_N2 MOST_N2) (to_z-of_z fits) ∙ ap (own_or LEAST_N2 MOST_N2 usual_limits.octets) (sym c.in-Some.is))
