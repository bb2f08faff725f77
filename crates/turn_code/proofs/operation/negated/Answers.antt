use Rattle.std.proofs.Common.{rules, ap, ◌∙◌, SFits, to_z-of_z}
use Rattle.std.proofs.lemmas.Int.{wrapping_neg_is}
use Rattle.std.specs.Int.{w32, int_wrapping_neg}
use Rattle.turn_code.proofs.operation.negated.Goals as goal

pub returns : goal.returns
returns c =
    let fits : SFits w32 c.wrapping_neg.result = search rules in
    to_z-of_z fits ∙ c.wrapping_neg.ensures ∙ ap (int_wrapping_neg w32) (to_z-of_z c.ranges.number)
    ∙ wrapping_neg_is w32 c.args.number c.ranges.number
