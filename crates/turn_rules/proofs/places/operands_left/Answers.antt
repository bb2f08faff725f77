use Rattle.std.proofs.Common.{◌≡◌, length, drop, ap, ◌∙◌}
use Rattle.turn_code.specs.Code.{takes}
use Rattle.turn_rules.proofs.Shapes.{rest_is}
use Rattle.turn_rules.proofs.places.operands_left.Goals as goal

pub returns : goal.returns
returns c =
    let taken : c.len-taken.result ≡ length (takes c.args.signals.now c.args.transition.now.process.now.variables c.args.instruction) =
    c.len-taken.ensures.value ∙ ap length c.taken_sorts.ensures
    ∙ ap (λ u. length (takes c.args.signals.now u c.args.instruction)) c.as_slice-variables.ensures in
    rest_is c.args.shape.now c.len-taken.result ∙ ap (λ n. drop n c.args.shape.now) taken
