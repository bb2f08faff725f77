use Rattle.std.proofs.Common.{◌∙◌, sym}
use Rattle.std.proofs.lemmas.Result.{IfOk-weaker}
use Rattle.script_point.proofs.pointing.point_out.Goals as goal

pub returns : goal.returns
returns c =
    IfOk-weaker c.show.result _ _
    (λ v h. record {
      tokens = c.deref.result.now;
      are_all = λ ts a. c.in_ok-tokens.ensures ts a ∙ sym c.deref.ensures.value;
      shown = h;
    }) c.show.ensures
