use Rattle.std.proofs.Common.{◌∙◌, sym}
use Rattle.std.specs.Prelude.{string_bytes}
use Rattle.std.proofs.lemmas.Result.{IfOk-weaker}
use Rattle.mtp2_play.proofs.Comparing.{changed_of}
use Rattle.mtp2_play.proofs.text.diff.terminal_line.Goals as goal

pub returns-else-eq : goal.returns-else-eq
returns-else-eq c =
    IfOk-weaker c.changed_line.result _ _ (λ t is. changed_of _ _ (string_bytes t) (sym c.eq.ensures ∙ c.if-eq.false) is) c.changed_line.ensures
