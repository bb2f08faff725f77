use Rattle.std.proofs.Common.{◌∙◌, sym, ap, subst}
use Rattle.std.specs.Prelude.{sum_by}
use Rattle.sdl_ast.specs.declared.tree.Decision.{out-Decision}
use Rattle.sdl_sound.specs.Decisions.{names_value}
use Rattle.sdl_scopes.specs.Times.{Counted}
use Rattle.sdl_scopes.proofs.Answered.{times_named-before}
use Rattle.sdl_scopes.proofs.decisions.times_named.Goals as goal

pub returns : goal.returns
returns c =
    let d = out-Decision c.args.decision.now in
    subst (Counted c.named_in_answers.result)
    (ap (sum_by (λ a. sum_by (names_value c.args.value) a.ranges.items)) c.deref.ensures.value
    ∙ sym (times_named-before c.args.value d.answers.items d.otherwise))
    c.named_in_answers.ensures
