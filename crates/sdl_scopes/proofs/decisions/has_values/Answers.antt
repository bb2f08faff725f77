use Rattle.std.proofs.Common.{◌∙◌, sym, ap, length}
use Rattle.std.specs.Prelude.{nat_lt}
use Rattle.std.specs.List.{list_all}
use Rattle.sdl_ast.specs.declared.tree.Decision.{out-Decision}
use Rattle.sdl_scopes.proofs.Answered.{has_values-before}
use Rattle.sdl_scopes.proofs.decisions.has_values.Goals as goal

pub returns : goal.returns
returns c =
    let d = out-Decision c.args.decision.now in
    c.have_values.ensures
    ∙ (ap (list_all (λ a. nat_lt 0 (length a.ranges.items))) c.deref.ensures.value ∙ sym (has_values-before d.answers.items d.otherwise))
