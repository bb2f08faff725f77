use Rattle.std.proofs.Common.{◌∙◌, sym}
use Rattle.sdl_ast.specs.declared.tree.Decision.{out-Decision}
use Rattle.sdl_scopes.proofs.Answered.{has_else-before}
use Rattle.sdl_scopes.proofs.decisions.has_else.Goals as goal

pub returns : goal.returns
returns c =
    let d = out-Decision c.args.decision.now in
    c.is_some.ensures ∙ sym (has_else-before d.answers.items d.otherwise)
