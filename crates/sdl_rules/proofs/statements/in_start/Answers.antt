use Rattle.std.proofs.Common.{[], ◌∷◌, subst}
use Rattle.sdl_ast.specs.declared.tree.Process as the_process
use Rattle.sdl_ast.specs.Views.{block_of, process_of}
use Rattle.sdl_tables.specs.Scopes.{Marks}
use Rattle.sdl_sound.specs.Actions.{begins}
use Rattle.sdl_rules.specs.Asked.{asked_all}
use Rattle.sdl_sound.specs.Statements.{statements_of}
use Rattle.sdl_rules.proofs.Asking.{asked_without}
use Rattle.sdl_rules.proofs.statements.in_start.Goals as goal

pub returns : goal.returns
returns c =
    let b = block_of c.args.block.now in
    let p = process_of c.args.process.now in
    let same = asked_without c.args.rule b p (begins ∷ []) (statements_of p.start.text) c.requires in
    subst (Marks c.in_transition.result) same
    (subst (λ (x : the_process.Process). Marks c.in_transition.result (asked_all c.args.rule b p [] (statements_of (process_of x).start.text))) c.process.ensures.process
    (c.in_transition.ensures [] (c.none-from.ensures b p)))
