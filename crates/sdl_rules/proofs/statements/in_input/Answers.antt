use Rattle.std.proofs.Common.{[], subst}
use Rattle.sdl_ast.specs.Views.{block_of, process_of, input_of}
use Rattle.sdl_tables.specs.Scopes.{Marks}
use Rattle.sdl_sound.specs.Actions.{input_origins}
use Rattle.sdl_sound.specs.Statements.{statements_of}
use Rattle.sdl_rules.proofs.Asking.{asked_without}
use Rattle.sdl_rules.proofs.statements.in_input.Goals as goal

pub returns : goal.returns
returns c =
    let b = block_of c.args.block.now in
    let p = process_of c.args.process.now in
    let i = input_of c.args.input.now in
    subst (Marks c.in_transition.result) (asked_without c.args.rule b p (input_origins i) (statements_of i.text) c.requires) (c.in_transition.ensures [] (c.none-from.ensures b p))
