use Rattle.std.proofs.Common.{◌∙◌}
use Rattle.sdl_ast.specs.Views.{block_of}
use Rattle.sdl_meaning.proofs.Sorting.{sorts_by}
use Rattle.sdl_compile.proofs.state.parameters.Goals as goal

pub returns : goal.returns
returns c =
    c.parameters_at.ensures
    ∙ sorts_by (block_of c.args.names.now.block.now) c.args.id.now.name c.args.signals.now c.signals.result.now c.number.result c.requires c.signals.ensures c.number.ensures.number
