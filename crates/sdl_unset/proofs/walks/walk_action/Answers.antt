use Rattle.sdl_ast.specs.Views.{action_of, process_of}
use Rattle.std.proofs.Common.{sym, ◌∙◌}
use Rattle.sdl_unset.proofs.Walkers.{walked_quoted}
use Rattle.sdl_unset.proofs.walks.walk_action.Goals as goal

pub returns-then-is_quoted : goal.returns-then-is_quoted
returns-then-is_quoted c =
    walked_quoted (process_of c.args.table.now) (action_of c.args.action.now) c.args.walker.now (sym c.is_quoted.ensures ∙ c.if-is_quoted.true)
