use Rattle.std.proofs.Common.{ap, ◌∙◌, map, take_all}
use Rattle.std.specs.List.{list_any}
use Rattle.sdl_ast.specs.Plain.{PlainPath}
use Rattle.sdl_ast.specs.Views.{path_of}
use Rattle.sdl_tables.specs.Names.{is_in}
use Rattle.sdl_warnings.proofs.signals.is_on_path.Goals as goal

pub returns : goal.returns
returns c =
    c.loop-path.invariant
    ∙ ap (λ l. list_any (λ (path : PlainPath). is_in path.signals c.args.signal) (map path_of l)) (take_all c.loop-path.path-index c.args.paths.now c.loop-path-test.false)
