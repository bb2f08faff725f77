use Rattle.std.proofs.Common.{ap, ◌∙◌, map, take_all}
use Rattle.std.specs.List.{list_any}
use Rattle.sdl_ast.specs.Plain.{PlainState}
use Rattle.sdl_ast.specs.Views.{state_of}
use Rattle.sdl_tables.specs.Names.{is_in, part_triggers}
use Rattle.sdl_warnings.proofs.signals.heeds.Goals as goal

pub returns : goal.returns
returns c =
    c.loop-part.invariant
    ∙ ap (λ l. list_any (λ (part : PlainState). is_in (part_triggers part) c.args.signal) (map state_of l)) (take_all c.loop-part.part-index c.args.parts.now c.loop-part-test.false)
