use Rattle.std.proofs.Common.{ap, ◌∙◌, map, take_all}
use Rattle.std.specs.List.{list_any}
use Rattle.sdl_ast.specs.Plain.{PlainSending}
use Rattle.sdl_ast.specs.Views.{sending_of}
use Rattle.sdl_tables.specs.Names.{same_name}
use Rattle.sdl_warnings.proofs.sendings.has_signal.Goals as goal

pub returns : goal.returns
returns c =
    c.loop-sending.invariant
    ∙ ap (λ l. list_any (λ (x : PlainSending). same_name c.args.signal x.signal.name) (map sending_of l)) (take_all c.loop-sending.sending-index c.args.sendings.now c.loop-sending-test.false)
