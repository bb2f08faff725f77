use Rattle.std.proofs.Common.{map, take, ◌≡◌}
use Rattle.sdl_ast.specs.Views.{sending_of}
use Rattle.sdl_tables.specs.Names.{same_name}
use Rattle.std.specs.List.{list_any}
use Rattle.sdl_warnings.proofs.sendings.has_signal.Given as goal

abbrev pub invariant-loop-sending : goal.invariant-loop-sending
invariant-loop-sending l =
    l.any ≡ list_any (λ x. same_name l.signal x.signal.name) (map sending_of (take l.sending-index l.sendings))
