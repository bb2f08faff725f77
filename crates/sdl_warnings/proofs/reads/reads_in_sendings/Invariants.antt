use Rattle.std.proofs.Common.{map, take, ◌≡◌}
use Rattle.sdl_ast.specs.Views.{sending_of}
use Rattle.sdl_warnings.specs.Warned.{reads_in_sending}
use Rattle.std.specs.List.{list_any}
use Rattle.sdl_warnings.proofs.reads.reads_in_sendings.Given as goal

abbrev pub invariant-loop-sending : goal.invariant-loop-sending
invariant-loop-sending l =
    l.any ≡ list_any (reads_in_sending l.name) (map sending_of (take l.sending-index l.sendings))
