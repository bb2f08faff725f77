use Rattle.std.proofs.Common.{map, take, ◌≡◌}
use Rattle.sdl_ast.specs.Views.{block_of, process_of}
use Rattle.sdl_warnings.specs.Warned.{is_sender}
use Rattle.std.specs.List.{list_any}
use Rattle.sdl_warnings.proofs.sendings.has_sender.Given as goal

abbrev pub invariant-loop-sender : goal.invariant-loop-sender
invariant-loop-sender l =
    l.any ≡ list_any (is_sender (block_of l.block) (process_of l.receiver) l.signal) (map process_of (take l.sender-index l.senders))
