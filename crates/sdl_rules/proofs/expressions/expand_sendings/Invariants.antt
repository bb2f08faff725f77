use Rattle.std.proofs.Common.{◌≡◌, map, take}
use Rattle.sdl_ast.specs.Views.{sending_of}
use Rattle.sdl_rules.specs.Expansion.{expanded_sending}
use Rattle.sdl_rules.specs.Views.{sight_of}
use Rattle.sdl_rules.proofs.expressions.expand_sendings.Given as goal

abbrev pub invariant-loop-sending : goal.invariant-loop-sending
invariant-loop-sending l =
    map sending_of l.copies.items ≡ map (expanded_sending (sight_of l.sight)) (map sending_of (take l.sending-index l.given))
