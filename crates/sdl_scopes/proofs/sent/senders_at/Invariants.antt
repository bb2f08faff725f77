use Rattle.std.proofs.Common.{◌≡◌, map, take}
use Rattle.sdl_scopes.specs.Reaches.{sent_of, senders_in}
use Rattle.sdl_scopes.proofs.sent.senders_at.Given as goal

abbrev pub invariant-loop-one : goal.invariant-loop-one
invariant-loop-one l = l.senders.items ≡ senders_in (map sent_of (take l.one-index l.sent)) l.number
