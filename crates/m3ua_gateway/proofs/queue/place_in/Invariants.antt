use Rattle.std.proofs.Common.{◌≡◌, ◌+◌, drop}
use Rattle.std.specs.Option.{option_map}
use Rattle.m3ua_gateway.specs.Holding.{place_of}
use Rattle.m3ua_gateway.proofs.queue.place_in.Given as goal

-- none of the messages before the place is of the selection
abbrev pub invariant-loop-place : goal.invariant-loop-place
invariant-loop-place l = option_map (λ k. k + l.place) (place_of l.selection (drop l.place l.messages)) ≡ place_of l.selection l.messages
