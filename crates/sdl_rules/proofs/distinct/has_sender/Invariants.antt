use Rattle.std.proofs.Common.{◌≡◌, false, take}
use Rattle.sdl_rules.specs.Distinct.{has_sender}
use Rattle.sdl_rules.proofs.distinct.has_sender.Given as goal

abbrev pub invariant-loop-one : goal.invariant-loop-one
invariant-loop-one l = has_sender (take l.one-index l.senders) l.sender ≡ false
