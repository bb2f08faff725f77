use Rattle.std.proofs.Common.{◌≡◌, Bool, List, ◌++◌, reverse, take}
use Rattle.su_octets.specs.Bits.{bits_of}
use Rattle.bit_line.specs.Deframing.{StandsAt}
use Rattle.bit_line.specs.Running.{IsCalm, with_run}
use Rattle.bit_line.specs.declared.receiver.Receiver.{Receiver}
use Rattle.bit_line.specs.declared.events.LineEvent.{LineEvent}
use Rattle.bit_line.proofs.run.Run.over.Given as goal

abbrev pub invariant-loop-octet : goal.invariant-loop-octet
invariant-loop-octet l = record {
  count : l.taken ≡ l.octet-index;
  stands : (base : Receiver) (h : List Bool) (events : List LineEvent) → IsCalm base → StandsAt h events (with_run base l.fn.self l.initial.octets.items)
      → StandsAt (reverse (bits_of (take l.octet-index l.line)) ++ h) events (with_run base l.run l.octets.items);
}
