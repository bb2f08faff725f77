use Rattle.std.proofs.Common.{◌≡◌, drop}
use Rattle.link_processes.specs.Machine.{all_offered}
use Rattle.link_processes.proofs.processes.Processes.offer_all.Given as goal

abbrev pub invariant-loop-offer : goal.invariant-loop-offer
invariant-loop-offer l = all_offered (drop l.offer-index l.offers) l.self ≡ all_offered l.offers l.initial.self
