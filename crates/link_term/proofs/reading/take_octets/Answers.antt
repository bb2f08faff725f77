use Rattle.std.proofs.Common.{refl}
use Rattle.link_term.proofs.Taking.{reads_unit, reads_error}
use Rattle.link_term.proofs.reading.take_octets.Goals as goal

pub take_unit-requires-clause-whole : goal.take_unit-requires-clause-whole
take_unit-requires-clause-whole c = ((c.in-Ok.ensures.found c.in-Ok.unit).0 refl).whole

pub returns-in-Ok-clause-reads : goal.returns-in-Ok-clause-reads
returns-in-Ok-clause-reads c =
    reads_unit c.args.octets.now c.in-Ok.unit c.args.processes.now c.take_unit.new.self ((c.in-Ok.ensures.found c.in-Ok.unit).0 refl)
    c.take_unit.ensures.processes

pub returns-in-Err-clause-reads : goal.returns-in-Err-clause-reads
returns-in-Err-clause-reads c =
    reads_error c.args.octets.now c.args.processes.now c.take_error.new.self
    (λ u frame. let f : _ = (c.in-Err.ensures.found u).1 frame in absurd (cc)) c.take_error.ensures.processes
