use Rattle.link_term.proofs.Taking.{taken_unit, taken_errored, taken_sixteen}
use Rattle.link_term.proofs.reading.take_event.Goals as goal

pub returns-in-Unit-clause-taken : goal.returns-in-Unit-clause-taken
returns-in-Unit-clause-taken c v left taken =
    taken_unit c.args.event.now c.in-Unit.octets.items c.as_slice.result.now left c.args.processes.now c.tell_counting.new.self c.take_octets.new.processes v c.in-Unit.is
    c.as_slice.ensures.value c.tell_counting.ensures.processes c.take_octets.ensures.reads taken

pub returns-in-Errored-clause-taken : goal.returns-in-Errored-clause-taken
returns-in-Errored-clause-taken c v left taken =
    taken_errored c.args.event.now left c.args.processes.now c.take_error.new.self v c.in-Errored.is c.take_error.ensures.processes taken

pub returns-in-SixteenOctets-clause-taken : goal.returns-in-SixteenOctets-clause-taken
returns-in-SixteenOctets-clause-taken c v left taken =
    taken_sixteen c.args.event.now left c.args.processes.now c.take_sixteen.new.self v c.in-SixteenOctets.is
    c.take_sixteen.ensures.processes taken
