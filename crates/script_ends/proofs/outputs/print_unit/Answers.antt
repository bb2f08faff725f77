use Rattle.std.proofs.Common.{Some, None, sym, ap}
use Rattle.std.specs.Prelude.{is_some}
use Rattle.script_ends.proofs.TermRuns.{printed_unit}
use Rattle.script_ends.proofs.outputs.print_unit.Goals as goal

pub returns-in_ok-print-in-Some : goal.returns-in_ok-print-in-Some
returns-in_ok-print-in-Some g c = record {
  unit = c.in_ok-unit.unit;
  some = sym (ap is_some c.in-Some.is);
  sent = c.in_ok-unit.ensures;
  printed =
      printed_unit _ _ _ _ (Some c.in-Some.unit) c.in_ok-unit.unit c.in_ok-line-in-Some.line.items c.in_ok-print-in-Some.ensures.last
      c.in_ok-print-in-Some.ensures.written c.in_ok-line-in-Some.ensures (sym c.in-Some.is);
}

pub returns-in_ok-print-in-None : goal.returns-in_ok-print-in-None
returns-in_ok-print-in-None g c = record {
  unit = c.in_ok-unit.unit;
  some = sym (ap is_some c.in-None.is);
  sent = c.in_ok-unit.ensures;
  printed =
      printed_unit _ _ _ _ None c.in_ok-unit.unit c.in_ok-line-in-None.line.items c.in_ok-print-in-None.ensures.last
      c.in_ok-print-in-None.ensures.written c.in_ok-line-in-None.ensures.items (sym c.in-None.is);
}
