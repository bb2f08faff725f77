-- The acts of a terminal on a line. A relation between two states tells how an act changes it.
use Rattle.std.specs.Prelude.{ℕ, List, Option}
use Rattle.su_octets.specs.declared.units.Unit as units
use Rattle.line_filter.specs.declared.terminal.Answer.{Answer}

pub data Act : Type 0 where
  asked : Option units.Unit → Act  -- it was asked for its next unit: this one, or none
  heard : ℕ → Act  -- it received an octet of the line
  passed : Act  -- a millisecond passed
  reported : Option (List ℕ) → Act  -- its next report, or none
  obeyed : List ℕ → Answer → Act  -- an order, and its answer
