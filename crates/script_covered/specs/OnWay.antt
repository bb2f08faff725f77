-- How far a turn has walked along its path.
use Rattle.std.specs.Prelude.{◌≡◌, ◌++◌, List}
use Rattle.script_covered.specs.Ways.{Taken, Way, behind}
use Rattle.script_covered.specs.Covered.{HasTaken}
use Rattle.script_covered.specs.declared.coverage.Counts.{Counts}

-- the part of a path that was walked is counted, and this rest of it is left
pub record IsOnWay (whole left : Way) (old new : Counts) : Type 0 where
  pub taken : List Taken
  pub is : whole ≡ behind taken left
  pub counts : (xs : List Taken) → HasTaken xs old → HasTaken (xs ++ taken) new
