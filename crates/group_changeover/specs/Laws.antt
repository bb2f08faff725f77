-- The invariant that each step keeps.
use Rattle.std.specs.Prelude.{ℕ, ◌<◌}
use Rattle.group_changeover.specs.Limits.{SELECTIONS}
use Rattle.group_changeover.specs.Places.{Places, OnePlace, IsEmpty, AtOneLink, Diverts, PlacesAnew}

pub record StepsKeepPlaces : Type 0 where
  pub first : (p : Places) → IsEmpty p → OnePlace p
  pub at_one_link : (l : ℕ) (p q : Places) → OnePlace p → AtOneLink l p q → OnePlace q
  pub diverted :
      (s l t : ℕ) (p q : Places) → s < SELECTIONS → OnePlace p → Diverts s l t p q → OnePlace q
  pub placed_anew : (p q : Places) → OnePlace p → PlacesAnew p q → OnePlace q
