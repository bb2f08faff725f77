-- The bad ends from some statement of a list on, as the code keeps them.
use Rattle.std.specs.Prelude.{ℕ, List, [], ◌∷◌}
use Rattle.sdl_ast.specs.declared.expression.Identifier.{Identifier}
use Rattle.sdl_ast.specs.Plain.{Text}
use Rattle.sdl_tables.specs.Scopes.{Marks}
use Rattle.sdl_sound.specs.Ends.{first_place, strays}
use Rattle.sdl_scopes.specs.declared.ends.Rest.{Rest}

-- the place of the first statement; the bad ends if running off the end is reported at `at`; the
-- bad ends if running off is allowed
pub record IsRest (states : List Identifier) (at : ℕ) (t : Text) (r : Rest) : Type 0 where
  pub first : Marks r.first (first_place t)
  pub named : Marks r.named (strays states (at ∷ []) t)
  pub free : Marks r.free (strays states [] t)
