-- Whether a walk can continue past a list of statements, or past a DECISION. (Z.100: transitions,
-- decisions.)
use Rattle.std.specs.Prelude.{Bool, true, false, ◌&&◌, ◌||◌}
use Rattle.sdl_tables.specs.Plain.{Text, falls, ends, does, decides, Choice, nothing_else}
use Rattle.sdl_tables.specs.Plain.{otherwise, answer}

abbrev mutual
  -- a text can run off its end
  pub goes_on : Text → Bool
  goes_on falls = true
  goes_on (ends e) = false
  goes_on (does a rest) = goes_on rest
  goes_on (decides at q c rest) = choice_goes_on c && goes_on rest

  -- a walk can continue past a DECISION if it can past one of its bodies
  pub choice_goes_on : Choice → Bool
  choice_goes_on nothing_else = false
  choice_goes_on (otherwise body) = goes_on body
  choice_goes_on (answer at ranges body others) = goes_on body || choice_goes_on others
