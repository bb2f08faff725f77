-- Sound blocks.
use Rattle.std.specs.Prelude.{◌≡◌, [], None, All}
use Rattle.sdl_tables.specs.Plain.{PlainBlock}
use Rattle.sdl_tables.specs.Names.{processes_of}
use Rattle.sdl_sound.specs.Names.{unknown_names}
use Rattle.sdl_sound.specs.Ends.{stray_ends}
use Rattle.sdl_sound.specs.Limits.{first_limit}
use Rattle.sdl_sound.specs.Sorts.{wrong_sorts}
use Rattle.sdl_sound.specs.Divisors.{bad_divisors}
use Rattle.sdl_sound.specs.Receivers.{without_receiver, with_two_receivers}
use Rattle.sdl_sound.specs.Joins.{join_cycles}
use Rattle.sdl_sound.specs.Decisions.{unanswered}
use Rattle.sdl_tables.specs.Scopes.{double_names}
use Rattle.sdl_sound.specs.Paths.{NeverReadsUnset}

-- None of these rules is broken.
pub record Sound (b : PlainBlock) : Type 0 where
  pub distinct : double_names b ≡ []
  pub known : unknown_names b ≡ []
  pub sorted : wrong_sorts b ≡ []
  pub ended : stray_ends b ≡ []
  pub received : without_receiver b ≡ []
  pub single : with_two_receivers b ≡ []
  pub joined : join_cycles b ≡ []
  pub answered : unanswered b ≡ []
  pub divided : bad_divisors b ≡ []
  pub within : first_limit b ≡ None
  pub set : All NeverReadsUnset (processes_of b)
