-- What the tables hash for a party.
use Rattle.std.specs.Prelude.{[], ◌∷◌}
use Rattle.std.specs.Hash.{HashWrites, u8, str}
use Rattle.sdl_tables.specs.declared.route_index.Side.{Side}
use Rattle.sdl_tables.specs.declared.route_index.Side.TheVariants.{Environment, Process}

-- the name of a process; for the environment, an octet that no name begins with
abbrev pub side_writes : Side → HashWrites
side_writes Environment = u8 0
side_writes (Process name) = str name
