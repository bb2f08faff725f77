-- The data of the code, as the definitions see it.
use Rattle.sdl_rules.specs.Synonyms.{Known, Sight}
use Rattle.sdl_rules.specs.declared.known_synonyms.Known as the_known
use Rattle.sdl_rules.specs.declared.sight.Sight as the_sight

abbrev pub known_of : the_known.Known → Known
known_of k = record { names = k.names; values = k.values.items }

abbrev pub sight_of : the_sight.Sight → Sight
sight_of s = record { own = known_of s.own; hidden = s.hidden; outer = known_of s.outer.now }
