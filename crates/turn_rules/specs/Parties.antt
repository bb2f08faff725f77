-- Sets of parties by their bits.
use Rattle.std.specs.Prelude.{ℕ, ◌+◌, min, Bool, eqb}
use Rattle.std.specs.Int.{bit_at}
use Rattle.turn_code.specs.declared.input.Party.{Party}
use Rattle.turn_code.specs.declared.input.Party.TheVariants.{Environment, Process}
use Rattle.turn_rules.specs.declared.party_set.PartySet.{PartySet}

-- the bit of a party; the processes from 30 on share one
abbrev pub seat : Party → ℕ
seat Environment = 0
seat (Process q) = 1 + min q.0 30

-- whether a bit of a set is set
unfoldable pub holds : PartySet → ℕ → Bool
holds s b = eqb (bit_at s.0 b) 1
