-- The meanings of the names in transitions, as the table keeps them.
use Rattle.std.specs.Prelude.{◌≡◌, ℕ, List, Option, None, Some, IfSome, slice_get}
use Rattle.turn_code.specs.declared.input.Party.{Party}
use Rattle.sdl_tables.specs.Names.{number_of, connector_names, variable_names, signal_names}
use Rattle.sdl_tables.specs.Names.{process_names}
use Rattle.sdl_sound.specs.Receivers.{party_of, receivers}
use Rattle.sdl_meaning.specs.Act.{the_one}
use Rattle.sdl_meaning.specs.Outcomes.{Scope}
use Rattle.sdl_emit.specs.declared.uses.Meant.{Meant}
use Rattle.sdl_emit.specs.declared.uses.Meant.TheVariants.{Connection, Variable, Process, Signal}
use Rattle.sdl_emit.specs.declared.uses.Use.{Use}
use Rattle.sdl_emit.specs.declared.uses.UseTable.{UseTable}

-- The number of a name of this kind.
abbrev pub number_as : Scope → List ℕ → Meant → Option ℕ
number_as c x (Connection n) = number_of (connector_names c.process) x
number_as c x (Variable n) = number_of (variable_names c.process) x
number_as c x (Process n) = number_of (process_names c.block) x
number_as c x (Signal n to) = number_of (signal_names c.block) x

-- The number that is kept.
abbrev pub kept_number : Meant → ℕ
kept_number (Connection n) = n
kept_number (Variable n) = n.0
kept_number (Process n) = n.0
kept_number (Signal n to) = n.0

-- The only receiver of a signal, as it is kept.
abbrev pub kept_party : Meant → Option Party
kept_party (Connection n) = None
kept_party (Variable n) = None
kept_party (Process n) = None
kept_party (Signal n to) = to

-- The name has the number that is kept. For a signal, the kept party is the only receiver of an
-- OUTPUT without TO.
abbrev pub IsUse : Scope → List ℕ → Meant → Type 0
IsUse c x m =
    (number_as c x m ≡ Some (kept_number m))
    × IfSome (kept_party m) (λ q. the_one c (receivers c.block (party_of c.process) x) ≡ Some q)

-- The table has the meaning of each name that it keeps.
abbrev pub AreUses : Scope → List (Option Use) → Type 0
AreUses c us = (k : ℕ) (u : Use) → slice_get us k ≡ Some (Some u) → IsUse c u.id.name u.meant

abbrev pub IsUseTable : Scope → UseTable → Type 0
IsUseTable c t = AreUses c t.uses.items
