-- The parties that the signals sent back by a process can reach.
use Rattle.std.specs.Prelude.{◌≡◌, ℕ, Bool, true, List, Some, length, slice_get}
use Rattle.std.specs.Global.{Vec}
use Rattle.sdl_ast.specs.declared.expression.Identifier.{Identifier}
use Rattle.sdl_ast.specs.declared.tree.Party.{Party}
use Rattle.sdl_ast.specs.Plain.{PlainProcess, PlainBlock}
use Rattle.sdl_tables.specs.Routes.{carries}
use Rattle.sdl_sound.specs.Receivers.{party_of}
use Rattle.sdl_scopes.specs.Parties.{party_number}
use Rattle.sdl_sound.specs.Actions.{Origin}
use Rattle.sdl_scopes.specs.Known.{Knows}
use Rattle.sdl_scopes.specs.Reaches.{is_marked}
use Rattle.sdl_rules.specs.declared.back_table.BackTable.{BackTable}
use Rattle.sdl_scopes.specs.declared.known.KnownSenders.{KnownSenders}

-- A signal from process p reaches each party whose number is marked.
abbrev pub GetThere : PlainBlock → PlainProcess → List ℕ → List Bool → Type 0
GetThere b p s marks =
    (q : Party) (n : ℕ) → party_number b q ≡ Some n → is_marked marks n ≡ true
    → carries b (party_of p) q s ≡ true

-- The table has such marks for each of its names.
pub record Brings (b : PlainBlock) (p : PlainProcess) (t : BackTable) : Type 0 where
  pub count : length t.rows.items ≡ length t.names
  pub each : (n : ℕ) (id : Identifier) (row : Vec Bool) → slice_get t.names n ≡ Some id
      → slice_get t.rows.items n ≡ Some row
      → GetThere b p id.name row.items

-- What is known, and the marks from which it was learned.
abbrev pub Learns : PlainBlock → PlainProcess → BackTable → KnownSenders → List Origin → Type 0
Learns b p t k os = Brings b p t × Knows b p k os
