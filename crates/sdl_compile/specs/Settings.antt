-- The setting of a transition, and what the compiler requires of the transition.
use Rattle.std.specs.Prelude.{◌≡◌, ℕ, ◌≤◌, List, [], ◌∷◌, length}
use Rattle.plain_laws.specs.Limits.{MOST_PARAMETERS}
use Rattle.sdl_ast.specs.Views.{block_of, process_of}
use Rattle.turn_code.specs.declared.value.Sort.{Sort}
use Rattle.turn_code.specs.declared.draft.PlaceFacts.{PlaceFacts}
use Rattle.sdl_sound.specs.Longest.{Piece}
use Rattle.sdl_sound.specs.Orders.{IsOrder}
use Rattle.sdl_emit.specs.Measures.{AreMeasures}
use Rattle.sdl_emit.specs.Trimmed.{AreTrimmed}
use Rattle.sdl_meaning.specs.Named.{AreSorted, NamedPiece}
use Rattle.sdl_compile.specs.declared.setting.Setting.{Setting}
use Rattle.sdl_meaning.specs.Outcomes.{Scope}
use Rattle.sdl_compile.specs.Made.{IsSmall}
use Rattle.sdl_meaning.specs.Declarations.{drafted_signals, drafted_variables}

-- The variables are those of the process, the signals those of the block. The order, the measures
-- and the copies are those of the connections of the process.
pub record IsSetting (s : Setting) : Type 0 where
  pub variables : s.variables.now ≡ drafted_variables (process_of s.names.now.process.now)
  pub signals : s.signals.now ≡ drafted_signals (block_of s.names.now.block.now)
  pub ordered : IsOrder (process_of s.names.now.process.now) s.order.now
  pub measured : AreMeasures (process_of s.names.now.process.now) s.measures.now
  pub copied : AreTrimmed (process_of s.names.now.process.now).connections s.copies.now

-- A transition with known names and right sorts, places for parameters of these sorts, and within
-- the limits.
pub record IsReadyPiece (c : Scope) (q : Piece) (ps : List Sort) : Type 0 where
  pub named : NamedPiece c q
  pub sorted : AreSorted c q.text
  pub places : length q.places ≤ length ps
  pub few : length q.places ≤ MOST_PARAMETERS
  pub small : IsSmall c q

-- How many effects the code may have from its first place on.
abbrev pub effects_from : List PlaceFacts → ℕ
effects_from [] = 0
effects_from (f ∷ fs) = f.effects

-- How many instructions may run from the first place on.
abbrev pub count_from : List PlaceFacts → ℕ
count_from [] = 0
count_from (f ∷ fs) = f.count
