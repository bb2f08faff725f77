-- The run of a draft's transition on each input that fits it.
use Rattle.std.specs.Prelude.{◌≡◌, ℕ, zero, suc, List, Option, None, Some, slice_get}
use Rattle.std.specs.Option.{option_map}
use Rattle.sdl_ast.specs.Plain.{PlainProcess, PlainBlock}
use Rattle.turn_code.specs.declared.input.Input.{Input}
use Rattle.turn_code.specs.declared.input.Place.{Place}
use Rattle.turn_code.specs.declared.input.Place.TheVariants.{Start, State}
use Rattle.turn_code.specs.declared.draft.Draft.{Draft}
use Rattle.turn_code.specs.Transitions.{Transition, transition_at}
use Rattle.turn_code.specs.Fits.{FitsTransition}
use Rattle.turn_code.specs.Run.{Ran, run}
use Rattle.sdl_tables.specs.Names as names
use Rattle.sdl_tables.specs.Names.{processes_of, inputs_by_state}
use Rattle.sdl_sound.specs.Longest.{Piece, start_piece, input_piece}
use Rattle.sdl_sound.specs.Sound.{Sound}
use Rattle.sdl_meaning.specs.Act.{Act, scope_of}
use Rattle.sdl_compile.specs.Blocks.{MatchesBlock}

abbrev pub input_of_state : Option (List names.Input) → ℕ → Option Piece
input_of_state None i = None
input_of_state (Some is) i = option_map input_piece (slice_get is i)

-- The transition of input i at a place of a process in the text. START has only input 0.
abbrev pub piece_at : PlainProcess → Place → ℕ → Option Piece
piece_at p Start zero = Some (start_piece p)
piece_at p Start (suc i) = None
piece_at p (State q) i = input_of_state (slice_get (inputs_by_state p) q.0) i

-- This transition of process n has this result on the input.
pub record IsMeant (b : PlainBlock) (n : ℕ) (s : Place) (i : ℕ) (x : Input) (r : Ran) : Type 0 where
  pub process : PlainProcess
  pub there : slice_get (processes_of b) n ≡ Some process
  pub piece : Piece
  pub piece_there : piece_at process s i ≡ Some piece
  pub act : r ≡ Act (scope_of b process) piece x

-- Each transition of the draft, on each input that fits it, runs as the transition at the same
-- place of the block means.
pub record RunsAsMeant (b : PlainBlock) (d : Draft) : Type 0 where
  pub each : (n : ℕ) (s : Place) (i : ℕ) (t : Transition) (x : Input)
      → transition_at d n s i ≡ Some t → FitsTransition d t x
      → IsMeant b n s i x (run t.piece.code x)

-- A draft that matches a sound block runs as the block means.
abbrev pub MeaningLaw : Type 0
MeaningLaw = (b : PlainBlock) (d : Draft) → Sound b → MatchesBlock b d → RunsAsMeant b d
