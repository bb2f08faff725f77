-- The meaning of a block as a function, and the drafts that have it.
use Rattle.std.specs.Prelude.{◌≡◌, ℕ, Option, None, Some, Result, Err, slice_get}
use Rattle.sdl_ast.specs.Plain.{PlainProcess, PlainBlock}
use Rattle.turn_code.specs.declared.input.Input.{Input}
use Rattle.turn_code.specs.declared.input.Place.{Place}
use Rattle.turn_code.specs.declared.draft.Cert.{Cert}
use Rattle.turn_code.specs.declared.draft.Draft.{Draft}
use Rattle.turn_code.specs.Transitions.{Transition, transition_at}
use Rattle.turn_code.specs.declared.trouble.Trouble.{Trouble}
use Rattle.turn_code.specs.declared.trouble.Trouble.TheVariants.{Outside}
use Rattle.turn_code.specs.Outcome.{Outcome, result_in, Meaning, Means}
use Rattle.sdl_tables.specs.Names.{processes_of}
use Rattle.sdl_sound.specs.Longest.{Piece}
use Rattle.sdl_sound.specs.Sound.{Sound}
use Rattle.sdl_meaning.specs.Act.{Act, scope_of}
use Rattle.sdl_meaning.specs.Outcomes.{Scope}
use Rattle.sdl_compile.specs.Made.{IsLongestOf}
use Rattle.sdl_compile.specs.Blocks.{MatchesBlock}
use Rattle.sdl_compile.specs.Meaning.{piece_at, RunsAsMeant}

-- The result of a transition on an input, or the trouble in which it gets stuck. If there is no
-- such transition, this is `Outside`.
abbrev pub meant_by : Scope → Option Piece → Input → Result Outcome Trouble
meant_by c None x = Err Outside
meant_by c (Some q) x = result_in (Act c q x)

abbrev pub meant_in : PlainBlock → Place → ℕ → Input → Option PlainProcess → Result Outcome Trouble
meant_in b s i x None = Err Outside
meant_in b s i x (Some p) = meant_by (scope_of b p) (piece_at p s i) x

-- The result of the block's input i at place s of process n on an input.
unfoldable pub meaning_of : PlainBlock → Meaning
meaning_of b = λ n s i x. meant_in b s i x (slice_get (processes_of b) n)

-- The certificate names the longest path of the block's input i at place s of process n.
pub record IsCertifiedBy (b : PlainBlock) (n : ℕ) (s : Place) (i : ℕ) (k : Cert) : Type 0 where
  pub process : PlainProcess
  pub there : slice_get (processes_of b) n ≡ Some process
  pub piece : Piece
  pub piece_there : piece_at process s i ≡ Some piece
  pub longest : IsLongestOf (scope_of b process) piece k

-- The certificate of each transition of the draft does so.
pub record IsCertifiedAs (b : PlainBlock) (d : Draft) : Type 0 where
  pub each : (n : ℕ) (s : Place) (i : ℕ) (t : Transition) → transition_at d n s i ≡ Some t
      → IsCertifiedBy b n s i t.piece.certificate

-- The draft is that of the block. It has its names and numbers. On each input that fits, the run of
-- each transition has the result that the transition at the same place of the block means. Each
-- certificate names the longest path.
pub record IsSetOfBlock (b : PlainBlock) (d : Draft) : Type 0 where
  pub matches : MatchesBlock b d
  pub runs : RunsAsMeant b d
  pub means : Means (meaning_of b) d
  pub certified : IsCertifiedAs b d

-- A draft that matches a sound block is its draft in each way.
abbrev pub SetLaw : Type 0
SetLaw = (b : PlainBlock) (d : Draft) → Sound b → MatchesBlock b d → IsSetOfBlock b d
