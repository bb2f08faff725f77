-- The outcome of the words of a command line.
use Rattle.std.specs.Prelude.{◌≡◌, ◌⊎◌, ◌≢◌, ℕ, List, []}
use Rattle.clap.specs.Words.{Text, fault_of, subcommand_of}
use Rattle.clap.specs.declared.error.kind.ErrorKind.{ErrorKind}
use Rattle.clap.specs.declared.error.kind.ErrorKind.TheVariants.{OutOfMemory}
use Rattle.line_filter.specs.Filters.{Line as Octets}
use Rattle.mtp2_words.specs.Asked.{IsAskedBy}
use Rattle.mtp2_words.specs.Commands.{all_commands}
use Rattle.mtp2_words.specs.TurnedDown.{IsTurnedDown}
use Rattle.mtp2_words.specs.declared.requests.Request.{Request}
use Rattle.mtp2_words.specs.declared.requests.Request.TheVariants.{Soak}
use Rattle.mtp2_words.specs.declared.requests.Source.{Source}
use Rattle.mtp2_play.specs.Printed.{IsAnswered, IsFault, IsStatus}
use Rattle.mtp2_play.specs.declared.asked.Handled.{Handled}
use Rattle.mtp2_play.specs.declared.asked.Handled.TheVariants as came

-- the exit status of a refusal: 0 only for help and the version, 3 only for a fault of the words,
-- else 4
pub record IsTold (kind : ErrorKind) (status : ℕ) : Type 0 where
  pub help : status ≡ 0 → IsFault kind → ⊥
  pub usage : status ≡ 3 → IsFault kind × (kind ≢ OutOfMemory)
  pub ends : (status ≡ 0) ⊎ (status ≡ 3) ⊎ (status ≡ 4)

-- a request was run, from some octets to read and written before, to those after
pub record WasAnswered (request : Request) (status : ℕ) : Type 0 where
  pub old : Octets
  pub new : Octets
  pub answered : IsAnswered request status old new

-- The words have no fault, and their request is run, from some octets to read and written before,
-- to those after; or the words are refused.
pub data ComesTo (words : List Text) (status : ℕ) : Type 0 where
  is_run : (request : Request) (old new : Octets) → fault_of all_commands words ≡ []
      → IsAskedBy (subcommand_of all_commands words) request
      → IsAnswered request status old new
      → (status ≡ 0) ⊎ (status ≡ 1) ⊎ (status ≡ 2) ⊎ (status ≡ 4) → ComesTo words status
  is_told : (kind : ErrorKind) → IsTurnedDown words kind → IsTold kind status → ComesTo words status

-- the words have no fault, and request that this number of workers serve links for a script
pub record AsksSoak (words : List Text) (script : Source) (workers : ℕ) : Type 0 where
  pub taken : fault_of all_commands words ≡ []
  pub asked : IsAskedBy (subcommand_of all_commands words) (Soak script workers)

-- a request other than `soak` was run; a request of `soak` is only passed on
abbrev pub WasServed : Request → Handled → Type 0
WasServed request (came.Over status) =
    WasAnswered request status × ((status ≡ 0) ⊎ (status ≡ 1) ⊎ (status ≡ 2) ⊎ (status ≡ 4))
WasServed request (came.Soak script workers) = request ≡ Soak script workers

-- the request of the words was run, unless it is `soak`, which is only passed on
abbrev pub IsServedBy : List Text → Handled → Type 0
IsServedBy words (came.Over status) = ComesTo words status × IsStatus status
IsServedBy words (came.Soak script workers) = AsksSoak words script workers
