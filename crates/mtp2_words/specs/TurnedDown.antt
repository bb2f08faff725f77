-- Why the words of a command line request nothing that is run.
use Rattle.std.specs.Prelude.{◌≡◌, ◌⊎◌, List, []}
use Rattle.clap.specs.Words.{IsAmong, Text, fault_of, subcommand_of}
use Rattle.clap.specs.declared.error.kind.ErrorKind.{ErrorKind}
use Rattle.clap.specs.declared.error.kind.ErrorKind.TheVariants.{OutOfMemory, InvalidSubcommand}
use Rattle.mtp2_words.specs.Asked.{SaysNothing}
use Rattle.mtp2_words.specs.Commands.{all_commands}

-- Memory runs out; or clap finds a fault of this kind, which includes a request for help; or it
-- finds no fault, but one of the words is invalid.
abbrev pub IsTurnedDown : List Text → ErrorKind → Type 0
IsTurnedDown words kind = (kind ≡ OutOfMemory) ⊎ (IsAmong kind (fault_of all_commands words)
    ⊎ ((fault_of all_commands words ≡ []) × (kind ≡ InvalidSubcommand)
    × SaysNothing (subcommand_of all_commands words)))
