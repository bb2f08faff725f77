-- How a requirement of a terminal on its set is printed.
use Rattle.std.specs.Prelude.{ℕ, List, ◌++◌, codes}
use Rattle.link_processes.specs.Known.{process_word, signal_word, option_word}
use Rattle.link_processes.specs.declared.words.OptionName.TheVariants as option
use Rattle.link_processes.specs.declared.wanted.Wanted.{Wanted}
use Rattle.link_processes.specs.declared.wanted.Wanted.TheVariants.{Process, Sent, Heard}
use Rattle.link_processes.specs.declared.wanted.Wanted.TheVariants.{MaySend, MayHear, MayCount}

-- a process by its name, a signal after the party that gets it
abbrev pub wanted_text : Wanted → List ℕ
wanted_text (Process name) = process_word name
wanted_text (Sent to name) = process_word to ++ codes "/" ++ signal_word name
wanted_text (Heard name) = codes "ENV/" ++ signal_word name
wanted_text (MaySend to name) = process_word to ++ codes "/" ++ option_word name
wanted_text (MayCount to) = process_word to ++ codes "/" ++ option_word option.Counting
wanted_text (MayHear name) = codes "ENV/" ++ option_word name
