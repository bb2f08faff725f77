-- How a terminal's refused call is printed, or that there is no new terminal.
use Rattle.std.specs.Prelude.{ℕ, List, ◌++◌, codes}
use Rattle.actor_machine.specs.Printed.{refusal_text}
use Rattle.link_processes.specs.Printed.{wanted_text}
use Rattle.link_term.specs.declared.answers.CallError.{CallError}
use Rattle.link_term.specs.declared.answers.CallError.TheVariants as call
use Rattle.link_term.specs.declared.opening.OpenError.{OpenError}
use Rattle.link_term.specs.declared.opening.OpenError.TheVariants as opening

-- a refusal of the book by its name in a script's answers
abbrev pub call_error_text : CallError → List ℕ
call_error_text (call.Refused refusal) = refusal_text refusal
call_error_text call.NoMemory = codes "out of memory"

-- the refusal's code, and the requirement not met
abbrev pub open_error_text : OpenError → List ℕ
open_error_text (opening.NoName name) = codes "X2 NoName " ++ wanted_text name
open_error_text opening.NoMemory = codes "out of memory"
