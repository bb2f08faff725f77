-- How it is printed that there is no new terminal over the program's own set.
use Rattle.std.specs.Prelude.{ℕ, List}
use Rattle.turn_verify.specs.Printed.{fault_text}
use Rattle.link_term.specs.Printed.{open_error_text}
use Rattle.link_whole.specs.declared.opening.NewError.{NewError}
use Rattle.link_whole.specs.declared.opening.NewError.TheVariants as new

-- the fault of the text with its line, or why there is no terminal over its set
abbrev pub new_error_text : NewError → List ℕ
new_error_text (new.Load fault) = fault_text fault
new_error_text (new.Open error) = open_error_text error
