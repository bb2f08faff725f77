-- The printed text of a port's refusal: a code and its name.
use Rattle.std.specs.Prelude.{ℕ, List, codes}
use Rattle.input_port.specs.declared.queue.PutError.{PutError}
use Rattle.input_port.specs.declared.queue.PutError.TheVariants.{Full}

abbrev pub put_error_text : PutError → List ℕ
put_error_text Full = codes "Q1 Full"
