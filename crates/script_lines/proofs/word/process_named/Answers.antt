use Rattle.turn_check.specs.Named.{process_names}
use Rattle.script_lines.proofs.Lookups.{looked}
use Rattle.script_lines.proofs.word.process_named.Goals as goal

pub returns : goal.returns
returns c =
    looked (λ p. p.0) c.process_of.result (process_names c.args.set.now) c.args.name.now c.process_of.ensures.found c.process_of.ensures.none
