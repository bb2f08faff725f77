use Rattle.std.proofs.Common.{◌∙◌, ap}
use Rattle.turn_code.specs.declared.draft.Draft.{Draft}
use Rattle.turn_check.specs.Named.{variable_names}
use Rattle.script_lines.specs.ActorWords.{number_of}
use Rattle.script_lines.proofs.Lookups.{looked}
use Rattle.script_book.proofs.names.variable_named.Goals as goal

pub returns : goal.returns
returns c =
    looked (λ x. x.0) c.variable_of.result (variable_names c.set.result.now c.args.process.0) c.args.name.now c.variable_of.ensures.found
    c.variable_of.ensures.none
    ∙ ap (λ (d : Draft). number_of (variable_names d c.args.process.0) c.args.name.now) c.set.ensures
