use Rattle.std.proofs.Common.{◌∙◌, ap}
use Rattle.turn_code.specs.declared.draft.Draft.{Draft}
use Rattle.turn_check.specs.Named.{signal_names}
use Rattle.script_lines.specs.ActorWords.{number_of}
use Rattle.script_lines.proofs.Lookups.{looked}
use Rattle.script_book.proofs.names.signal_named.Goals as goal

pub returns : goal.returns
returns c =
    looked (λ s. s.0) c.signal_of.result (signal_names c.set.result.now) c.args.name.now c.signal_of.ensures.found c.signal_of.ensures.none
    ∙ ap (λ (d : Draft). number_of (signal_names d) c.args.name.now) c.set.ensures
