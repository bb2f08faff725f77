use Rattle.std.proofs.Common.{ap}
use Rattle.sdl_ast.specs.Plain.{Text, PlainStart}
use Rattle.sdl_rules.proofs.processes.expand_start.Goals as goal

pub returns : goal.returns
returns c = let make : Text → PlainStart = λ t. record { at = c.args.given.now.at; text = t } in ap make c.in_ok-expand_transition.ensures
