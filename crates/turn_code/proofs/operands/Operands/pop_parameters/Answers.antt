use Rattle.std.proofs.Common.{sym}
use Rattle.turn_code.proofs.Lists.{popped, left_over}
use Rattle.turn_code.proofs.operands.Operands.pop_parameters.Goals as goal

pub returns-clause-value : goal.returns-clause-value
returns-clause-value c =
    popped c.self.inside.values.items c.as_slice.result.now c.in-Ok.parameters.items c.args.self.now c.len.result c.args.count
    (sym c.self.view_is) c.as_slice.ensures.value c.len.ensures.value c.requires.there c.in-Ok.ensures.0

pub returns-clause-rest : goal.returns-clause-rest
returns-clause-rest c =
    left_over c.self.inside.values.items c.truncate.new.self.items c.args.self.now c.len.result c.args.count
    (sym c.self.view_is) c.len.ensures.value c.requires.there c.truncate.ensures.items
