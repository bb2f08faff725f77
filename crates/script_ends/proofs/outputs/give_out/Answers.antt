use Rattle.std.proofs.Common.{arith}
use Rattle.script_ends.proofs.GroupRuns.{given_there, given_nowhere}
use Rattle.script_ends.proofs.outputs.give_out.Goals as goal

pub returns-then-link-len : goal.returns-then-link-len
returns-then-link-len g c =
    given_nowhere c.args.link c.args.units _ _ _ _ _ c.in_ok-line.line.items (omega (arith, c.if-link-len.true, c.len.ensures)) c.in_ok-line.ensures
    c.in_ok-print.ensures.last c.in_ok-print.ensures.written

pub returns : goal.returns
returns g c = given_there c.args.link c.args.units _ _ _ _ _ _ (omega (arith, c.if-link-len.false, c.len.ensures)) c.in_ok-print_units.ensures
