use Rattle.std.proofs.Common.{rules, sym}
use Rattle.sdl_warnings.specs.Bounds.{IsLeft}
use Rattle.sdl_warnings.proofs.Spending.{integer_left, unspent}
use Rattle.sdl_warnings.proofs.values.is_spent.Goals as goal

pub returns-in-Some : goal.returns-in-Some
returns-in-Some c =
    let left : IsLeft c.args.earlier.now c.args.own.now c.in-Some.field-0 = search rules in
    sym (integer_left _ _ (unspent c.args.earlier.now c.args.own.now c.in-Some.field-0 left))
