use Rattle.std.proofs.Common.{◌≡◌, ◌+◌, subst, sym, ap, arith}
use Rattle.tick_wheel.specs.Timers.{not_due}
use Rattle.tick_wheel.specs.Turning.{Turning}
use Rattle.tick_wheel.proofs.Keeping.{IsWheel-pass}
use Rattle.tick_wheel.proofs.Wheel.pass.Goals as goal

pub invariant_of-self : goal.invariant_of-self
invariant_of-self c =
    let none = subst (λ (t : Turning). not_due t.deadlines (t.clock + c.args.ticks) ≡ t.deadlines) (sym c.self.view_is) c.requires.none in
    let clock = ap (λ (t : Turning). t.clock) c.self.view_is in
    (IsWheel-pass c.self.inside.clock (c.self.inside.clock + c.args.ticks) c.self.inside.deadlines.items c.self.inside.lists c.self.invariant.0 (omega (arith, clock, c.requires.clock)) none, c.self.invariant.1)
