use Rattle.std.proofs.Common.{rules, ◌≡◌, ◌<◌, ◌≤◌, length, arith}
use Rattle.turn_code.specs.Machine.{progress_of}
use Rattle.turn_code.proofs.Stored.{store_there, store_gone}
use Rattle.turn_code.proofs.machine.Machine.store.Goals as goal

pub returns-then-place-len-clause-exact : goal.returns-then-place-len-clause-exact
returns-then-place-len-clause-exact c =
    let e : c.from-place.result ≡ c.args.variable.0 = search rules in
    let h : c.from-place.result < length c.args.self.now.variables.items = omega arith in
    store_there c.args.next c.args.self.now.operands c.pop.new.self (progress_of c.args.self.now) c.args.variable.0 c.from-place.result
    c.in-Some.value c.deref_mut.result.now c.in-Some.ensures.some e h c.deref_mut.ensures.value

pub returns-else-place-len-clause-exact : goal.returns-else-place-len-clause-exact
returns-else-place-len-clause-exact c =
    let e : c.from-place.result ≡ c.args.variable.0 = search rules in
    let h : length c.args.self.now.variables.items ≤ c.from-place.result = omega arith in
    store_gone c.args.next c.args.self.now.operands c.pop.new.self (progress_of c.args.self.now) c.args.variable.0 c.from-place.result
    c.in-Some.value c.in-Some.ensures.some e h
