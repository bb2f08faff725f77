use Rattle.std.proofs.Common.{◌≤◌, length, sym, arith}
use Rattle.std.proofs.lemmas.List.{set_past}
use Rattle.turn_code.proofs.Lists.{refill_set}
use Rattle.script_covered.proofs.ways.put_at.Goals as goal

pub returns-then-number-len : goal.returns-then-number-len
returns-then-number-len c = refill_set c.args.values.now.items c.deref_mut.result.now c.args.number c.args.value c.deref_mut.ensures.value

pub returns-else-number-len : goal.returns-else-number-len
returns-else-number-len c =
    let h : length c.args.values.now.items ≤ c.args.number = omega arith in
    sym (set_past c.args.values.now.items c.args.number c.args.value h)
