use Rattle.std.proofs.Common.{ℕ, ◌≡◌, ◌<◌, ◌*◌, ◌%◌, ◌^◌, sym, subst, arith}
use Rattle.std.proofs.lemmas.Nat.{one_shl, mod_below, pow_pos}
use Rattle.bit_line.proofs.PassLaws.{late_fits}
use Rattle.bit_line.proofs.receiver.Receiver.short_before.Goals as goal

pub short_unit-requires-clause-fits : goal.short_unit-requires-clause-fits
short_unit-requires-clause-fits c =
    let place : ℕ = c.args.place in
    let power : 1 * 2 ^ place % 18446744073709551616 ≡ 2 ^ place = one_shl place 64 (omega (arith, c.requires)) in
    let Within : ℕ → Type 0 = λ n. c.args.window % n < 2 ^ place in
    late_fits (c.args.window % (1 * 2 ^ place % 18446744073709551616)) place c.args.self.now.gate.wait (omega (arith, c.if-place-wait.false))
    (subst Within (sym power) (mod_below c.args.window (2 ^ place) (pow_pos place)))
