use Rattle.std.proofs.Common.{ℕ, ◌+◌, ◌++◌, reverse, take, refl, sym, ap, subst, arith}
use Rattle.std.specs.Option.{option_to_list}
use Rattle.su_octets.specs.Bits.{bits_of}
use Rattle.bit_line.specs.Deframing.{StandsAt}
use Rattle.bit_line.specs.Running.{with_run}
use Rattle.bit_line.proofs.EventLaws.{at_next}
use Rattle.bit_line.proofs.RunLaws as laws
use Rattle.bit_line.proofs.run.Run.over.Goals as goal

pub loop-octet-init : goal.loop-octet-init
loop-octet-init c = record { count = refl; stands = λ base h events calm stands. laws.run_none h events (with_run base c.args.self c.args.octets.now.items) c.args.line.now stands }

pub returns-then-len-ge277-clause-stands : goal.returns-then-len-ge277-clause-stands
returns-then-len-ge277-clause-stands c base h events calm stands =
    let P : ℕ → Type 0 = λ n. StandsAt (reverse (bits_of (take n c.args.line.now)) ++ h) events (with_run base c.loop-octet.run c.loop-octet.octets.items) in
    subst P (sym c.loop-octet.invariant.count) (c.loop-octet.invariant.stands base h events calm stands)

pub returns-in-None-clause-stands : goal.returns-in-None-clause-stands
returns-in-None-clause-stands c base h events calm stands =
    let P : ℕ → Type 0 = λ n. StandsAt (reverse (bits_of (take n c.args.line.now)) ++ h) events (with_run base c.loop-octet.run c.loop-octet.octets.items) in
    subst P (sym c.loop-octet.invariant.count) (c.loop-octet.invariant.stands base h events calm stands)

pub loop-octet-preserved : goal.loop-octet-preserved
loop-octet-preserved c = record {
  count = ap (λ n. n + 1) c.loop-octet.invariant.count;
  stands = λ base h events calm stands.
      at_next c.loop-octet.octet-index c.args.line.now h events (with_run base c.in-Some.step.run c.put.new.octets.items) c.loop-octet-test.true
      (laws.run_pushed base c.loop-octet.run c.in-Some.step.run _ (option_to_list c.in-Some.step.whole) c.loop-octet.octets.items c.put.new.octets.items _ events c.put.ensures
      (omega (arith, c.len.ensures.value, c.if-len-ge277.false)) calm c.in-Some.ensures (c.loop-octet.invariant.stands base h events calm stands));
}

pub returns-clause-stands : goal.returns-clause-stands
returns-clause-stands c base h events calm stands =
    let P : ℕ → Type 0 = λ n. StandsAt (reverse (bits_of (take n c.args.line.now)) ++ h) events (with_run base c.loop-octet.run c.loop-octet.octets.items) in
    subst P (sym c.loop-octet.invariant.count) (c.loop-octet.invariant.stands base h events calm stands)
