use Rattle.std.proofs.Common.{◌≡◌, ℕ, ◌+◌, ◌-◌, ◌++◌, take, subst, arith}
use Rattle.su_octets.specs.Bits.{bits_of}
use Rattle.bit_line.specs.Events.{AreEvents}
use Rattle.bit_line.proofs.UntilLaws as laws
use Rattle.bit_line.proofs.receiver.Receiver.feed_until.Goals as goal

pub loop-taken-init : goal.loop-taken-init
loop-taken-init c = record {
  within = omega arith;
  stands = λ bits stands. laws.start_stands bits c.args.self.now stands;
  quiet = λ bits events stands are. laws.start_events bits events are;
}

pub returns-in-Some-clause-stands : goal.returns-in-Some-clause-stands
returns-in-Some-clause-stands c bits stands =
    laws.stands_next (c.loop-taken.taken + c.take_run-taken.result) c.args.octets.now bits c.feed_one-given.new.self c.if-taken-octets.true
    (c.in-Some.ensures.stands _ (laws.run_stands c.loop-taken.taken c.take_run-taken.result c.args.octets.now bits c.loop-taken.self c.take_run-taken.new.self (λ h es. c.take_run-taken.ensures.stands h es) (c.loop-taken.invariant.stands bits stands)))

pub returns-in-Some-clause-events : goal.returns-in-Some-clause-events
returns-in-Some-clause-events c bits events stands are =
    laws.events_next (c.loop-taken.taken + c.take_run-taken.result) c.args.octets.now bits _ c.if-taken-octets.true
    (c.in-Some.ensures.events _ events (laws.run_stands c.loop-taken.taken c.take_run-taken.result c.args.octets.now bits c.loop-taken.self c.take_run-taken.new.self (λ h es. c.take_run-taken.ensures.stands h es) (c.loop-taken.invariant.stands bits stands)) (laws.run_events c.loop-taken.taken c.take_run-taken.result c.args.octets.now bits events c.loop-taken.self c.take_run-taken.new.self (λ h es. c.take_run-taken.ensures.stands h es) (c.loop-taken.invariant.stands bits stands) (c.loop-taken.invariant.quiet bits events stands are)))

pub returns-in-Some-clause-before : goal.returns-in-Some-clause-before
returns-in-Some-clause-before c some bits events stands are =
    let P : ℕ → Type 0 = λ n. AreEvents (bits ++ bits_of (take n c.args.octets.now)) events in
    (omega arith, subst P (let e : c.loop-taken.taken + c.take_run-taken.result ≡ c.loop-taken.taken + c.take_run-taken.result + 1 - 1 = omega arith in e) (laws.run_events c.loop-taken.taken c.take_run-taken.result c.args.octets.now bits events c.loop-taken.self c.take_run-taken.new.self (λ h es. c.take_run-taken.ensures.stands h es) (c.loop-taken.invariant.stands bits stands) (c.loop-taken.invariant.quiet bits events stands are)))

pub returns-in-Some-clause-decode : goal.returns-in-Some-clause-decode
returns-in-Some-clause-decode c bits stands = c.in-Some.ensures.decode _ (laws.run_stands c.loop-taken.taken c.take_run-taken.result c.args.octets.now bits c.loop-taken.self c.take_run-taken.new.self (λ h es. c.take_run-taken.ensures.stands h es) (c.loop-taken.invariant.stands bits stands))

pub returns-in-Some-clause-one : goal.returns-in-Some-clause-one
returns-in-Some-clause-one c bits stands = c.in-Some.ensures.one _ (laws.run_stands c.loop-taken.taken c.take_run-taken.result c.args.octets.now bits c.loop-taken.self c.take_run-taken.new.self (λ h es. c.take_run-taken.ensures.stands h es) (c.loop-taken.invariant.stands bits stands))

pub loop-taken-preserved-in_default : goal.loop-taken-preserved-in_default
loop-taken-preserved-in_default c = record {
  within = omega (arith, c.if-taken-octets.true);
  stands = λ bits stands.
      laws.stands_next (c.loop-taken.taken + c.take_run-taken.result) c.args.octets.now bits c.feed_one-given.new.self c.if-taken-octets.true
      (c.in_default.ensures.stands _ (laws.run_stands c.loop-taken.taken c.take_run-taken.result c.args.octets.now bits c.loop-taken.self c.take_run-taken.new.self (λ h es. c.take_run-taken.ensures.stands h es) (c.loop-taken.invariant.stands bits stands)));
  quiet = λ bits events stands are.
      laws.quiet_next (c.loop-taken.taken + c.take_run-taken.result) c.args.octets.now bits events c.if-taken-octets.true
      (c.in_default.ensures.events _ events (laws.run_stands c.loop-taken.taken c.take_run-taken.result c.args.octets.now bits c.loop-taken.self c.take_run-taken.new.self (λ h es. c.take_run-taken.ensures.stands h es) (c.loop-taken.invariant.stands bits stands)) (laws.run_events c.loop-taken.taken c.take_run-taken.result c.args.octets.now bits events c.loop-taken.self c.take_run-taken.new.self (λ h es. c.take_run-taken.ensures.stands h es) (c.loop-taken.invariant.stands bits stands) (c.loop-taken.invariant.quiet bits events stands are)));
}

pub loop-taken-preserved : goal.loop-taken-preserved
loop-taken-preserved c = record {
  within = omega (arith, c.take_run-taken.ensures.most, laws.tail_length c.loop-taken.taken c.args.octets.now, c.loop-taken.invariant.within);
  stands = λ bits stands. laws.run_stands c.loop-taken.taken c.take_run-taken.result c.args.octets.now bits c.loop-taken.self c.take_run-taken.new.self (λ h es. c.take_run-taken.ensures.stands h es) (c.loop-taken.invariant.stands bits stands);
  quiet = λ bits events stands are. laws.run_events c.loop-taken.taken c.take_run-taken.result c.args.octets.now bits events c.loop-taken.self c.take_run-taken.new.self (λ h es. c.take_run-taken.ensures.stands h es) (c.loop-taken.invariant.stands bits stands) (c.loop-taken.invariant.quiet bits events stands are);
}
