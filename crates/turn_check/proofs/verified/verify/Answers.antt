use Rattle.std.proofs.Common.{◌≡◌, true, false}
use Rattle.turn_check.specs.Faults.{rule_of, spot_of}
use Rattle.turn_check.proofs.Whole.{valid_keeps}
use Rattle.turn_check.proofs.verified.verify.Goals as goal

pub returns-in-Err-clause-exact : goal.returns-in-Err-clause-exact
returns-in-Err-clause-exact c =
    let e = c.in-Err.fault in (
      λ (f : false ≡ true). cc,
      λ v. absurd (c.in-Err.ensures.err
          (valid_keeps c.args.draft (rule_of e) (spot_of e).process.0 (spot_of e).state (spot_of e).input (spot_of e).place v)),
    )
