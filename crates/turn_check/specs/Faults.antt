-- The meaning of a refusal.
use Rattle.turn_code.specs.Valid.{IsBrokenAt}
use Rattle.turn_code.specs.declared.draft.Draft.{Draft}
use Rattle.turn_code.specs.declared.rule.Rule.{Rule}
use Rattle.turn_code.specs.declared.rule.Rule.TheVariants as rules
use Rattle.turn_check.specs.declared.fault.Spot.{Spot}
use Rattle.turn_check.specs.declared.fault.VerifyFault.{VerifyFault}
use Rattle.turn_check.specs.declared.fault.VerifyFault.TheVariants.{Jump, Shape, Under, Sort, Unset}
use Rattle.turn_check.specs.declared.fault.VerifyFault.TheVariants.{State, Number, Limit, Budget}

abbrev pub rule_of : VerifyFault → Rule
rule_of (Jump s) = rules.Jump
rule_of (Shape s) = rules.Shape
rule_of (Under s) = rules.Under
rule_of (Sort s) = rules.Sort
rule_of (Unset s) = rules.Unset
rule_of (State s) = rules.State
rule_of (Number s) = rules.Number
rule_of (Limit s) = rules.Limit
rule_of (Budget s) = rules.Budget

abbrev pub spot_of : VerifyFault → Spot
spot_of (Jump s) = s
spot_of (Shape s) = s
spot_of (Under s) = s
spot_of (Sort s) = s
spot_of (Unset s) = s
spot_of (State s) = s
spot_of (Number s) = s
spot_of (Limit s) = s
spot_of (Budget s) = s

-- the rule is broken at the spot
abbrev pub IsBrokenSpot : Draft → Rule → Spot → Type 0
IsBrokenSpot d rule s = IsBrokenAt d rule s.process.0 s.state s.input s.place

-- the rule that the fault names is broken at the spot that it names
abbrev pub IsBroken : Draft → VerifyFault → Type 0
IsBroken d e = IsBrokenSpot d (rule_of e) (spot_of e)
