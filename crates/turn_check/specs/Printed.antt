-- How a broken rule is printed, with the place where it is broken: its code and name, and numbers
-- in decimal.
use Rattle.std.specs.Prelude.{ℕ, List, ◌++◌, codes}
use Rattle.std.specs.Fmt.{decimal}
use Rattle.turn_code.specs.declared.input.Place.{Place}
use Rattle.turn_code.specs.declared.input.Place.TheVariants.{Start, State as InState}
use Rattle.turn_code.specs.declared.rule.Rule.{Rule}
use Rattle.turn_code.specs.declared.rule.Rule.TheVariants.{Jump, Shape, Under, Sort, Unset, State}
use Rattle.turn_code.specs.declared.rule.Rule.TheVariants.{Number, Limit, Budget}
use Rattle.turn_check.specs.declared.fault.Spot.{Spot}
use Rattle.turn_check.specs.declared.fault.VerifyFault.{VerifyFault}
use Rattle.turn_check.specs.Faults.{rule_of, spot_of}

-- START, or a state with an input
abbrev pub state_text : Place → ℕ → List ℕ
state_text Start input = codes " START"
state_text (InState state) input =
    codes " state " ++ decimal state.0 ++ codes " input " ++ decimal input

abbrev pub spot_text : Spot → List ℕ
spot_text s =
    codes "process " ++ decimal s.process.0 ++ state_text s.state s.input ++ codes " place "
    ++ decimal s.place

abbrev pub rule_text : Rule → List ℕ
rule_text Jump = codes "V1 Jump"
rule_text Shape = codes "V2 Shape"
rule_text Under = codes "V3 Under"
rule_text Sort = codes "V4 Sort"
rule_text Unset = codes "V5 Unset"
rule_text State = codes "V6 State"
rule_text Number = codes "V7 Number"
rule_text Limit = codes "V8 Limit"
rule_text Budget = codes "V9 Budget"

abbrev pub verify_fault_text : VerifyFault → List ℕ
verify_fault_text e = rule_text (rule_of e) ++ codes " " ++ spot_text (spot_of e)
