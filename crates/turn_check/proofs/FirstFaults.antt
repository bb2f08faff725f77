-- The first fault of a process is that of the draft, if the processes before it are valid.
use Rattle.std.proofs.Common.{◌≡◌, ℕ, ◌<◌, Some, sym, subst}
use Rattle.turn_code.specs.Transitions.{transition_at}
use Rattle.turn_code.specs.Rules.{KeepsSetLimits}
use Rattle.turn_code.specs.declared.draft.Draft.{Draft}
use Rattle.turn_check.specs.declared.fault.VerifyFault.{VerifyFault}
use Rattle.turn_check.specs.Faults.{spot_of}
use Rattle.turn_check.specs.Walk.{IsValidAt, IsValidState, IsValidProcess}
use Rattle.turn_check.specs.Earliest.{IsFirstFault, IsFirstOfProcess}

pub first_of_draft : (d : Draft) (p : ℕ) (e : VerifyFault) → KeepsSetLimits d → IsFirstOfProcess d p e → ((q : ℕ) → q < p → IsValidProcess d q)
    → IsFirstFault d e
first_of_draft d p e limits first below =
    let number : (spot_of e).process.0 ≡ p = first.state.at.process in
    record {
      limits = λ other. limits;
      processes = λ q low. below q (subst (λ n. q < n) number low);
      states = λ s early. subst (λ n. IsValidState d n s) (sym number) (first.states s early);
      inputs = λ i low. subst (λ n. IsValidAt d n (spot_of e).state i) (sym number) (first.state.inputs i low);
      here = λ keeps t there.
          first.state.at.here t (subst (λ n. transition_at d n (spot_of e).state (spot_of e).input ≡ Some t) number there);
    }
