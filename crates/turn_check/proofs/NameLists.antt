-- No name is past the end of a list, and the lists of names are short.
use Rattle.std.proofs.Common.{◌≡◌, ℕ, ◌<◌, ◌≤◌, List, length, Option, Some, None, refl, subst, ⊎_elim, arith}
use Rattle.std.specs.Prelude.{slice_get}
use Rattle.std.proofs.lemmas.Bool.{cases_lt}
use Rattle.std.proofs.lemmas.Option.{slice_get_past}
use Rattle.std.proofs.lemmas.List.{length-map}
use Rattle.turn_code.specs.Valid.{IsValid}
use Rattle.turn_code.specs.declared.draft.Draft.{Draft}
use Rattle.turn_code.specs.declared.draft.DraftSignal.{DraftSignal}
use Rattle.turn_code.specs.declared.draft.DraftProcess.{DraftProcess}
use Rattle.turn_code.specs.declared.draft.DraftVariable.{DraftVariable}
use Rattle.turn_check.specs.Named.{IsNamed, IsNowhere, instances_of, instances_at, process_names, signal_names, variable_names, variables_of, variables_at, timer_names, timers_of}
use Rattle.turn_check.proofs.Whole.{process_small, start_small}

pub nowhere : (names : List (List ℕ)) (name : List ℕ) (n : ℕ) → length names ≤ n → ((k : ℕ) → k < n → IsNamed (slice_get names k) name → ⊥)
    → IsNowhere names name
nowhere names name n long below k h =
    ⊎_elim
    (λ (low : k < n). below k low h)
    (λ (high : n ≤ k). subst (λ o. IsNamed o name) (slice_get_past names k (omega arith)) h)
    (cases_lt k n)

pub few_processes : (d : Draft) → IsValid d → length (process_names d) ≤ 16
few_processes d valid =
    let same = length-map d.processes (λ (p : DraftProcess). p.name) in
    let limit = valid.limits.processes in
    omega arith

pub few_signals : (d : Draft) → IsValid d → length (signal_names d) ≤ 128
few_signals d valid =
    let same = length-map d.signals (λ (s : DraftSignal). s.name) in
    let limit = valid.limits.signals in
    omega arith

variables_of_few : (d : Draft) (p : ℕ) → IsValid d → (o : Option DraftProcess) → slice_get d.processes p ≡ o → length (variables_of o) ≤ 32
variables_of_few d p valid None e = omega arith
variables_of_few d p valid (Some process) e = start_small d p process valid e

pub few_variables_at : (d : Draft) (p : ℕ) → IsValid d → length (variables_at d p) ≤ 32
few_variables_at d p valid = variables_of_few d p valid (slice_get d.processes p) refl

pub few_variables : (d : Draft) (p : ℕ) → IsValid d → length (variable_names d p) ≤ 32
few_variables d p valid =
    let same = length-map (variables_at d p) (λ (x : DraftVariable). x.name) in
    let limit = few_variables_at d p valid in
    omega arith

instances_few : (d : Draft) (p : ℕ) → IsValid d → (o : Option DraftProcess) → slice_get d.processes p ≡ o → instances_of o ≤ 8
instances_few d p valid None e = omega arith
instances_few d p valid (Some process) e = (process_small d p process valid e).instances

pub few_instances : (d : Draft) (p : ℕ) → IsValid d → instances_at d p ≤ 8
few_instances d p valid = instances_few d p valid (slice_get d.processes p) refl

timers_few : (d : Draft) (p : ℕ) → IsValid d → (o : Option DraftProcess) → slice_get d.processes p ≡ o → length (timers_of o) ≤ 8
timers_few d p valid None e = omega arith
timers_few d p valid (Some process) e = (process_small d p process valid e).timers

pub few_timers : (d : Draft) (p : ℕ) → IsValid d → length (timer_names d p) ≤ 8
few_timers d p valid = timers_few d p valid (slice_get d.processes p) refl
