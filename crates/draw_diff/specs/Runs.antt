-- When two transitions behave the same on all inputs, up to numbers: the law of renamed code.
use Rattle.std.specs.Prelude.{◌≡◌, ℕ, true, List, map, Option, Some, None, option_map, slice_get}
use Rattle.turn_code.specs.declared.value.Value.{Value}
use Rattle.turn_code.specs.declared.instruction.Instruction.{Instruction}
use Rattle.turn_code.specs.declared.input.Input.{Input}
use Rattle.turn_code.specs.declared.input.Party.{Party}
use Rattle.turn_code.specs.declared.input.Address.{Address}
use Rattle.turn_code.specs.declared.effect.Effect.{Effect}
use Rattle.turn_code.specs.declared.effect.Effect.TheVariants as effects
use Rattle.turn_code.specs.declared.effect.Sending.{Sending}
use Rattle.turn_code.specs.declared.machine.End.{End}
use Rattle.turn_code.specs.declared.machine.End.TheVariants as code_ends
use Rattle.turn_code.specs.Run.{Progress, Ran, ended, got_stuck, unfinished, run}
use Rattle.draw_diff.specs.Names.{Sides, moved_signal, moved_state, moved_timer, moved_variable}
use Rattle.draw_diff.specs.Renaming.{renamed_party, are_renamed}

abbrev pub at_party : Address → Option Party → Option Address
at_party a None = None
at_party a (Some p) = Some (record { party = p; instance = a.instance })

abbrev pub renamed_address : Sides → Address → Option Address
renamed_address s a = at_party a (renamed_party s a.party)

-- variables of the same name have the same value, or neither has one
abbrev pub Agree : Sides → List (Option Value) → List (Option Value) → Type 0
Agree s olds news =
    (v w : ℕ) → moved_variable s v ≡ Some w → slice_get olds v ≡ slice_get news w

-- two inputs that differ only in numbers: equal parameters, and after renaming the same sender and
-- the same values of variables
pub record AreInputs (s : Sides) (x y : Input) : Type 0 where
  pub parameters : x.parameters ≡ y.parameters
  pub sender :
      option_map (renamed_address s) x.sender ≡ option_map (λ (a : Address). Some a) y.sender
  pub variables : Agree s x.variables.items y.variables.items

-- ---- the results of two runs

abbrev pub sent_as : Sending → Option ℕ → Option Address → Option Effect
sent_as e None a = None
sent_as e (Some n) None = None
sent_as e (Some n) (Some a) =
    Some (effects.Output
    (record { signal = record { 0 = n }; receiver = a; parameters = e.parameters }))

abbrev pub renamed_effect : Sides → Effect → Option Effect
renamed_effect s (effects.Output e) =
    sent_as e (moved_signal s e.signal.0) (renamed_address s e.receiver)
renamed_effect s (effects.Set t z) =
    option_map (λ u. effects.Set (record { 0 = u }) z) (moved_timer s t.0)
renamed_effect s (effects.Reset t) =
    option_map (λ u. effects.Reset (record { 0 = u })) (moved_timer s t.0)

abbrev pub renamed_end : Sides → End → Option End
renamed_end s (code_ends.State q) =
    option_map (λ r. code_ends.State (record { 0 = r })) (moved_state s q.0)
renamed_end s code_ends.Stop = Some code_ends.Stop

-- the state of two runs so far: after renaming the same effects in the same order, the same
-- values of variables, and the same count
pub record AreDone (s : Sides) (a b : Progress) : Type 0 where
  pub variables : Agree s a.variables b.variables
  pub effects : map (renamed_effect s) a.effects ≡ map (λ (e : Effect). Some e) b.effects
  pub count : a.count ≡ b.count

-- the ends of two runs: after renaming the same end, or the same trouble
abbrev pub AreRuns : Sides → Ran → Ran → Type 0
AreRuns s (ended e a) (ended f b) = (renamed_end s e ≡ Some f) × AreDone s a b
AreRuns s (ended e a) (got_stuck t) = ⊥
AreRuns s (ended e a) unfinished = ⊥
AreRuns s (got_stuck t) (ended f b) = ⊥
AreRuns s (got_stuck t) (got_stuck u) = t ≡ u
AreRuns s (got_stuck t) unfinished = ⊥
AreRuns s unfinished (ended f b) = ⊥
AreRuns s unfinished (got_stuck u) = ⊥
AreRuns s unfinished unfinished = Unit {0}

-- Renamed code does the same on all inputs that differ only in numbers.
abbrev pub RunsLaw : Type 0
RunsLaw =
    (s : Sides) (olds news : List Instruction) (x y : Input) → are_renamed s olds news ≡ true
    → AreInputs s x y → AreRuns s (run olds x) (run news y)
