-- What each rule requires of an instruction and its facts, and of a transition as a whole.
use Rattle.std.specs.Prelude.{◌≡◌, ℕ, ◌+◌, ◌<◌, ◌≤◌, ◌≤ℤ◌, pos, [], List, length, All, Contains}
use Rattle.std.specs.Prelude.{Some, None, slice_get}
use Rattle.turn_code.specs.Sets.{Has, IsWithin}
use Rattle.turn_code.specs.Code.{takes, shape_after, shape_left, reads, sets, set_after}
use Rattle.turn_code.specs.Code.{parameters_in, timers_in, divisors_in, states_in, jumps, behind}
use Rattle.turn_code.specs.Code.{successors, effects_of}
use Rattle.turn_code.specs.Transitions.{Transition}
use Rattle.turn_code.specs.Rules.{AtEach, Agree, StartsRight, HasTrigger, HasSaves, KeepsOutput}
use Rattle.turn_code.specs.Rules.{KeepsProcessLimits, KeepsPieceLimits, KeepsCertificate, greatest}
use Rattle.turn_code.specs.Rules.{counts_at, effects_at}
use Rattle.turn_code.specs.declared.value.Sort.{Sort as SortOf}
use Rattle.turn_code.specs.declared.instruction.Instruction.{Instruction}
use Rattle.turn_code.specs.declared.draft.Draft.{Draft}
use Rattle.turn_code.specs.declared.draft.DraftSignal.{DraftSignal}
use Rattle.turn_code.specs.declared.draft.DraftState.{DraftState}
use Rattle.turn_code.specs.declared.draft.DraftPiece.{DraftPiece}
use Rattle.turn_code.specs.declared.draft.PlaceFacts.{PlaceFacts}
use Rattle.turn_code.specs.declared.variable_set.VariableSet.{VariableSet}
use Rattle.turn_code.specs.declared.rule.Rule.{Rule}
use Rattle.turn_code.specs.declared.rule.Rule.TheVariants.{Jump, Shape, Under, Sort, Unset, State}
use Rattle.turn_code.specs.declared.rule.Rule.TheVariants.{Number, Limit, Budget}

pub record SetsPart (t : Transition) (k : ℕ) (i : Instruction) (f : PlaceFacts) : Type 0 where
  pub reads_set : All (Has f.set) (reads i)
  pub each : AtEach t.piece (successors i k) (λ g. IsWithin g.set (set_after i f.set))
  pub states :
      (q : ℕ) (s : DraftState) → Contains (states_in i) q → slice_get t.process.states q ≡ Some s
      → IsWithin s.set (set_after i f.set)

-- the next place, and the places where the instruction jumps to, have the shapes that it leaves for
-- them
pub record ShapesPart (ss : List DraftSignal) (t : Transition) (k : ℕ) (i : Instruction)
    (shape : List SortOf) : Type 0 where
  pub each : AtEach t.piece (behind i k) (λ g. g.shape
      ≡ shape_after ss t.process.variables t.parameters i shape)
  pub jumped : AtEach t.piece (jumps i) (λ g. g.shape ≡ shape_left ss t.process.variables i shape)

pub record NumbersPart (d : Draft) (t : Transition) (i : Instruction) : Type 0 where
  pub reads_there : All (λ v. v < length t.process.variables) (reads i)
  pub sets_there : All (λ v. v < length t.process.variables) (sets i)
  pub parameters : All (λ j. j < length t.parameters) (parameters_in i)
  pub timers : All (λ n. n < length t.process.timers) (timers_in i)
  pub divisors : All (λ z. pos 1 ≤ℤ z) (divisors_in i)
  pub outputs : KeepsOutput d t i

pub record CountsPart (t : Transition) (k : ℕ) (i : Instruction) (f : PlaceFacts) : Type 0 where
  pub counts : f.count ≡ 1 + greatest (counts_at t.piece (successors i k))
  pub effects : f.effects ≡ effects_of i + greatest (effects_at t.piece (successors i k))

-- what a rule requires of the instruction i with the facts f at place k
abbrev pub Part : Rule → Draft → Transition → ℕ → Instruction → PlaceFacts → Type 0
Part Jump d t k i f = All (λ j. j < length t.piece.code) (successors i k)
Part Shape d t k i f = ShapesPart d.signals t k i f.shape
Part Under d t k i f = length (takes d.signals t.process.variables i) ≤ length f.shape
Part Sort d t k i f = Agree (takes d.signals t.process.variables i) f.shape
Part Unset d t k i f = SetsPart t k i f
Part State d t k i f = All (λ q. q < length t.process.states) (states_in i)
Part Number d t k i f = NumbersPart d t i
Part Limit d t k i f = Unit {0}
Part Budget d t k i f = CountsPart t k i f

pub record AllParts (d : Draft) (t : Transition) (k : ℕ) (i : Instruction) (f : PlaceFacts) :
    Type 0 where
  pub jump : Part Jump d t k i f
  pub shape : Part Shape d t k i f
  pub under : Part Under d t k i f
  pub sort : Part Sort d t k i f
  pub unset : Part Unset d t k i f
  pub state : Part State d t k i f
  pub number : Part Number d t k i f
  pub budget : Part Budget d t k i f

pub record HasShapes (piece : DraftPiece) : Type 0 where
  pub facts : length piece.facts ≡ length piece.code
  pub empty : (f : PlaceFacts) → slice_get piece.facts 0 ≡ Some f → f.shape ≡ []

pub record LimitsEntry (t : Transition) : Type 0 where
  pub process : t.trigger ≡ None → KeepsProcessLimits t.process
  pub piece : KeepsPieceLimits t.piece

-- the trigger of the transition is declared, and at START each trigger that a state saves
pub record NamesEntry (d : Draft) (t : Transition) : Type 0 where
  pub trigger : HasTrigger d.signals t.process t.trigger
  pub saves : t.trigger ≡ None → All (HasSaves d.signals t.process) t.process.states

-- what a rule requires of a transition as a whole
abbrev pub Entry : Rule → Draft → Transition → Type 0
Entry Jump d t = 0 < length t.piece.code
Entry Shape d t = HasShapes t.piece
Entry Under d t = Unit {0}
Entry Sort d t = t.trigger ≡ None → All StartsRight t.process.variables
Entry Unset d t = (f : PlaceFacts) → slice_get t.piece.facts 0 ≡ Some f → f.set ≡ t.entry
Entry State d t = Unit {0}
Entry Number d t = NamesEntry d t
Entry Limit d t = LimitsEntry t
Entry Budget d t = KeepsCertificate t.piece

pub record AllEntries (d : Draft) (t : Transition) : Type 0 where
  pub jump : Entry Jump d t
  pub shape : Entry Shape d t
  pub sort : Entry Sort d t
  pub unset : Entry Unset d t
  pub number : Entry Number d t
  pub limit : Entry Limit d t
  pub budget : Entry Budget d t

-- what a rule requires of the places where the code goes on, in a draft with these signals; other
-- rules require nothing there
abbrev pub NextPart : Rule → List DraftSignal → Transition → ℕ → Instruction → PlaceFacts → Type 0
NextPart Jump ss t k i f = All (λ j. j < length t.piece.code) (successors i k)
NextPart Shape ss t k i f = ShapesPart ss t k i f.shape
NextPart Unset ss t k i f = SetsPart t k i f
NextPart Budget ss t k i f = CountsPart t k i f
NextPart _ ss t k i f = Unit {0}

pub record AllNexts (ss : List DraftSignal) (t : Transition) (k : ℕ) (i : Instruction)
    (f : PlaceFacts) : Type 0 where
  pub jump : NextPart Jump ss t k i f
  pub shape : NextPart Shape ss t k i f
  pub unset : NextPart Unset ss t k i f
  pub budget : NextPart Budget ss t k i f

-- the rule on set variables; the code goes on at the places js
pub record SetsHold (t : Transition) (js : List ℕ) (i : Instruction) (s : VariableSet) :
    Type 0 where
  pub reads_set : All (Has s) (reads i)
  pub each : (j : ℕ) (g : PlaceFacts) → Contains js j → slice_get t.piece.facts j ≡ Some g
      → IsWithin g.set (set_after i s)
  pub states :
      (q : ℕ) (st : DraftState) → Contains (states_in i) q → slice_get t.process.states q ≡ Some st
      → IsWithin st.set (set_after i s)

-- the requirements on the first place and on the certificate
pub record FirstPlace (t : Transition) : Type 0 where
  pub jump : 0 < length t.piece.code
  pub shape : HasShapes t.piece
  pub unset : (f : PlaceFacts) → slice_get t.piece.facts 0 ≡ Some f → f.set ≡ t.entry
  pub budget : KeepsCertificate t.piece

-- what the rules require of the instruction at place k, if there is one with facts
pub record HasParts (d : Draft) (t : Transition) (k : ℕ) : Type 0 where
  pub each : (i : Instruction) (f : PlaceFacts) → slice_get t.piece.code k ≡ Some i
      → slice_get t.piece.facts k ≡ Some f → AllParts d t k i f
