-- What a valid draft keeps, rule by rule, at each place of each transition.
use Rattle.std.specs.Prelude.{◌≡◌, ℕ, ◌+◌, ◌<◌, ◌≤◌, pos, ◌≤ℤ◌, max, List, [], ◌∷◌, length, map}
use Rattle.std.specs.Prelude.{sum_by, All, Contains, Option, Some, None, IfSome, slice_get}
use Rattle.plain_laws.specs.Limits.{MOST_EFFECTS, MOST_INSTANCES, MOST_INSTRUCTIONS, MOST_OPERANDS}
use Rattle.plain_laws.specs.Limits.{MOST_PARAMETERS, MOST_PIECES, MOST_PROCESSES, MOST_SIGNALS}
use Rattle.plain_laws.specs.Limits.{MOST_STATES, MOST_TIMERS_EACH, MOST_VARIABLES}
use Rattle.turn_code.specs.Values.{sort_of}
use Rattle.turn_code.specs.Sets.{Has, IsWithin}
use Rattle.turn_code.specs.Routes.{IsPartyOf, Reaches, Answers}
use Rattle.turn_code.specs.Code.{takes, shape_left, shape_after, reads, sets, set_after}
use Rattle.turn_code.specs.Code.{parameters_in, timers_in, divisors_in, states_in, jumps, behind}
use Rattle.turn_code.specs.Code.{successors, effects_of}
use Rattle.turn_code.specs.Transitions.{Transition, parameters_of}
use Rattle.turn_code.specs.declared.value.Sort.{Sort}
use Rattle.turn_code.specs.declared.numbers.SignalNumber.{SignalNumber}
use Rattle.turn_code.specs.declared.instruction.Receiver.{Receiver}
use Rattle.turn_code.specs.declared.instruction.Receiver.TheVariants.{Party as ToParty}
use Rattle.turn_code.specs.declared.instruction.Receiver.TheVariants.{Sender as ToSender}
use Rattle.turn_code.specs.declared.instruction.Instruction.{Instruction}
use Rattle.turn_code.specs.declared.instruction.Instruction.TheVariants.{Output}
use Rattle.turn_code.specs.declared.draft.Draft.{Draft}
use Rattle.turn_code.specs.declared.draft.DraftSignal.{DraftSignal}
use Rattle.turn_code.specs.declared.draft.DraftProcess.{DraftProcess}
use Rattle.turn_code.specs.declared.draft.DraftState.{DraftState}
use Rattle.turn_code.specs.declared.draft.DraftVariable.{DraftVariable}
use Rattle.turn_code.specs.declared.draft.DraftPiece.{DraftPiece}
use Rattle.turn_code.specs.declared.draft.PlaceFacts.{PlaceFacts}
use Rattle.turn_code.specs.declared.draft.Trigger.{Trigger}
use Rattle.turn_code.specs.declared.draft.Trigger.TheVariants.{Signal, Timer}

-- P holds of the instruction at a place and of the facts there
abbrev pub AtPlace : DraftPiece → ℕ → (Instruction → PlaceFacts → Type 0) → Type 0
AtPlace piece k P =
    (i : Instruction) (f : PlaceFacts) → slice_get piece.code k ≡ Some i
    → slice_get piece.facts k ≡ Some f → P i f

-- P holds of the instruction at a place, whether or not the place has facts
abbrev pub AtCode : DraftPiece → ℕ → (Instruction → Type 0) → Type 0
AtCode piece k P = (i : Instruction) → slice_get piece.code k ≡ Some i → P i

-- P holds of the facts at each of some places that has facts
abbrev pub AtEach : DraftPiece → List ℕ → (PlaceFacts → Type 0) → Type 0
AtEach piece js P =
    (j : ℕ) (f : PlaceFacts) → Contains js j → slice_get piece.facts j ≡ Some f → P f

-- ---- V1: the first place, and each place where the code goes on, is inside the code
pub record JumpsInside (t : Transition) (k : ℕ) : Type 0 where
  pub entry : k ≡ 0 → 0 < length t.piece.code
  pub each : AtCode t.piece k (λ i. All (λ j. j < length t.piece.code) (successors i k))

-- ---- V2: each place has facts; there is no operand as the code begins; the next place has the
-- shape that the instruction leaves, and each place where it jumps to has the shape without its
-- operands
pub record KeepsShapes (ss : List DraftSignal) (t : Transition) (k : ℕ) : Type 0 where
  pub facts : k ≡ 0 → length t.piece.facts ≡ length t.piece.code
  pub entry : k ≡ 0 → AtEach t.piece (0 ∷ []) (λ f. f.shape ≡ [])
  pub each : AtPlace t.piece k
      (λ i f. AtEach t.piece (behind i k) (λ g. g.shape
      ≡ shape_after ss t.process.variables t.parameters i f.shape))
  pub jumped : AtPlace t.piece k
      (λ i f. AtEach t.piece (jumps i) (λ g. g.shape ≡ shape_left ss t.process.variables i f.shape))

-- ---- V3: the operands that the instruction takes are on the shape
abbrev pub HasOperands : List DraftSignal → Transition → ℕ → Type 0
HasOperands ss t k =
    AtPlace t.piece k (λ i f. length (takes ss t.process.variables i) ≤ length f.shape)

-- two lists of sorts agree as far as both go
abbrev pub Agree : List Sort → List Sort → Type 0
Agree [] ys = Unit {0}
Agree (x ∷ xs) [] = Unit {0}
Agree (x ∷ xs) (y ∷ ys) = (y ≡ x) × Agree xs ys

-- the initial value of a variable has the variable's sort
abbrev pub StartsRight : DraftVariable → Type 0
StartsRight x = IfSome x.initial (λ v. sort_of v ≡ x.sort)

-- ---- V4: those operands have the sorts that the instruction takes; at START each initial value
-- has its variable's sort
pub record KeepsSorts (ss : List DraftSignal) (t : Transition) (k : ℕ) : Type 0 where
  pub initial : k ≡ 0 → t.trigger ≡ None → All StartsRight t.process.variables
  pub each : AtPlace t.piece k (λ i f. Agree (takes ss t.process.variables i) f.shape)

-- ---- V5: the variables that the facts call set are set on every way: at the first place exactly
-- those of the entry, at each place where the code goes on and in the state where it ends only
-- those that the instruction leaves set; a variable that is read is set
pub record KeepsSets (t : Transition) (k : ℕ) : Type 0 where
  pub entry : k ≡ 0 → AtEach t.piece (0 ∷ []) (λ f. f.set ≡ t.entry)
  pub reads_set : AtPlace t.piece k (λ i f. All (Has f.set) (reads i))
  pub each : AtPlace t.piece k
      (λ i f. AtEach t.piece (successors i k) (λ g. IsWithin g.set (set_after i f.set)))
  pub states : AtPlace t.piece k
      (λ i f. (q : ℕ) (s : DraftState) → Contains (states_in i) q
      → slice_get t.process.states q ≡ Some s → IsWithin s.set (set_after i f.set))

-- ---- V6: a state where the code ends is declared
abbrev pub HasStates : Transition → ℕ → Type 0
HasStates t k = AtCode t.piece k (λ i. All (λ q. q < length t.process.states) (states_in i))

-- the signal, or the timer of the process, is declared
abbrev pub IsThere : List DraftSignal → DraftProcess → Trigger → Type 0
IsThere ss p (Signal n) = n.0 < length ss
IsThere ss p (Timer n) = n.0 < length p.timers

-- the signal or timer that a transition waits for is declared
abbrev pub HasTrigger : List DraftSignal → DraftProcess → Option Trigger → Type 0
HasTrigger ss p None = Unit {0}
HasTrigger ss p (Some x) = IsThere ss p x

-- each signal or timer that a state saves is declared
abbrev pub HasSaves : List DraftSignal → DraftProcess → DraftState → Type 0
HasSaves ss p q = All (IsThere ss p) q.saves

-- Signal n of process p reaches its receiver. A named party is declared, and a route goes to it.
-- SENDER is known if the transition waits for a signal: for each route that brings that signal, its
-- sender is declared, and a route goes back to it.
abbrev pub AnswersSender : Draft → ℕ → SignalNumber → Option Trigger → Type 0
AnswersSender d p n None = ⊥
AnswersSender d p n (Some (Timer m)) = ⊥
AnswersSender d p n (Some (Signal m)) = All (Answers d.processes d.routes p m n) d.routes

abbrev pub ReachesReceiver : Draft → ℕ → SignalNumber → Option Trigger → Receiver → Type 0
ReachesReceiver d p n trigger (ToParty x) = IsPartyOf d.processes x × Reaches d.routes p x n
ReachesReceiver d p n trigger ToSender = AnswersSender d p n trigger

-- the signal of an output is declared and has as many parameters, and it reaches its receiver
pub record KeepsSending (d : Draft) (t : Transition) (n : SignalNumber) (r : Receiver) (c : ℕ) :
    Type 0 where
  pub signal : n.0 < length d.signals
  pub parameters : c ≡ length (parameters_of (slice_get d.signals n.0))
  pub receiver : ReachesReceiver d t.number n t.trigger r

abbrev pub KeepsOutput : Draft → Transition → Instruction → Type 0
KeepsOutput d t (Output n r c) = KeepsSending d t n r c
KeepsOutput d t _ = Unit {0}

-- ---- V7: what an instruction names is declared: variables, parameters, timers, signal and
-- receiver; it divides by 1 or more; the signal or timer that the transition waits for is declared,
-- and at START each signal or timer that a state of the process saves
pub record HasNumbers (d : Draft) (t : Transition) (k : ℕ) : Type 0 where
  pub trigger : k ≡ 0 → HasTrigger d.signals t.process t.trigger
  pub saves : k ≡ 0 → t.trigger ≡ None → All (HasSaves d.signals t.process) t.process.states
  pub reads_there : AtCode t.piece k (λ i. All (λ v. v < length t.process.variables) (reads i))
  pub sets_there : AtCode t.piece k (λ i. All (λ v. v < length t.process.variables) (sets i))
  pub parameters : AtCode t.piece k (λ i. All (λ j. j < length t.parameters) (parameters_in i))
  pub timers : AtCode t.piece k (λ i. All (λ n. n < length t.process.timers) (timers_in i))
  pub divisors : AtCode t.piece k (λ i. All (λ z. pos 1 ≤ℤ z) (divisors_in i))
  pub outputs : AtCode t.piece k (λ i. KeepsOutput d t i)

-- how many inputs the states of a process have, and how many pieces a process has
abbrev pub inputs_of : List DraftState → ℕ
inputs_of qs = sum_by (λ (q : DraftState). length q.inputs) qs

abbrev pub pieces_of : DraftProcess → ℕ
pieces_of p = 1 + inputs_of p.states

-- the limits of a whole set
pub record KeepsSetLimits (d : Draft) : Type 0 where
  pub processes : length d.processes ≤ MOST_PROCESSES
  pub signals : length d.signals ≤ MOST_SIGNALS
  pub parameters : All (λ (s : DraftSignal). length s.parameters ≤ MOST_PARAMETERS) d.signals
  pub pieces : sum_by pieces_of d.processes ≤ MOST_PIECES

-- the limits of a process
pub record KeepsProcessLimits (p : DraftProcess) : Type 0 where
  pub some : 1 ≤ p.instances
  pub instances : p.instances ≤ MOST_INSTANCES
  pub states : length p.states ≤ MOST_STATES
  pub variables : length p.variables ≤ MOST_VARIABLES
  pub timers : length p.timers ≤ MOST_TIMERS_EACH

-- the limits of a piece
pub record KeepsPieceLimits (piece : DraftPiece) : Type 0 where
  pub depth : piece.certificate.depth ≤ MOST_OPERANDS
  pub effects : piece.certificate.effects ≤ MOST_EFFECTS
  pub size : length piece.code ≤ MOST_INSTRUCTIONS

-- ---- V8: a limit of a process, or of the whole set, is checked at START, place 0
pub record KeepsLimits (d : Draft) (t : Transition) (k : ℕ) : Type 0 where
  pub process : k ≡ 0 → t.trigger ≡ None → KeepsProcessLimits t.process
  pub piece : k ≡ 0 → KeepsPieceLimits t.piece

-- the greatest of some numbers, 0 if there is none
abbrev pub greatest : List ℕ → ℕ
greatest [] = 0
greatest (n ∷ ns) = max n (greatest ns)

abbrev pub count_in : Option PlaceFacts → ℕ
count_in None = 0
count_in (Some f) = f.count

abbrev pub effects_in : Option PlaceFacts → ℕ
effects_in None = 0
effects_in (Some f) = f.effects

abbrev pub counts_at : DraftPiece → List ℕ → List ℕ
counts_at piece js = map (λ j. count_in (slice_get piece.facts j)) js

abbrev pub effects_at : DraftPiece → List ℕ → List ℕ
effects_at piece js = map (λ j. effects_in (slice_get piece.facts j)) js

abbrev pub depths : List PlaceFacts → List ℕ
depths fs = map (λ (f : PlaceFacts). length f.shape) fs

-- the certificate: the count and effects of the first place, and the length of the longest shape
pub record KeepsCertificate (piece : DraftPiece) : Type 0 where
  pub budget : piece.certificate.budget ≡ count_in (slice_get piece.facts 0)
  pub depth : piece.certificate.depth ≡ greatest (depths piece.facts)
  pub effects : piece.certificate.effects ≡ effects_in (slice_get piece.facts 0)

-- ---- V9: the count of a place is 1 more than the greatest count where the code goes on; its
-- effects are those of its instruction and the greatest number there, added
pub record KeepsCounts (t : Transition) (k : ℕ) : Type 0 where
  pub certificate : k ≡ 0 → KeepsCertificate t.piece
  pub counts :
      AtPlace t.piece k (λ i f. f.count ≡ 1 + greatest (counts_at t.piece (successors i k)))
  pub effects :
      AtPlace t.piece k (λ i f. f.effects
      ≡ effects_of i + greatest (effects_at t.piece (successors i k)))
