-- The receivers of the outputs of a turn.
use Rattle.std.specs.Prelude.{◌≡◌, ℕ, List, Option, Some, slice_get}
use Rattle.std.specs.List.{AllByRecursion}
use Rattle.turn_code.specs.declared.numbers.ProcessNumber.{ProcessNumber}
use Rattle.turn_code.specs.declared.numbers.InstanceNumber.{InstanceNumber}
use Rattle.turn_code.specs.declared.input.Party.{Party}
use Rattle.turn_code.specs.declared.input.Party.TheVariants.{Environment, Process}
use Rattle.turn_code.specs.declared.effect.Effect.{Effect}
use Rattle.turn_code.specs.declared.effect.Effect.TheVariants.{Output, Set, Reset}
use Rattle.actor_machine.specs.Names.{number_for}
use Rattle.actor_machine.specs.declared.name.ActorName.{ActorName}

-- one of the actors with these names, of process p, receives a signal from `me` to that process
pub record IsGot (names : List ActorName) (me : ActorName) (p : ProcessNumber)
    (k : Option InstanceNumber) : Type 0 where
  pub number : ℕ
  pub found : number_for names me p k ≡ Some number
  pub name : ActorName
  pub there : slice_get names number ≡ Some name
  pub process : name.process ≡ p

-- an actor or the environment receives the signal
abbrev pub HasReceiver :
    List ActorName → ActorName → Party → Option InstanceNumber → Type 0
HasReceiver names me Environment k = Unit {0}
HasReceiver names me (Process p) k = IsGot names me p k

-- an effect that is an output has a receiver
abbrev pub IsReceived : List ActorName → ActorName → Effect → Type 0
IsReceived names me (Output s) = HasReceiver names me s.receiver.party s.receiver.instance
IsReceived names me (Set t z) = Unit {0}
IsReceived names me (Reset t) = Unit {0}

-- each output has a receiver
abbrev pub AreReceived : List ActorName → ActorName → List Effect → Type 0
AreReceived names me es = AllByRecursion (IsReceived names me) es
