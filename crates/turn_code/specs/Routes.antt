-- What the routes of a draft carry from party to party.
use Rattle.std.specs.Prelude.{◌≡◌, ℕ, ◌<◌, List, length, Any, Contains}
use Rattle.turn_code.specs.declared.input.Party.{Party}
use Rattle.turn_code.specs.declared.input.Party.TheVariants.{Environment, Process}
use Rattle.turn_code.specs.declared.numbers.SignalNumber.{SignalNumber}
use Rattle.turn_code.specs.declared.draft.DraftProcess.{DraftProcess}
use Rattle.turn_code.specs.declared.draft.DraftRoute.{DraftRoute}

abbrev pub IsProcess : ℕ → Party → Type 0
IsProcess p Environment = ⊥
IsProcess p (Process q) = q.0 ≡ p

-- the environment, or a declared process
abbrev pub IsPartyOf : List DraftProcess → Party → Type 0
IsPartyOf ps Environment = Unit {0}
IsPartyOf ps (Process q) = q.0 < length ps

-- the process with this number, as a party
abbrev pub the_process : ℕ → Party
the_process p = Process (record { 0 = p })

-- the route carries signal n from the sender to the receiver
pub record Carries (sender receiver : Party) (n : SignalNumber) (r : DraftRoute) : Type 0 where
  pub from : r.from ≡ sender
  pub to : r.to ≡ receiver
  pub signal : Contains r.signals n

-- the route carries signal n from the sender to process p
abbrev pub Brings : Party → ℕ → SignalNumber → DraftRoute → Type 0
Brings sender p n r = Carries sender (the_process p) n r

-- the route carries signal n from process p to the receiver
abbrev pub Takes : ℕ → Party → SignalNumber → DraftRoute → Type 0
Takes p receiver n r = Carries (the_process p) receiver n r

-- some route carries signal n from process p to the receiver
abbrev pub Reaches : List DraftRoute → ℕ → Party → SignalNumber → Type 0
Reaches routes p receiver n = Any (Takes p receiver n) routes

-- if the route brings signal m to process p, its sender is declared, and some route carries signal
-- n back to that sender
abbrev pub Answers :
    List DraftProcess → List DraftRoute → ℕ → SignalNumber → SignalNumber → DraftRoute → Type 0
Answers ps routes p m n r =
    IsProcess p r.to → Contains r.signals m → IsPartyOf ps r.from × Reaches routes p r.from n
