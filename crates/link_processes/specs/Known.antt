-- The names that a terminal knows, and their numbers in a set.
use Rattle.std.specs.Prelude.{◌≡◌, ℕ, ◌==◌, Bool, true, not, ◌&&◌, ◌||◌, ◌⊎◌, List, [], ◌∷◌, Some}
use Rattle.std.specs.Prelude.{codes}
use Rattle.std.specs.List.{list_any}
use Rattle.turn_code.specs.declared.numbers.SignalNumber.{SignalNumber}
use Rattle.turn_code.specs.declared.draft.DraftRoute.{DraftRoute}
use Rattle.actor_machine.specs.Refusals.{is_environment}
use Rattle.turn_code.specs.declared.draft.Draft.{Draft}
use Rattle.turn_code.specs.declared.value.Sort.{Sort}
use Rattle.turn_code.specs.declared.value.Sort.TheVariants.{Integer, Boolean}
use Rattle.actor_machine.specs.Names.{named, actors_of, place_of}
use Rattle.turn_check.specs.Named.{process_names, signal_names, variable_names, IsFirst}
use Rattle.link_processes.specs.declared.words.ProcessName.{ProcessName}
use Rattle.link_processes.specs.declared.words.ProcessName.TheVariants as process
use Rattle.link_processes.specs.declared.words.SignalName.{SignalName}
use Rattle.link_processes.specs.declared.words.SignalName.TheVariants as signal
use Rattle.link_processes.specs.declared.words.OptionName.{OptionName}
use Rattle.link_processes.specs.declared.words.OptionName.TheVariants as option
use Rattle.link_processes.specs.declared.names.Names.{Names}
use Rattle.link_processes.specs.declared.names.Notices.{Notices}
use Rattle.link_processes.specs.declared.names.Options.{Options}
use Rattle.link_processes.specs.declared.names.Orders.{Orders}
use Rattle.link_processes.specs.declared.names.Outputs.{Outputs}
use Rattle.link_processes.specs.declared.names.Parties.{Parties}
use Rattle.link_processes.specs.declared.names.Periods.{Periods}

abbrev pub process_word : ProcessName → List ℕ
process_word process.Lsc = codes "LSC"
process_word process.Aerm = codes "AERM"
process_word process.Suerm = codes "SUERM"
process_word process.Txc = codes "TXC"
process_word process.Rc = codes "RC"
process_word process.Cc = codes "CC"

abbrev pub signal_word : SignalName → List ℕ
signal_word signal.PowerOn = codes "PowerOn"
signal_word signal.StartLink = codes "StartLink"
signal_word signal.StopLink = codes "StopLink"
signal_word signal.Emergency = codes "Emergency"
signal_word signal.Calm = codes "Calm"
signal_word signal.LocalOut = codes "LocalOut"
signal_word signal.LocalBack = codes "LocalBack"
signal_word signal.Busy = codes "Busy"
signal_word signal.Free = codes "Free"
signal_word signal.Good = codes "Good"
signal_word signal.Errored = codes "Errored"
signal_word signal.AckSeen = codes "AckSeen"
signal_word signal.Bad = codes "Bad"
signal_word signal.Unit = codes "Unit"
signal_word signal.MsuSent = codes "MsuSent"
signal_word signal.Fresh = codes "Fresh"
signal_word signal.Take = codes "Take"
signal_word signal.Line = codes "Line"
signal_word signal.Withhold = codes "Withhold"
signal_word signal.InServiceNow = codes "InServiceNow"
signal_word signal.Down = codes "Down"
signal_word signal.RemoteOut = codes "RemoteOut"
signal_word signal.RemoteBack = codes "RemoteBack"

-- the sorts of the parameters that a terminal's signal has
abbrev pub signal_sorts : SignalName → List Sort
signal_sorts signal.PowerOn = []
signal_sorts signal.StartLink = []
signal_sorts signal.StopLink = []
signal_sorts signal.Emergency = []
signal_sorts signal.Calm = []
signal_sorts signal.LocalOut = []
signal_sorts signal.LocalBack = []
signal_sorts signal.Busy = []
signal_sorts signal.Free = []
signal_sorts signal.Good = []
signal_sorts signal.Errored = []
signal_sorts signal.AckSeen = Boolean ∷ []
signal_sorts signal.Bad = []
signal_sorts signal.Unit = Integer ∷ []
signal_sorts signal.MsuSent = []
signal_sorts signal.Fresh = []
signal_sorts signal.Take = Boolean ∷ []
signal_sorts signal.Line = Integer ∷ []
signal_sorts signal.Withhold = Boolean ∷ []
signal_sorts signal.InServiceNow = []
signal_sorts signal.Down = Integer ∷ []
signal_sorts signal.RemoteOut = []
signal_sorts signal.RemoteBack = []

-- the optional signals
abbrev pub option_word : OptionName → List ℕ
option_word option.Flush = codes "Flush"
option_word option.Continue = codes "Continue"
option_word option.Overload = codes "Overload"
option_word option.Deliver = codes "Deliver"
option_word option.Cleared = codes "Cleared"
option_word option.Clear = codes "Clear"
option_word option.Odd = codes "Odd"
option_word option.Counting = codes "Counting"

abbrev pub option_sorts : OptionName → List Sort
option_sorts option.Flush = []
option_sorts option.Continue = []
option_sorts option.Overload = []
option_sorts option.Deliver = Boolean ∷ []
option_sorts option.Cleared = []
option_sorts option.Clear = []
option_sorts option.Odd = Integer ∷ []
option_sorts option.Counting = Boolean ∷ []

-- a number that no signal has
abbrev pub NO_SIGNAL : ℕ
NO_SIGNAL = 255

-- whether the number is a signal's
abbrev pub is_there : SignalNumber → Bool
is_there k = not (k.0 == NO_SIGNAL)

-- the number of the first process of this name
abbrev pub IsProcess : Draft → ℕ → ProcessName → Type 0
IsProcess d n p = IsFirst (process_names d) n (process_word p)

-- the number of the first instance of the first process of this name
pub record IsActor (d : Draft) (n : ℕ) (p : ProcessName) : Type 0 where
  pub process : ℕ
  pub called : IsProcess d process p
  pub number : place_of (named process 1) (actors_of d.processes) ≡ Some n

-- the number of the first signal of this name
abbrev pub IsSignal : Draft → ℕ → SignalName → Type 0
IsSignal d n s = IsFirst (signal_names d) n (signal_word s)

pub record AreParties (d : Draft) (x : Parties) : Type 0 where
  pub lsc : IsActor d x.lsc process.Lsc
  pub aerm : IsActor d x.aerm process.Aerm
  pub suerm : IsActor d x.suerm process.Suerm
  pub txc : IsActor d x.txc process.Txc
  pub rc : IsActor d x.rc process.Rc
  pub cc : IsActor d x.cc process.Cc

pub record AreOrders (d : Draft) (x : Orders) : Type 0 where
  pub power_on : IsSignal d x.power_on.0 signal.PowerOn
  pub start_link : IsSignal d x.start_link.0 signal.StartLink
  pub stop_link : IsSignal d x.stop_link.0 signal.StopLink
  pub emergency : IsSignal d x.emergency.0 signal.Emergency
  pub calm : IsSignal d x.calm.0 signal.Calm
  pub local_out : IsSignal d x.local_out.0 signal.LocalOut
  pub local_back : IsSignal d x.local_back.0 signal.LocalBack
  pub busy : IsSignal d x.busy.0 signal.Busy
  pub free : IsSignal d x.free.0 signal.Free

pub record AreNotices (d : Draft) (x : Notices) : Type 0 where
  pub good : IsSignal d x.good.0 signal.Good
  pub errored : IsSignal d x.errored.0 signal.Errored
  pub ack_seen : IsSignal d x.ack_seen.0 signal.AckSeen
  pub bad : IsSignal d x.bad.0 signal.Bad
  pub unit : IsSignal d x.unit.0 signal.Unit
  pub msu_sent : IsSignal d x.msu_sent.0 signal.MsuSent

pub record AreOutputs (d : Draft) (x : Outputs) : Type 0 where
  pub fresh : IsSignal d x.fresh.0 signal.Fresh
  pub take : IsSignal d x.take.0 signal.Take
  pub line : IsSignal d x.line.0 signal.Line
  pub withhold : IsSignal d x.withhold.0 signal.Withhold
  pub in_service_now : IsSignal d x.in_service_now.0 signal.InServiceNow
  pub down : IsSignal d x.down.0 signal.Down
  pub remote_out : IsSignal d x.remote_out.0 signal.RemoteOut
  pub remote_back : IsSignal d x.remote_back.0 signal.RemoteBack

-- ---- optional signals

-- whether a route from or to the environment carries the signal
abbrev pub touches : SignalNumber → DraftRoute → Bool
touches s r = (is_environment r.from || is_environment r.to)
    && list_any (λ (x : SignalNumber). x.0 == s.0) r.signals

-- the first signal of this name, if a route from or to the environment carries it; signals that a
-- text uses only between its processes don't count
pub record IsTouched (d : Draft) (name : OptionName) (k : SignalNumber) : Type 0 where
  pub named : IsFirst (signal_names d) k.0 (option_word name)
  pub carried : list_any (touches k) d.routes ≡ true

-- The number of the optional signal, or, if the text lacks it, the number of no signal.
abbrev pub IsOption : Draft → SignalNumber → OptionName → Type 0
IsOption d n o =
    IsTouched d o n ⊎ (((k : SignalNumber) → IsTouched d o k → ⊥) × (n.0 ≡ NO_SIGNAL))

pub record AreOptions (d : Draft) (x : Options) : Type 0 where
  pub flush : IsOption d x.flush option.Flush
  pub continues : IsOption d x.continues option.Continue
  pub overload : IsOption d x.overload option.Overload
  pub deliver : IsOption d x.deliver option.Deliver
  pub cleared : IsOption d x.cleared option.Cleared
  pub clear : IsOption d x.clear option.Clear
  pub odd : IsOption d x.odd option.Odd
  pub counting : IsOption d x.counting option.Counting

-- ---- the count of aborted proving periods

-- a number that no actor has
abbrev pub NO_ACTOR : ℕ
NO_ACTOR = 65535

-- The first variable Cp of the first instance of the first process IAC (Q.703, figure 9): it counts
-- the aborted proving periods of the current alignment. Case is ignored.
pub record IsCount (d : Draft) (x : Periods) : Type 0 where
  pub process : ℕ
  pub called : IsFirst (process_names d) process (codes "IAC")
  pub number : place_of (named process 1) (actors_of d.processes) ≡ Some x.actor
  pub variable : IsFirst (variable_names d process) x.variable.0 (codes "cp")

-- that variable; if the set lacks it, the number of no actor
abbrev pub ArePeriods : Draft → Periods → Type 0
ArePeriods d x = IsCount d x ⊎ (((y : Periods) → IsCount d y → ⊥) × (x.actor ≡ NO_ACTOR))

pub record AreNames (d : Draft) (n : Names) : Type 0 where
  pub parties : AreParties d n.parties
  pub orders : AreOrders d n.orders
  pub notices : AreNotices d n.notices
  pub outputs : AreOutputs d n.outputs
  pub options : AreOptions d n.options
  pub periods : ArePeriods d n.periods
