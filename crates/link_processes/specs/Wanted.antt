-- What a terminal requires of its set.
use Rattle.std.specs.Prelude.{◌≡◌, ℕ, ◌==◌, Bool, true, not, ◌&&◌, ◌||◌, List, [], ◌∷◌, slice_get}
use Rattle.std.specs.List.{list_any, list_all}
use Rattle.turn_code.specs.Transitions.{parameters_of}
use Rattle.turn_code.specs.declared.numbers.SignalNumber.{SignalNumber}
use Rattle.turn_code.specs.declared.draft.Draft.{Draft}
use Rattle.turn_code.specs.declared.draft.DraftRoute.{DraftRoute}
use Rattle.actor_machine.specs.Refusals.{is_environment, offers}
use Rattle.link_processes.specs.Known.{signal_sorts, option_sorts, IsProcess, IsSignal, touches}
use Rattle.link_processes.specs.Known.{IsTouched}
use Rattle.link_processes.specs.declared.words.ProcessName.{ProcessName}
use Rattle.link_processes.specs.declared.words.ProcessName.TheVariants as process
use Rattle.link_processes.specs.declared.words.SignalName.{SignalName}
use Rattle.link_processes.specs.declared.words.SignalName.TheVariants as signal
use Rattle.link_processes.specs.declared.words.OptionName.{OptionName}
use Rattle.link_processes.specs.declared.words.OptionName.TheVariants as option
use Rattle.link_processes.specs.declared.wanted.Wanted.{Wanted}
use Rattle.link_processes.specs.declared.wanted.Wanted.TheVariants.{Process, Sent, Heard, MaySend}
use Rattle.link_processes.specs.declared.wanted.Wanted.TheVariants.{MayHear, MayCount}

-- ---- what a set has

-- a signal, by its number, has this name and the required parameters
pub record IsSpoken (d : Draft) (name : SignalName) (k : SignalNumber) : Type 0 where
  pub named : IsSignal d k.0 name
  pub sorts : parameters_of (slice_get d.signals k.0) ≡ signal_sorts name

-- a route carries the signal from some process to the environment
abbrev pub tells : SignalNumber → DraftRoute → Bool
tells s r =
    not (is_environment r.from)
    && (is_environment r.to && list_any (λ (x : SignalNumber). x.0 == s.0) r.signals)

-- the signal has its required form, and a route carries it from the environment to this process
pub record HasSent (d : Draft) (to : ProcessName) (name : SignalName) : Type 0 where
  pub process : ℕ
  pub signal : SignalNumber
  pub is_process : IsProcess d process to
  pub is_signal : IsSpoken d name signal
  pub brought : list_any (offers process signal) d.routes ≡ true

-- the signal has its required form, and a route carries it from some process to the environment
pub record HasHeard (d : Draft) (name : SignalName) : Type 0 where
  pub signal : SignalNumber
  pub is_signal : IsSpoken d name signal
  pub brought : list_any (tells signal) d.routes ≡ true

-- ---- optional signals

-- a route carries the signal only from the environment to this process, or not to or from there
abbrev pub sends_alone : ℕ → SignalNumber → DraftRoute → Bool
sends_alone p s r = not (touches s r) || offers p s r

-- a route carries the signal only from some process to the environment, or not to or from there
abbrev pub tells_alone : SignalNumber → DraftRoute → Bool
tells_alone s r = not (touches s r) || tells s r

-- the signal has the required parameters, and all its routes from or to the environment go from
-- there to this process
pub record FitsSent (d : Draft) (to : ProcessName) (name : OptionName) (k : SignalNumber)
    : Type 0 where
  pub process : ℕ
  pub is_process : IsProcess d process to
  pub sorts : parameters_of (slice_get d.signals k.0) ≡ option_sorts name
  pub alone : list_all (sends_alone process k) d.routes ≡ true

-- as `FitsSent`, for a signal from some process to the environment
pub record FitsHeard (d : Draft) (name : OptionName) (k : SignalNumber) : Type 0 where
  pub sorts : parameters_of (slice_get d.signals k.0) ≡ option_sorts name
  pub alone : list_all (tells_alone k) d.routes ≡ true

-- a signal on a route from or to the environment has the required form
abbrev pub MaySendIt : Draft → ProcessName → OptionName → Type 0
MaySendIt d to name = (k : SignalNumber) → IsTouched d name k → FitsSent d to name k

abbrev pub MayHearIt : Draft → OptionName → Type 0
MayHearIt d name = (k : SignalNumber) → IsTouched d name k → FitsHeard d name k

-- a route carries the signal only from the environment to these two, or not to or from there
abbrev pub sends_either : ℕ → ℕ → SignalNumber → DraftRoute → Bool
sends_either p q s r = not (touches s r) || (offers p s r || offers q s r)

-- The signal has Counting's parameters. All its routes from or to the environment go from there to
-- one of the error rate monitors, and some route goes to this process.
pub record FitsCounting (d : Draft) (to : ProcessName) (k : SignalNumber) : Type 0 where
  pub aerm : ℕ
  pub suerm : ℕ
  pub is_aerm : IsProcess d aerm process.Aerm
  pub is_suerm : IsProcess d suerm process.Suerm
  pub process : ℕ
  pub is_process : IsProcess d process to
  pub sorts : parameters_of (slice_get d.signals k.0) ≡ option_sorts option.Counting
  pub alone : list_all (sends_either aerm suerm k) d.routes ≡ true
  pub brought : list_any (offers process k) d.routes ≡ true

abbrev pub MayCountIt : Draft → ProcessName → Type 0
MayCountIt d to = (k : SignalNumber) → IsTouched d option.Counting k → FitsCounting d to k

abbrev pub Has : Draft → Wanted → Type 0
Has d (Process name) = (n : ℕ) × IsProcess d n name
Has d (Sent to name) = HasSent d to name
Has d (Heard name) = HasHeard d name
Has d (MaySend to name) = MaySendIt d to name
Has d (MayHear name) = MayHearIt d name
Has d (MayCount to) = MayCountIt d to

-- this requirement is the first one, in their order, that the set doesn't meet
pub data IsFirstLacking (d : Draft) (name : Wanted) : List Wanted → Type 0 where
  lacks : {left : List Wanted} → (Has d name → ⊥) → IsFirstLacking d name (name ∷ left)
  has_first :
      {w : Wanted} {left : List Wanted} → Has d w → IsFirstLacking d name left
      → IsFirstLacking d name (w ∷ left)

-- ---- a terminal's requirements

-- the processes, the environment's signals to each of them, the signals to the environment; then
-- the form of the optional signals
abbrev pub wanted : List Wanted
wanted =
    Process process.Lsc
    ∷ Process process.Aerm
    ∷ Process process.Suerm
    ∷ Process process.Txc
    ∷ Process process.Rc
    ∷ Process process.Cc
    ∷ Sent process.Lsc signal.PowerOn
    ∷ Sent process.Lsc signal.StartLink
    ∷ Sent process.Lsc signal.StopLink
    ∷ Sent process.Lsc signal.Emergency
    ∷ Sent process.Lsc signal.Calm
    ∷ Sent process.Lsc signal.LocalOut
    ∷ Sent process.Lsc signal.LocalBack
    ∷ Sent process.Cc signal.Busy
    ∷ Sent process.Cc signal.Free
    ∷ Sent process.Aerm signal.Good
    ∷ Sent process.Suerm signal.Good
    ∷ Sent process.Aerm signal.Errored
    ∷ Sent process.Suerm signal.Errored
    ∷ Sent process.Txc signal.AckSeen
    ∷ Sent process.Rc signal.Bad
    ∷ Sent process.Rc signal.Unit
    ∷ Sent process.Txc signal.MsuSent
    ∷ Heard signal.Fresh
    ∷ Heard signal.Take
    ∷ Heard signal.Line
    ∷ Heard signal.Withhold
    ∷ Heard signal.InServiceNow
    ∷ Heard signal.Down
    ∷ Heard signal.RemoteOut
    ∷ Heard signal.RemoteBack
    ∷ MaySend process.Lsc option.Flush
    ∷ MaySend process.Lsc option.Continue
    ∷ MaySend process.Cc option.Overload
    ∷ MayHear option.Deliver
    ∷ MayHear option.Cleared
    ∷ MayHear option.Clear
    ∷ MaySend process.Rc option.Odd
    ∷ MayCount process.Aerm
    ∷ MayCount process.Suerm
    ∷ []

-- all processes of a terminal, and all its signals, have a number in the set
abbrev pub HasProcesses : Draft → Type 0
HasProcesses d = (name : ProcessName) → (n : ℕ) × IsProcess d n name

abbrev pub HasSignals : Draft → Type 0
HasSignals d = (name : SignalName) → (k : SignalNumber) × IsSignal d k.0 name
