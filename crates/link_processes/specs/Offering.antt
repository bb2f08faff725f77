-- The event of a link for a command or a notice, and the meaning of a signal to the environment.
use Rattle.std.specs.Prelude.{ℕ, ℤ, pos, ◌==◌, Bool as Truth, if◌then◌else◌, Option, Some, None}
use Rattle.std.specs.Prelude.{List, [], ◌∷◌, slice_get}
use Rattle.turn_code.specs.declared.numbers.SignalNumber.{SignalNumber}
use Rattle.turn_code.specs.declared.value.Value.{Value}
use Rattle.turn_code.specs.declared.value.Value.TheVariants.{Int, Bool}
use Rattle.actor_machine.specs.declared.event.Event.{Event}
use Rattle.actor_machine.specs.declared.event.Event.TheVariants.{Offer as Offered}
use Rattle.actor_machine.specs.declared.reply.Emitted.{Emitted}
use Rattle.link_transceiver.specs.declared.offers.Offer.{Offer}
use Rattle.link_transceiver.specs.declared.offers.Party.{Party}
use Rattle.link_transceiver.specs.declared.offers.Party.TheVariants.{Aerm, Suerm, Txc, Rc}
use Rattle.link_transceiver.specs.declared.offers.Notice.{Notice}
use Rattle.link_transceiver.specs.declared.offers.Notice.TheVariants as notice
use Rattle.link_transceiver.specs.declared.signals.EnvSignal.{EnvSignal}
use Rattle.link_transceiver.specs.declared.signals.EnvSignal.TheVariants as signal
use Rattle.link_processes.specs.declared.commands.Command.{Command}
use Rattle.link_processes.specs.declared.commands.Command.TheVariants as command
use Rattle.link_processes.specs.declared.names.Names.{Names}
use Rattle.link_processes.specs.declared.names.Outputs.{Outputs}
use Rattle.link_processes.specs.declared.names.Parties.{Parties}

-- the number of an actor
abbrev pub number_of : Parties → Party → ℕ
number_of ps Aerm = ps.aerm
number_of ps Suerm = ps.suerm
number_of ps Txc = ps.txc
number_of ps Rc = ps.rc

-- ---- notices

abbrev pub notice_signal : Names → Notice → SignalNumber
notice_signal n notice.Good = n.notices.good
notice_signal n notice.Errored = n.notices.errored
notice_signal n (notice.AckSeen left) = n.notices.ack_seen
notice_signal n notice.Bad = n.notices.bad
notice_signal n (notice.Unit kind) = n.notices.unit
notice_signal n notice.MsuSent = n.notices.msu_sent
notice_signal n (notice.Odd code) = n.options.odd
notice_signal n (notice.Counting on) = n.options.counting

abbrev pub notice_values : Notice → List Value
notice_values notice.Good = []
notice_values notice.Errored = []
notice_values (notice.AckSeen left) = Bool left ∷ []
notice_values notice.Bad = []
notice_values (notice.Unit kind) = Int (pos kind) ∷ []
notice_values notice.MsuSent = []
notice_values (notice.Odd code) = Int (pos code) ∷ []
notice_values (notice.Counting on) = Bool on ∷ []

abbrev pub event_to : ℕ → SignalNumber → List Value → Event
event_to n s vs = Offered (record { actor = n; signal = s; values = record { items = vs } })

abbrev pub offer_event : Names → Offer → Event
offer_event n o =
    event_to (number_of n.parties o.to) (notice_signal n o.notice) (notice_values o.notice)

-- ---- commands

-- congestion goes to congestion control, all else to link state control
abbrev pub command_number : Names → Command → ℕ
command_number n command.PowerOn = n.parties.lsc
command_number n command.Start = n.parties.lsc
command_number n command.Stop = n.parties.lsc
command_number n command.Emergency = n.parties.lsc
command_number n command.Calm = n.parties.lsc
command_number n command.Outage = n.parties.lsc
command_number n command.Back = n.parties.lsc
command_number n command.Busy = n.parties.cc
command_number n command.Free = n.parties.cc
command_number n command.Flush = n.parties.lsc
command_number n command.Continue = n.parties.lsc
command_number n command.Overload = n.parties.cc

abbrev pub command_signal : Names → Command → SignalNumber
command_signal n command.PowerOn = n.orders.power_on
command_signal n command.Start = n.orders.start_link
command_signal n command.Stop = n.orders.stop_link
command_signal n command.Emergency = n.orders.emergency
command_signal n command.Calm = n.orders.calm
command_signal n command.Outage = n.orders.local_out
command_signal n command.Back = n.orders.local_back
command_signal n command.Busy = n.orders.busy
command_signal n command.Free = n.orders.free
command_signal n command.Flush = n.options.flush
command_signal n command.Continue = n.options.continues
command_signal n command.Overload = n.options.overload

abbrev pub command_event : Names → Command → Event
command_event n c = event_to (command_number n c) (command_signal n c) []

-- ---- signals to the environment

abbrev pub integer_told : Outputs → SignalNumber → ℤ → Option EnvSignal
integer_told os s z =
    if s.0 == os.line.0 then Some (signal.Line z)
    else (if s.0 == os.down.0 then Some (signal.Down z) else None)

abbrev pub boolean_told : Names → SignalNumber → Truth → Option EnvSignal
boolean_told n s on =
    if s.0 == n.outputs.take.0 then Some (signal.Take on)
    else (if s.0 == n.outputs.withhold.0 then Some (signal.Withhold on)
    else (if s.0 == n.options.deliver.0 then Some (signal.Deliver on) else None))

abbrev pub plain_told : Names → SignalNumber → Option EnvSignal
plain_told n s =
    if s.0 == n.outputs.fresh.0 then Some signal.Fresh
    else (if s.0 == n.outputs.in_service_now.0 then Some signal.InServiceNow
    else (if s.0 == n.outputs.remote_out.0 then Some signal.RemoteOut
    else (if s.0 == n.outputs.remote_back.0 then Some signal.RemoteBack
    else (if s.0 == n.options.cleared.0 then Some signal.Cleared
    else (if s.0 == n.options.clear.0 then Some signal.Clear else None)))))

abbrev pub value_told : Names → SignalNumber → Value → Option EnvSignal
value_told n s (Int z) = integer_told n.outputs s z
value_told n s (Bool on) = boolean_told n s on

abbrev pub first_told : Names → SignalNumber → Option Value → Option EnvSignal
first_told n s None = plain_told n s
first_told n s (Some v) = value_told n s v

-- by its number and its first parameter; any other signal has no meaning
unfoldable pub told_by : Names → Emitted → Option EnvSignal
told_by n x = first_told n x.signal (slice_get x.parameters.items 0)
