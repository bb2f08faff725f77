-- The series of measurements of links, with their descriptions.
use Rattle.std.specs.Prelude.{ℕ, List, [], ◌∷◌, ◌++◌, codes, Option, None, Some, option_map}
use Rattle.script_ends.specs.resend_store_types.measures.Measure.TheVariants as measure
use Rattle.line_play.specs.declared.set.series.Series.{Series}
use Rattle.line_play.specs.declared.set.series.Value.{Value}
use Rattle.line_play.specs.declared.set.series.Value.TheVariants as value

-- A series: its name, its labels after the link's, the type and the description if it is the first
-- of its name, and its value.
pub record PlainSeries : Type 0 where
  pub name : List ℕ
  pub labels : List ℕ
  pub head : Option (List ℕ × List ℕ)
  pub value : Value

abbrev pub plain_series : Series → PlainSeries
plain_series s = record {
  name = s.name.now;
  labels = s.labels.now;
  head = option_map (λ h. (h.0.now, h.1.now)) s.head;
  value = s.value;
}

-- the first series of a name, and a further one
abbrev pub first : List ℕ → List ℕ → List ℕ → List ℕ → Value → PlainSeries
first name kind help labels value =
    record { name = name; labels = labels; head = Some (kind, help); value = value }

abbrev pub more : List ℕ → List ℕ → Value → PlainSeries
more name labels value = record { name = name; labels = labels; head = None; value = value }

-- the service of links
abbrev pub services : List PlainSeries
services =
    first (codes "mtp2_link_in_service") (codes "gauge")
    (codes "1 where the link is in service.") (codes "") value.InService
    ∷ first (codes "mtp2_link_service_seconds_total") (codes "counter")
    (codes "Seconds in service (Q.752, 1.1).")
    (codes "") (value.Seconds measure.ServiceTime)
    ∷ first (codes "mtp2_link_stops_total") (codes "counter")
    (codes "How often the link went down by an order to stop.")
    (codes "") (value.Count measure.Stops)
    ∷ first (codes "mtp2_link_aborted_proving_periods_total") (codes "counter")
    (codes "Proving periods that were aborted (Q.703, 10.3).") (codes "") value.Aborted
    ∷ []

-- the messages that links hold
abbrev pub held : List PlainSeries
held =
    first (codes "mtp2_link_held_messages") (codes "gauge")
    (codes "Messages that the link holds to send.") (codes "") value.Held
    ∷ first (codes "mtp2_link_unacknowledged_messages") (codes "gauge")
    (codes "Messages that were sent and aren't acknowledged.") (codes "") value.Sent
    ∷ []

abbrev pub FAILURE_NAME : List ℕ
FAILURE_NAME = codes "mtp2_link_failures_total"

-- the failures of links, by cause
abbrev pub failures : List PlainSeries
failures =
    first FAILURE_NAME (codes "counter")
    (codes "How often the link went down for another reason than a stop (Q.752, 1.2).")
    (codes ",cause=\"alignment\"") (value.Count measure.AlignmentFailures)
    ∷ more FAILURE_NAME (codes ",cause=\"errors\"") (value.Count measure.ErrorFailures)
    ∷ more FAILURE_NAME (codes ",cause=\"far_end\"") (value.Count measure.FarFailures)
    ∷ more FAILURE_NAME (codes ",cause=\"t1\"") (value.Count measure.T1Failures)
    ∷ more FAILURE_NAME (codes ",cause=\"numbers\"") (value.Count measure.NumberFailures)
    ∷ more FAILURE_NAME (codes ",cause=\"t7\"") (value.Count measure.T7Failures)
    ∷ more FAILURE_NAME (codes ",cause=\"t6\"") (value.Count measure.T6Failures)
    ∷ more FAILURE_NAME (codes ",cause=\"other\"") value.OtherFailures
    ∷ []

-- messages sent and received
abbrev pub traffic : List PlainSeries
traffic =
    first (codes "mtp2_link_sent_messages_total") (codes "counter")
    (codes "Messages sent for the first time (Q.752, 3.3).")
    (codes "") (value.Count measure.MessagesSent)
    ∷ first (codes "mtp2_link_received_messages_total") (codes "counter")
    (codes "Messages accepted (Q.752, 3.5).")
    (codes "") (value.Count measure.MessagesReceived)
    ∷ first (codes "mtp2_link_sent_octets_total") (codes "counter")
    (codes "Octets of SIO and SIF sent for the first time (Q.752, 3.1).")
    (codes "") (value.Count measure.OctetsSent)
    ∷ first (codes "mtp2_link_repeated_octets_total") (codes "counter")
    (codes "Octets of SIO and SIF sent again (Q.752, 3.2).")
    (codes "") (value.Count measure.OctetsRepeated)
    ∷ first (codes "mtp2_link_received_octets_total") (codes "counter")
    (codes "Octets of SIO and SIF of accepted messages (Q.752, 3.4).")
    (codes "") (value.Count measure.OctetsReceived)
    ∷ []

-- what came and was no signal unit
abbrev pub errors : List PlainSeries
errors =
    first (codes "mtp2_link_errored_units_total") (codes "counter")
    (codes "Signal units in error (Q.752, 1.8).")
    (codes "") (value.Count measure.ErroredUnits)
    ∷ first (codes "mtp2_link_octet_counts_total") (codes "counter")
    (codes "How often sixteen octets came without a signal unit.")
    (codes "") (value.Count measure.ErroredOctets)
    ∷ []

abbrev pub NACK_NAME : List ℕ
NACK_NAME = codes "mtp2_link_negative_acknowledgements_total"

abbrev pub ROUND_NAME : List ℕ
ROUND_NAME = codes "mtp2_link_forced_retransmissions_total"

-- requests for retransmission, and rounds of forced retransmission
abbrev pub repetitions : List PlainSeries
repetitions =
    first NACK_NAME (codes "counter")
    (codes "Negative acknowledgements, each a request for retransmission (Q.752, 1.9).")
    (codes ",direction=\"received\"") (value.Count measure.NacksReceived)
    ∷ more NACK_NAME (codes ",direction=\"sent\"") (value.Count measure.NacksSent)
    ∷ first ROUND_NAME (codes "counter")
    (codes "Rounds of forced retransmission (preventive cyclic).")
    (codes ",limit=\"n1\"") (value.Count measure.RoundsByNumber)
    ∷ more ROUND_NAME (codes ",limit=\"n2\"") (value.Count measure.RoundsByOctets)
    ∷ []

abbrev pub OUTAGE_NAME : List ℕ
OUTAGE_NAME = codes "mtp2_link_processor_outages_total"

abbrev pub OUTAGE_TIME_NAME : List ℕ
OUTAGE_TIME_NAME = codes "mtp2_link_processor_outage_seconds_total"

abbrev pub CONGESTION_NAME : List ℕ
CONGESTION_NAME = codes "mtp2_link_congestions_total"

abbrev pub CONGESTION_TIME_NAME : List ℕ
CONGESTION_TIME_NAME = codes "mtp2_link_congestion_seconds_total"

-- processor outages and congestion, at both ends
abbrev pub outages : List PlainSeries
outages =
    first OUTAGE_NAME (codes "counter")
    (codes "Outages of a processor, of this end or the far one.")
    (codes ",end=\"here\"") (value.Count measure.Outages)
    ∷ more OUTAGE_NAME (codes ",end=\"far\"") (value.Count measure.FarOutages)
    ∷ first OUTAGE_TIME_NAME (codes "counter")
    (codes "Seconds of these.") (codes ",end=\"here\"") (value.Seconds measure.OutageTime)
    ∷ more OUTAGE_TIME_NAME (codes ",end=\"far\"") (value.Seconds measure.FarOutageTime)
    ∷ first CONGESTION_NAME (codes "counter")
    (codes "How often congestion began, of this end or the far one.")
    (codes ",end=\"here\"") (value.Count measure.Busy)
    ∷ more CONGESTION_NAME (codes ",end=\"far\"") (value.Count measure.FarBusy)
    ∷ first CONGESTION_TIME_NAME (codes "counter")
    (codes "Seconds of congestion.")
    (codes ",end=\"here\"") (value.Seconds measure.BusyTime)
    ∷ more CONGESTION_TIME_NAME (codes ",end=\"far\"") (value.Seconds measure.FarBusyTime)
    ∷ []

-- all series, in the order in which they are told
abbrev pub all_series : List PlainSeries
all_series = (((((services ++ held) ++ failures) ++ traffic) ++ errors) ++ repetitions) ++ outages
