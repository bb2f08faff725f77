-- The names of the measurements of a signalling link (ITU-T Q.752), in the order in which they are
-- printed.
use Rattle.std.specs.Prelude.{ℕ, List, [], ◌∷◌, Option, option_and_then, slice_get, position, codes}
use Rattle.std.specs.Str.{bytes_eq}
use Rattle.resend_store.specs.declared.measures.Measure.{Measure}
use Rattle.resend_store.specs.declared.measures.Measure.TheVariants as measure

abbrev pub measure_word : Measure → List ℕ
measure_word measure.ServiceTime = codes "service_time"
measure_word measure.Failures = codes "failures"
measure_word measure.Stops = codes "stops"
measure_word measure.AlignmentFailures = codes "alignment_failures"
measure_word measure.ErrorFailures = codes "error_failures"
measure_word measure.FarFailures = codes "far_failures"
measure_word measure.T1Failures = codes "t1_failures"
measure_word measure.NumberFailures = codes "number_failures"
measure_word measure.T7Failures = codes "t7_failures"
measure_word measure.T6Failures = codes "t6_failures"
measure_word measure.ErroredUnits = codes "errored_units"
measure_word measure.ErroredOctets = codes "errored_octets"
measure_word measure.NacksReceived = codes "nacks_received"
measure_word measure.NacksSent = codes "nacks_sent"
measure_word measure.OctetsSent = codes "octets_sent"
measure_word measure.OctetsRepeated = codes "octets_repeated"
measure_word measure.OctetsReceived = codes "octets_received"
measure_word measure.MessagesSent = codes "messages_sent"
measure_word measure.MessagesReceived = codes "messages_received"
measure_word measure.FarOutages = codes "far_outages"
measure_word measure.FarOutageTime = codes "far_outage_time"
measure_word measure.Outages = codes "outages"
measure_word measure.OutageTime = codes "outage_time"
measure_word measure.Busy = codes "busy"
measure_word measure.BusyTime = codes "busy_time"
measure_word measure.FarBusy = codes "far_busy"
measure_word measure.FarBusyTime = codes "far_busy_time"
measure_word measure.RoundsByNumber = codes "rounds_n1"
measure_word measure.RoundsByOctets = codes "rounds_n2"

abbrev pub all_measures : List Measure
all_measures =
    measure.ServiceTime ∷ measure.Failures ∷ measure.Stops ∷ measure.AlignmentFailures
    ∷ measure.ErrorFailures ∷ measure.FarFailures ∷ measure.T1Failures ∷ measure.NumberFailures
    ∷ measure.T7Failures ∷ measure.T6Failures ∷ measure.ErroredUnits ∷ measure.ErroredOctets
    ∷ measure.NacksReceived ∷ measure.NacksSent ∷ measure.OctetsSent ∷ measure.OctetsRepeated
    ∷ measure.OctetsReceived ∷ measure.MessagesSent ∷ measure.MessagesReceived
    ∷ measure.FarOutages ∷ measure.FarOutageTime ∷ measure.Outages ∷ measure.OutageTime
    ∷ measure.Busy ∷ measure.BusyTime ∷ measure.FarBusy ∷ measure.FarBusyTime
    ∷ measure.RoundsByNumber ∷ measure.RoundsByOctets ∷ []

-- the measurement with a name
abbrev pub measure_named : List ℕ → Option Measure
measure_named word =
    option_and_then (slice_get all_measures)
    (position (λ m. bytes_eq (measure_word m) word) all_measures)
