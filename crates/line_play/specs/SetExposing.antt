-- The measurements of a set, in Prometheus' text format.
use Rattle.std.specs.Prelude.{ℕ, ◌-◌, ◌/◌, ◌%◌, ◌^◌, Bool, false, List, [], ◌++◌, codes}
use Rattle.std.specs.Prelude.{slice_get, unwrap_or, Option, None, Some}
use Rattle.std.specs.Fmt.{decimal, padded_integral, format_spec}
use Rattle.std.specs.Int.{from_bool}
use Rattle.std.specs.List.{flat_map}
use Rattle.link_group.specs.Links.{read_at}
use Rattle.link_group.specs.Reading.{held_count, sent_count}
use Rattle.link_transceiver.specs.Measuring.{count_of}
use Rattle.script_ends.specs.Term.{Term, transceiver_of}
use Rattle.script_ends.specs.resend_store_types.measures.Measure.{Measure}
use Rattle.script_ends.specs.resend_store_types.measures.Measure.TheVariants as measure
use Rattle.line_tending.specs.Readers.{is_busy}
use Rattle.line_tending.specs.Tended.{Tended, link_count}
use Rattle.line_play.specs.SetDoing.{terminal_at}
use Rattle.line_play.specs.SetGiven.{first_links}
use Rattle.line_play.specs.SetSeries.{PlainSeries, all_series}
use Rattle.line_play.specs.declared.set.series.Value.{Value}
use Rattle.line_play.specs.declared.set.series.Value.TheVariants.{Count, Seconds, OtherFailures}
use Rattle.line_play.specs.declared.set.series.Value.TheVariants.{Aborted, InService, Held, Sent}

-- a count of a terminal since it was made
abbrev pub count_at : Measure → Term → ℕ
count_at m t = count_of m t.processes.measures

-- the number of failures without a cause that is counted separately
abbrev pub other_failures : Term → ℕ
other_failures t =
    ((((((count_at measure.Failures t - count_at measure.AlignmentFailures t)
    - count_at measure.ErrorFailures t) - count_at measure.FarFailures t)
    - count_at measure.T1Failures t) - count_at measure.NumberFailures t)
    - count_at measure.T7Failures t) - count_at measure.T6Failures t

-- a number of link l; a time in milliseconds
abbrev pub number_at : Value → Tended → ℕ → Term → ℕ
number_at (Count m) t l x = count_at m x
number_at (Seconds m) t l x = count_at m x
number_at OtherFailures t l x = other_failures x
number_at Aborted t l x = x.processes.aborted
number_at InService t l x = from_bool (transceiver_of x).in_service
number_at Held t l x = unwrap_or (read_at held_count (slice_get t.set.links l)) 0
number_at Sent t l x = unwrap_or (read_at sent_count (slice_get t.set.links l)) 0

-- seconds, with three digits after the point
abbrev pub in_seconds : ℕ → List ℕ
in_seconds n =
    decimal (n / 1000)
    ++ (codes "."
    ++ padded_integral (format_spec 32 0 4 3 (2 ^ 64 - 1)) false [] (decimal (n % 1000)))

abbrev pub shown : Value → ℕ → List ℕ
shown (Count m) n = decimal n
shown (Seconds m) n = in_seconds n
shown OtherFailures n = decimal n
shown Aborted n = decimal n
shown InService n = decimal n
shown Held n = decimal n
shown Sent n = decimal n

-- the description of a name, before its first sample
abbrev pub head_lines : List ℕ → List ℕ → List ℕ → List ℕ
head_lines name kind help =
    codes "# HELP " ++ (name ++ (codes " " ++ (help
    ++ (codes "\n# TYPE " ++ (name ++ (codes " " ++ (kind ++ codes "\n")))))))

abbrev pub head_of : List ℕ → Option (List ℕ × List ℕ) → List ℕ
head_of name None = []
head_of name (Some h) = head_lines name h.0 h.1

-- a sample of link l
abbrev pub sample : List ℕ → List ℕ → ℕ → List ℕ → List ℕ
sample name labels l text =
    name ++ (codes "{link=\"" ++ (decimal l ++ (codes "\"" ++ (labels
    ++ (codes "} " ++ (text ++ codes "\n"))))))

abbrev pub sample_of : PlainSeries → Tended → ℕ → Term → List ℕ
sample_of s t l x = sample s.name s.labels l (shown s.value (number_at s.value t l x))

abbrev pub sample_by : PlainSeries → Tended → ℕ → Option Term → List ℕ
sample_by s t l None = []
sample_by s t l (Some x) = sample_of s t l x

abbrev pub sample_at : PlainSeries → Tended → ℕ → List ℕ
sample_at s t l = sample_by s t l (terminal_at t l)

-- a sample of each link, in order
abbrev pub series_lines : Tended → PlainSeries → List ℕ
series_lines t s =
    head_of s.name s.head ++ flat_map (sample_at s t) (first_links (link_count t))

-- a name with the set's number
abbrev pub set_lines : List ℕ → List ℕ → List ℕ → ℕ → List ℕ
set_lines name kind help n =
    head_lines name kind help ++ (name ++ (codes " " ++ (decimal n ++ codes "\n")))

abbrev pub unsure_lines : ℕ → List ℕ
unsure_lines n =
    set_lines (codes "mtp2_set_unsure_messages_total") (codes "counter")
    (codes "Messages of which it isn't known whether they arrived.") n

abbrev pub waiting_lines : ℕ → List ℕ
waiting_lines n =
    set_lines (codes "mtp2_set_waiting_messages") (codes "gauge")
    (codes "Messages for level 3 that wait for the reader of the reports.") n

abbrev pub away_lines : Bool → List ℕ
away_lines away =
    set_lines (codes "mtp2_set_reader_away") (codes "gauge")
    (codes "1 where all links are busy, since messages wait for the reader of the reports.")
    (from_bool away)

-- The measurements, where so many messages wait for the reader of the reports.
abbrev pub exposition : Tended → ℕ → List ℕ
exposition t waiting =
    ((flat_map (series_lines t) all_series ++ unsure_lines t.set.unsure) ++ waiting_lines waiting)
    ++ away_lines (is_busy t.reader)
