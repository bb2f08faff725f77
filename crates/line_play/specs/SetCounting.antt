-- The counts of a link since they were last reset (Q.752).
use Rattle.std.specs.Prelude.{ℕ, ◌-◌, Option, None, Some}
use Rattle.link_transceiver.specs.Measuring.{count_of}
use Rattle.script_ends.specs.Term.{Term}
use Rattle.script_ends.specs.resend_store_types.measures.Measure.{Measure}
use Rattle.line_play.specs.declared.set.measures.Begun.{Begun}
use Rattle.line_play.specs.declared.set.measures.Since.{Since}

-- a terminal's count, less its value at the last reset
abbrev pub since_count : Measure → Option Begun → Term → ℕ
since_count m None t = count_of m t.processes.measures
since_count m (Some b) t = count_of m t.processes.measures - count_of m b.measures

-- the number of aborted proving periods since the last reset
abbrev pub since_aborted : Option Begun → Term → ℕ
since_aborted None t = t.processes.aborted
since_aborted (Some b) t = t.processes.aborted - b.aborted

-- the count of a link; 0 if there is no such link
abbrev pub counted_by : (Option Begun → Term → ℕ) → Option Since → Option Term → ℕ
counted_by f None t = 0
counted_by f (Some s) None = 0
counted_by f (Some s) (Some t) = f s.begun t

-- the counts start again from their present values
abbrev pub begun_at : Term → Since
begun_at t = record {
  begun = Some (record { measures = t.processes.measures; aborted = t.processes.aborted });
}
