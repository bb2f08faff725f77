-- The measurements of a terminal (Q.752), as lines.
use Rattle.std.specs.Prelude.{ℕ, List, ◌∷◌, [], ◌++◌, map}
use Rattle.std.specs.Fmt.{decimal}
use Rattle.script_links.specs.TermCommands.{ABORTED}
use Rattle.script_ends.specs.MeasureNames.{measure_word, all_measures}
use Rattle.link_transceiver.specs.Measuring.{count_of}
use Rattle.script_ends.specs.Term.{Term}
use Rattle.link_transceiver.specs.declared.measures.Measures.{Measures}
use Rattle.script_ends.specs.resend_store_types.measures.Measure.{Measure}

-- the name of a measurement and its count
abbrev pub measured_line : Measures → Measure → List ℕ
measured_line measures measure =
    measure_word measure ++ 32 ∷ decimal (count_of measure measures)

abbrev pub aborted_line : Term → List ℕ
aborted_line t = ABORTED ++ 32 ∷ decimal t.processes.aborted

-- the lines of all measurements, in their order
abbrev pub measured_lines : Term → List (List ℕ)
measured_lines t = map (measured_line t.processes.measures) all_measures ++ aborted_line t ∷ []
