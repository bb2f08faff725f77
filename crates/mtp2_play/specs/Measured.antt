-- The text of a terminal's measurements (Q.752).
use Rattle.std.specs.Prelude.{ℕ, List, ◌∷◌, [], ◌++◌, String, string_bytes}
use Rattle.std.specs.List.{flat_map}
use Rattle.line_play.specs.Measured.{measured_lines}
use Rattle.link_term.specs.Term.{Term}

-- a line, with its end
abbrev pub line_text : {Z : Type 0} → String Z → List ℕ
line_text line = string_bytes line ++ 10 ∷ []

-- the lines of all measurements, in their order
abbrev pub measures_text : Term → List ℕ
measures_text t = flat_map (λ (line : List ℕ). line ++ 10 ∷ []) (measured_lines t)
