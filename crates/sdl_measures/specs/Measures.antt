-- The measures of each connection of a process.
use Rattle.std.specs.Prelude.{◌≡◌, ℕ, List, min}
use Rattle.std.specs.List.{AllZip}
use Rattle.std.specs.Global.{Vec}
use Rattle.sdl_ast.specs.Plain.{PlainConnection, PlainProcess}
use Rattle.sdl_tables.specs.Names.{variables_of}
use Rattle.sdl_sound.specs.Going.{goes_on}
use Rattle.sdl_sound.specs.Longest.{budget, depth, effects, size, joined}
use Rattle.sdl_measures.specs.declared.measures.Measure.{Measure}

-- A count, up to 4,294,967,295.
abbrev pub capped : ℕ → ℕ
capped n = min n 4294967295

-- The measures of a connection: the greatest cost, the greatest depth and the most effects of a
-- walk from its start; the size of its own text; and whether this may run off its end.
pub record IsMeasureOf (p : PlainProcess) (c : PlainConnection) (m : Measure) : Type 0 where
  pub budget : m.budget ≡ capped (joined (λ vs join text. budget vs join text 0) p c.name.name)
  pub depth : m.depth ≡ capped (joined (λ vs. depth) p c.name.name)
  pub effects : m.effects ≡ capped (joined (λ vs join text. effects join text 0) p c.name.name)
  pub size : m.size ≡ capped (size (variables_of p) c.text)
  pub goes_on : m.goes_on ≡ goes_on c.text

-- `ms` are the measures of the connections of a process, by number.
abbrev pub AreMeasures : PlainProcess → List Measure → Type 0
AreMeasures p ms = AllZip (IsMeasureOf p) p.connections ms

-- `rows` are the measures of the connections of each process.
abbrev pub AllMeasures : List PlainProcess → List (Vec Measure) → Type 0
AllMeasures ps rows = AllZip (λ p (v : Vec Measure). AreMeasures p v.items) ps rows
