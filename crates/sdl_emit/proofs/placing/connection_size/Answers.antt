use Rattle.std.proofs.Common.{◌≡◌, ℕ, zero, suc, ◌<◌, List, [], ◌∷◌, length, arith}
use Rattle.std.specs.Prelude.{slice_get}
use Rattle.std.specs.List.{AllZip}
use Rattle.std.specs.Option.{option_map_or}
use Rattle.sdl_ast.specs.Plain.{falls, PlainConnection, PlainProcess}
use Rattle.sdl_ast.specs.Views.{process_of}
use Rattle.sdl_tables.specs.Names.{variables_of}
use Rattle.sdl_sound.specs.Longest.{size}
use Rattle.sdl_measures.specs.Measures.{capped, IsMeasureOf}
use Rattle.sdl_measures.specs.Counting.{measure_at}
use Rattle.sdl_measures.specs.declared.measures.Measure.{Measure}
use Rattle.sdl_emit.proofs.placing.connection_size.Goals as goal

-- The size of connection n is its measure, up to the greatest count.
size_told : (p : PlainProcess) (cs : List PlainConnection) (ms : List Measure) (n : ℕ) → AllZip (IsMeasureOf p) cs ms → n < length cs
    → (measure_at ms n).size ≡ capped (size (variables_of p) (option_map_or (λ k. k.text) (slice_get cs n) falls))
size_told p [] ms n h lt = absurd (omega (arith, lt))
size_told p (c ∷ cs) [] n h lt = absurd h
size_told p (c ∷ cs) (m ∷ ms) zero h lt = h.0.size
size_told p (c ∷ cs) (m ∷ ms) (suc n) h lt = size_told p cs ms n h.1 (omega (arith, lt))

pub returns : goal.returns
returns c =
    let p = process_of c.args.names.now.process.now in
    let told = size_told p p.connections c.args.measures.now c.args.number c.requires.measured c.requires.there in
    omega (arith, told, c.measured_size.ensures, c.requires.short)
