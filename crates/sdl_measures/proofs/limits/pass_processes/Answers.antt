use Rattle.std.proofs.Common.{arith, ◌≡◌, ◌<◌, List, Some, Vec, Global, length, map, take, refl, ap, sym, ◌∙◌, subst}
use Rattle.std.specs.Prelude.{slice_get}
use Rattle.std.specs.Option.{option_map}
use Rattle.std.proofs.lemmas.List.{length-map}
use Rattle.std.proofs.lemmas.Option.{slice_get_read, slice_get-map}
use Rattle.sdl_ast.specs.Plain.{PlainProcess}
use Rattle.sdl_ast.specs.Views.{process_of}
use Rattle.sdl_measures.specs.Measures.{AreMeasures}
use Rattle.sdl_measures.specs.Rows.{AllPassed}
use Rattle.sdl_measures.specs.declared.measures.Measure.{Measure}
use Rattle.sdl_measures.proofs.Passing.{all_push}
use Rattle.sdl_measures.proofs.limits.pass_processes.Goals as goal
use Rattle.plain_laws.proofs.Lists.{mapped_more}
use Rattle.plain_laws.proofs.Pairwise.{zip_at, zip_length}

pub bounds-measures-place : goal.bounds-measures-place
bounds-measures-place c =
    let ts = c.args.processes.now in
    omega (arith, zip_length (λ p (v : Vec Measure Global). AreMeasures p v.items) (map process_of ts) c.args.measures.now c.requires, length-map ts process_of, c.loop-place-test.true)

pub pass_process-requires : goal.pass_process-requires
pass_process-requires c =
    let ts = c.args.processes.now in
    let k = c.loop-place.place in
    let t = c.index-processes-place.result in
    let v = c.index-measures-place.result in
    let at : slice_get ts k ≡ Some t = slice_get_read ts (length ts) k t refl c.loop-place-test.true c.index-processes-place.is in
    let process : slice_get (map process_of ts) k ≡ Some (process_of t) = slice_get-map process_of ts k ∙ ap (option_map process_of) at in
    let within : k < length c.args.measures.now =
    omega (arith, zip_length (λ p (v : Vec Measure Global). AreMeasures p v.items) (map process_of ts) c.args.measures.now c.requires, length-map ts process_of, c.loop-place-test.true) in
    let row : slice_get c.args.measures.now k ≡ Some v = slice_get_read c.args.measures.now (length c.args.measures.now) k v refl within c.index-measures-place.is in
    subst (AreMeasures (process_of t)) (sym c.deref.ensures.value)
    (zip_at (λ p (v : Vec Measure Global). AreMeasures p v.items) (map process_of ts) c.args.measures.now k (process_of t) v c.requires process row)

pub loop-place-preserved : goal.loop-place-preserved
loop-place-preserved c =
    let ts = c.args.processes.now in
    let k = c.loop-place.place in
    let t = c.index-processes-place.result in
    subst (λ (l : List PlainProcess). AllPassed l c.either-passed.result) (sym (mapped_more process_of ts k t c.loop-place-test.true c.index-processes-place.is))
    (all_push (map process_of (take k ts)) (process_of t) _ _ _ c.loop-place.invariant c.in_ok-pass_process.ensures c.either-passed.ensures)
