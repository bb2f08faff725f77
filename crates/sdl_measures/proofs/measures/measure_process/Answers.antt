use Rattle.std.proofs.Common.{arith, ◌≡◌, ◌<◌, List, Some, length, map, refl, ap, sym, ◌∙◌, subst}
use Rattle.std.specs.Prelude.{slice_get, slice_index_or}
use Rattle.std.specs.Option.{option_map}
use Rattle.std.proofs.lemmas.List.{length-set, length-map}
use Rattle.std.proofs.lemmas.Option.{slice_get_read, slice_get-get_or, slice_get-map}
use Rattle.sdl_ast.specs.Plain.{PlainConnection}
use Rattle.sdl_ast.specs.Views.{connection_of, process_of}
use Rattle.sdl_measures.specs.Counting.{IsMeasured}
use Rattle.sdl_measures.specs.declared.measures.Measure.{Measure}
use Rattle.sdl_measures.proofs.Connectors.{distinct_connectors}
use Rattle.sdl_measures.proofs.Joined.{measured_more, all_measured}
use Rattle.sdl_measures.proofs.measures.measure_process.Goals as goal

pub loop-number-preserved : goal.loop-number-preserved
loop-number-preserved c =
    let p = process_of c.args.process.now in
    let order = c.args.order.now in
    let i = c.loop-number.number-index in
    let n = slice_index_or order i 0 in
    let ms = c.loop-number.measures.items in
    let m = c.measure_transition.result in
    let items = c.process.result.now.connections.items in
    let a = c.index.result.now in
    let all : map connection_of items ≡ p.connections = ap (λ x. map connection_of x.connections.items) c.process.ensures.process in
    let at : slice_get order i ≡ Some n = slice_get-get_or order i 0 c.loop-number-test.true in
    let within : n < length p.connections = c.requires.known i n at in
    let inside : n < length items = omega (arith, within, ap length all, length-map items connection_of) in
    let there : slice_get items n ≡ Some a = slice_get_read items (length items) n a refl inside c.index.ensures in
    let plain : slice_get p.connections n ≡ Some (connection_of a) =
    ap (λ (l : List PlainConnection). slice_get l n) (sym all) ∙ slice_get-map connection_of items n ∙ ap (option_map connection_of) there in
    let measured : IsMeasured p c.deref.result.now (connection_of a).text 0 0 m = c.measure_transition.ensures 0 0 (record { budget = refl; effects = refl }) in
    let told : IsMeasured p ms (connection_of a).text 0 0 m = subst (λ (l : List Measure). IsMeasured p l (connection_of a).text 0 0 m) c.deref.ensures.value measured in
    record {
      count = length-set ms n m ∙ c.loop-number.invariant.count;
      done = measured_more p order ms i n (connection_of a) m c.requires (distinct_connectors p c.process.ensures.distinct) at plain (omega (arith, within, c.loop-number.invariant.count)) c.loop-number.invariant.done told;
    }

pub returns : goal.returns
returns c =
    all_measured (process_of c.args.process.now) c.args.order.now c.loop-number.measures.items c.loop-number.number-index c.requires c.loop-number-test.false c.loop-number.invariant.count
    c.loop-number.invariant.done
