use Rattle.std.proofs.Common.{arith, ◌≡◌, ◌+◌, ◌++◌, ◌∷◌, [], ℕ, List, Some, Vec, Global, length, map, take, refl, ap, sym, ◌∙◌, subst}
use Rattle.std.specs.Prelude.{slice_get}
use Rattle.std.specs.Option.{option_map}
use Rattle.std.proofs.lemmas.List.{length-map}
use Rattle.std.proofs.lemmas.Option.{slice_get_read, slice_get-map}
use Rattle.sdl_ast.specs.Plain.{PlainProcess}
use Rattle.sdl_ast.specs.Views.{process_of, block_of}
use Rattle.sdl_tables.specs.Names.{processes_of}
use Rattle.sdl_sound.specs.Orders.{IsOrder}
use Rattle.sdl_measures.specs.Measures.{AreMeasures, AllMeasures}
use Rattle.sdl_measures.specs.declared.measures.Measure.{Measure}
use Rattle.sdl_measures.proofs.measures.measure_all.Goals as goal
use Rattle.plain_laws.proofs.Lists.{mapped_more}
use Rattle.plain_laws.proofs.Pairwise.{zip_push, zip_at, zip_length}

pub bounds-orders-place : goal.bounds-orders-place
bounds-orders-place c =
    let ts = c.tables-process-items.result.now in
    omega (
      arith,
      zip_length (λ p (v : Vec ℕ Global). IsOrder p v.items) (processes_of (block_of c.args.block.now)) c.args.orders.now c.requires,
      ap length c.tables-process-items.ensures,
      length-map ts process_of,
      c.loop-place-test.true,
    )

pub measure_process-requires : goal.measure_process-requires
measure_process-requires c =
    let ts = c.tables-process-items.result.now in
    let k = c.loop-place.place in
    let t = c.process-item.result in
    let v = c.index-orders-place.result in
    let at : slice_get ts k ≡ Some t = slice_get_read ts (length ts) k t refl c.loop-place-test.true c.process-item.is in
    let process : slice_get (processes_of (block_of c.args.block.now)) k ≡ Some (process_of t) =
    ap (λ (l : List PlainProcess). slice_get l k) (sym c.tables-process-items.ensures) ∙ slice_get-map process_of ts k ∙ ap (option_map process_of) at in
    let order : slice_get c.args.orders.now k ≡ Some v = slice_get_read c.args.orders.now (length c.args.orders.now) k v refl (omega (arith, zip_length (λ p (v : Vec ℕ Global). IsOrder p v.items) (processes_of (block_of c.args.block.now)) c.args.orders.now c.requires, ap length c.tables-process-items.ensures, length-map ts process_of, c.loop-place-test.true)) c.index-orders-place.is in
    subst (IsOrder (process_of t)) (sym c.deref.ensures.value)
    (zip_at (λ p (v : Vec ℕ Global). IsOrder p v.items) (processes_of (block_of c.args.block.now)) c.args.orders.now k (process_of t) v c.requires process order)

pub loop-place-preserved : goal.loop-place-preserved
loop-place-preserved c =
    let ts = c.tables-process-items.result.now in
    let k = c.loop-place.place in
    let t = c.process-item.result in
    let more : map process_of (take (k + 1) ts) ≡ map process_of (take k ts) ++ process_of t ∷ [] = mapped_more process_of ts k t c.loop-place-test.true c.process-item.is in
    subst (λ (l : List PlainProcess). AllMeasures l c.push.new.self.items) (sym more)
    (subst (λ (l : List (Vec Measure Global)). AllMeasures (map process_of (take k ts) ++ process_of t ∷ []) l) (sym c.in_ok-push.ensures.items)
    (zip_push (λ p (v : Vec Measure Global). AreMeasures p v.items) (map process_of (take k ts)) c.loop-place.rows.items (process_of t) c.in_ok-measure_process.field-0 c.loop-place.invariant c.in_ok-measure_process.ensures))
