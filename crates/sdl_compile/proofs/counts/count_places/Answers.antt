use Rattle.std.proofs.Common.{arith, ◌-◌}
use Rattle.std.proofs.lemmas.Option.{slice_get-get_or}
use Rattle.sdl_compile.specs.PlaceCounts.{weight}
use Rattle.sdl_compile.proofs.Passes.{step}
use Rattle.sdl_compile.proofs.counts.count_places.Goals as goal

pub loop-place-preserved : goal.loop-place-preserved
loop-place-preserved c = record {
  counted = step (weight c.args.counted) c.args.known.items c.args.code.now c.loop-place.counts.items c.loop-place.place _ c.weight.result c.greatest_next.result c.loop-place.invariant.counted (omega (arith, c.loop-place-test.true)) (slice_get-get_or c.args.code.now (c.loop-place.place - 1) _ (omega (arith, c.loop-place-test.true, c.loop-place.invariant.within))) c.weight.ensures.one c.weight.ensures.value (rw c.deref.ensures.value at c.greatest_next.ensures);
  within = omega (arith, c.loop-place.invariant.within);
}
