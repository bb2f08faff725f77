use Rattle.std.proofs.Common.{◌<◌, ℕ, length, sym, subst, ◌∙◌}
use Rattle.std.specs.Prelude.{All}
use Rattle.std.proofs.lemmas.List.Elements.{All-append}
use Rattle.sdl_ast.specs.Views.{input_of, process_of}
use Rattle.plain_laws.proofs.Lists.{mapped_more}
use Rattle.sdl_warnings.proofs.Joined.{targets_on}
use Rattle.sdl_warnings.proofs.connections.push_targets.Goals as goal

pub loop-input-preserved : goal.loop-input-preserved
loop-input-preserved c =
    let p = process_of c.args.process.now in
    let P : ℕ → Type 0 = λ n. n < length p.connections in
    let more = mapped_more (λ i. input_of i.now) c.args.inputs.now c.loop-input.input-index c.input-item.result c.loop-input-test.true c.input-item.is in (
      targets_on p _ _ _ _ _ _ _ more c.loop-input.invariant.0 c.in_ok-extend_from_slice.ensures.items (c.deref.ensures.value ∙ c.in_ok-more.ensures.targets),
      subst (All P) (sym c.in_ok-extend_from_slice.ensures.items)
          (All-append P _ _ c.loop-input.invariant.1 (subst (All P) (sym c.deref.ensures.value) c.in_ok-more.ensures.within)),
    )
