use Rattle.std.proofs.Common.{◌≡◌, ◌∷◌, ◌++◌, [], ℕ, ◌+◌, ◌<◌, List, length, take, get_or, sym, subst}
use Rattle.std.specs.List.{AllZip}
use Rattle.std.proofs.lemmas.List.{take_more}
use Rattle.sdl_unset.specs.declared.paths.Step as number
use Rattle.sdl_unset.specs.declared.paths.Step.TheVariants.{Start as First}
use Rattle.sdl_ast.specs.Views.{process_of, block_of}
use Rattle.sdl_unset.specs.Fates.{IsNamed, IsSpelled}
use Rattle.sdl_sound.specs.declared.fault.Step.{Step}
use Rattle.std.proofs.lemmas.Slice.Zip.{all_zipped_more as all_zip_push}
use Rattle.sdl_unset.proofs.spelled.named_path.Goals as goal

-- One more step, for either relation.
step_more : (R : number.Step → Step → Type 0) (path : List number.Step) (k : ℕ) (steps grown : List Step) (n : Step) → k < length path
    → grown ≡ steps ++ n ∷ [] → AllZip R (take k path) steps → R (get_or path k First) n → AllZip R (take (k + 1) path) grown
step_more R path k steps grown n within is before here =
    subst (λ (l : List number.Step). AllZip R l grown) (sym (take_more path k First within))
    (subst (λ (l : List Step). AllZip R (take k path ++ get_or path k First ∷ []) l) (sym is)
    (all_zip_push R (take k path) steps _ n before here))

pub loop-step-preserved : goal.loop-step-preserved
loop-step-preserved c =
    let p = process_of c.args.table.now in
    let b = block_of c.args.block.now in
    let path = c.args.path.now in
    let k = c.loop-step.step-index in
    record {
      named = step_more (IsNamed p) path k c.loop-step.steps.items c.push.new.self.items c.named_step.result c.loop-step-test.true c.in_ok-push.ensures.items c.loop-step.invariant.named c.named_step.ensures.named;
      spelled = step_more (IsSpelled b p) path k c.loop-step.steps.items c.push.new.self.items c.named_step.result c.loop-step-test.true c.in_ok-push.ensures.items c.loop-step.invariant.spelled c.named_step.ensures.spelled;
    }
