use Rattle.std.proofs.Common.{drop, ◌≡◌, ◌∷◌, ◌+◌, List, sym, ap, ◌∙◌, subst, vec_capacity}
use Rattle.std.proofs.lemmas.List.{drop_more}
use Rattle.std.proofs.lemmas.Result.{err_from_is_err_and}
use Rattle.actor_book.specs.Midway.{IsMidway}
use Rattle.actor_book.specs.declared.schedule.Scheduled.{Scheduled}
use Rattle.actor_book.proofs.Schedulings.{goes_midway, cut_midway}
use Rattle.actor_book.proofs.schedule.make_steps.Goals as goal

pub returns-in_err-make_step-clause-err : goal.returns-in_err-make_step-clause-err
returns-in_err-make_step-clause-err c =
    let xs = c.args.steps.now in
    let i = c.loop-step.step-index in
    let s = c.step-item.result in
    let rs = c.loop-step.replies in
    let split : drop i xs ≡ s ∷ drop (i + 1) xs = drop_more xs i s c.loop-step-test.true ∙ ap (λ (x : Scheduled). x ∷ drop (i + 1) xs) (sym c.step-item.is) in
    let way = subst (λ (zs : List Scheduled). IsMidway c.args.book.now c.loop-step.book c.args.replies.now.items rs.items (vec_capacity rs) xs zs) split c.loop-step.invariant in
    let p = err_from_is_err_and c.from_residual.result c.from_residual.ensures.1 in
    rw p.1
    (cut_midway c.args.book.now c.loop-step.book c.make_step.new.book c.args.replies.now.items rs.items c.make_step.new.replies.items (vec_capacity rs) xs (drop (i + 1) xs)
    s way c.in_err-make_step.ensures.err c.in_err-make_step.ensures.rebase)

pub loop-step-preserved : goal.loop-step-preserved
loop-step-preserved c =
    let xs = c.args.steps.now in
    let i = c.loop-step.step-index in
    let s = c.step-item.result in
    let rs = c.loop-step.replies in
    let split : drop i xs ≡ s ∷ drop (i + 1) xs = drop_more xs i s c.loop-step-test.true ∙ ap (λ (x : Scheduled). x ∷ drop (i + 1) xs) (sym c.step-item.is) in
    let way = subst (λ (zs : List Scheduled). IsMidway c.args.book.now c.loop-step.book c.args.replies.now.items rs.items (vec_capacity rs) xs zs) split c.loop-step.invariant in
    goes_midway c.args.book.now c.loop-step.book c.make_step.new.book c.args.replies.now.items rs.items c.make_step.new.replies.items (vec_capacity rs) xs (drop (i + 1) xs) s
    way c.set_law.ensures (vec_capacity c.make_step.new.replies) c.in_ok-make_step.ensures.book c.in_ok-make_step.ensures.replies c.make_step.ensures.few c.make_step.ensures.capacity
