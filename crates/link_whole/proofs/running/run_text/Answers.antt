use Rattle.std.proofs.lemmas.Result.{err_from_is_err_and}
use Rattle.turn_verify.specs.Blocks.{MatchesBlock}
use Rattle.link_whole.proofs.Refusing.{refused_so, run_so}
use Rattle.link_whole.proofs.running.run_text.Goals as goal

pub returns-in_err-set : goal.returns-in_err-set
returns-in_err-set c =
    let p = err_from_is_err_and c.from_residual.result c.from_residual.ensures.1 in
    rw (p.1, p.2) (refused_so c.args.text.now c.in_err-set.field-0.0 MatchesBlock c.in_err-set.ensures.refused c.in_err-set.ensures.exact)

pub returns-in-Ok : goal.returns-in-Ok
returns-in-Ok c =
    run_so c.args.text.now c.in_ok-set.set c.args.limits c.args.steps.now c.in-Ok.run'.book c.in-Ok.run'.replies.items c.in_ok-set.ensures.accepted c.in_ok-set.ensures.every
    c.in-Ok.ensures
