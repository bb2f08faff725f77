use Rattle.std.proofs.Common.{◌<◌, length, arith}
use Rattle.std.proofs.lemmas.Option.{slice_get-get_or}
use Rattle.std.proofs.lemmas.Result.{IfOk-weaker}
use Rattle.script_links.specs.GroupScripts.{plain_group_said}
use Rattle.script_play.proofs.SetCaptures.{set_captured, nowhere_captured}
use Rattle.script_play.proofs.captured_groups.capture_next.Goals as goal

pub returns-then-on-count-clause-captured : goal.returns-then-on-count-clause-captured
returns-then-on-count-clause-captured g c =
    let within : c.args.player.now.on < length c.args.links.now = omega (arith, c.if-on-count.true) in
    IfOk-weaker c.capture_there.result _ _ (λ on captured is every p before begun so_far. set_captured every p before (plain_group_said c.args.said.now) begun _ _ _ _ _ _
    c.args.player.now.on c.args.links.now _ _ (slice_get-get_or c.args.links.now c.args.player.now.on _ within) within
    (λ all came seen goes there known. captured is every p before all came seen begun goes there known) so_far) c.capture_there.ensures.captured

pub returns-clause-captured : goal.returns-clause-captured
returns-clause-captured g c =
    IfOk-weaker c.obey.result _ _ (λ on obeyed is every p before begun so_far. nowhere_captured every p before (plain_group_said c.args.said.now) begun _ _ _ _ _ _ _
    c.args.links.now (omega (arith, c.if-on-count.false)) (obeyed is) so_far) c.obey.ensures.obeyed
