use Rattle.std.proofs.Common.{◌≡◌, ◌∙◌, length, rules, sym}
use Rattle.script_seen.proofs.LinkTraces.{fresh_begins, fresh_on, all_fresh}
use Rattle.script_seen.proofs.traced_groups.open_tracers.Goals as goal

pub loop-link-init : goal.loop-link-init
loop-link-init c = fresh_begins c.args.every c.args.set.now _ c.new-tracers.ensures.items

pub loop-link-preserved : goal.loop-link-preserved
loop-link-preserved c =
    fresh_on c.args.every c.args.set.now c.loop-link._link _ _ c.in_ok-tracer.tracer c.in_ok-push.ensures.items c.loop-link.invariant
    (record { every_is = c.in_ok-tracer.ensures.every; start = c.in_ok-tracer.ensures.start })

pub returns : goal.returns
returns c bs many new =
    let so_far = c.loop-link.invariant in
    let end : c.args.links ≡ c.loop-link._link = search rules in
    let same : length bs ≡ length c.loop-link.tracers.items = many ∙ (end ∙ sym so_far.many) in
    all_fresh c.args.every c.args.set.now bs c.loop-link.tracers.items same new so_far.fresh
