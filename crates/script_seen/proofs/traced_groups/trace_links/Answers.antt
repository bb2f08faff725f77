use Rattle.std.proofs.Common.{◌≡◌, ◌<◌, ◌≤◌, length, rules, ◌∙◌}
use Rattle.std.proofs.lemmas.List.{length-map}
use Rattle.std.proofs.lemmas.Option.{slice_get-get_or}
use Rattle.script_ends.specs.GroupRuns.{playing_of}
use Rattle.link_group.specs.Reading.{book_of}
use Rattle.script_seen.specs.TracedGroups.{books_of}
use Rattle.script_seen.proofs.LinkTraces.{no_link, one_link, all_links}
use Rattle.script_seen.proofs.traced_groups.trace_links.Goals as goal

pub loop-link-init : goal.loop-link-init
loop-link-init g c every d rs at = no_link every d rs (books_of (playing_of c.args.player.now)) c.args.tracers.now _ at

pub loop-link-preserved : goal.loop-link-preserved
loop-link-preserved g c every d rs at =
    let ts = c.loop-link.tracers in
    let n = c.loop-link.link in
    let within : n < length ts = search rules in
    one_link every d rs (books_of (playing_of c.args.player.now)) n ts _ c.trace_one.new.tracer _ _ _
    (slice_get-get_or ts n _ within) c.in_ok-trace_one.ensures.every
    (λ r there. c.in_ok-trace_one.ensures.traced d r there) (c.loop-link.invariant every d rs at)

pub returns : goal.returns
returns g c every d rs at =
    let p = playing_of c.args.player.now in
    let over : length c.args.tracers.now ≤ c.loop-link.link = search rules in
    let same : length p.set.links ≡ length c.args.tracers.now = search rules in
    let all = all_links every d rs (books_of p) c.loop-link.link c.args.tracers.now c.loop-link.tracers _ _ at (length-map p.set.links book_of ∙ same) over
    (c.loop-link.invariant every d rs at) in
    (all.reached, all.are_at, all.written)
