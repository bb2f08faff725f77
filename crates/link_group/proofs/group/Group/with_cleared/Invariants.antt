use Rattle.std.specs.Prelude.{slice_get}
use Rattle.link_group.specs.Commanding.{cleared_at}
use Rattle.link_group.specs.Gone.{unsure}
use Rattle.link_group.proofs.group.Group.with_cleared.Given as goal

abbrev pub ghost-with : goal.ghost-with
ghost-with a =
    let seen = a.seen.now in
    let place = seen.place in
    let set = place.set.value in
    unsure (cleared_at seen.command (slice_get set.links place.link))
