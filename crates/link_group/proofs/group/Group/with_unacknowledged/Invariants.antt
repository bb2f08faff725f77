use Rattle.std.specs.Prelude.{slice_get}
use Rattle.link_group.specs.Gone.{unsure, unacknowledged_at}
use Rattle.link_group.proofs.group.Group.with_unacknowledged.Given as goal

abbrev pub ghost-with : goal.ghost-with
ghost-with a =
    let seen = a.seen.now in
    let set = seen.set.value in
    unsure (unacknowledged_at (slice_get set.links seen.link))
