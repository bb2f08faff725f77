use Rattle.std.specs.Prelude.{slice_get}
use Rattle.link_group.specs.Gone.{acknowledged, told_front}
use Rattle.link_group.proofs.group.Group.with_reported.Given as goal

abbrev pub ghost-with : goal.ghost-with
ghost-with a =
    let seen = a.seen.now in
    let set = seen.set.value in
    acknowledged (told_front (slice_get set.links seen.link))
