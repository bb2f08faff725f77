use Rattle.link_group.specs.Gone.{acknowledged, left_of}
use Rattle.link_group.proofs.gone.with_left.Given as goal

abbrev pub ghost-with : goal.ghost-with
ghost-with a = let seen = a.seen.now in acknowledged (left_of seen.before.value seen.after.value)
