use Rattle.std.proofs.Common.{◌≡◌, ◌≤◌, ◌++◌, drop}
use Rattle.arrayvec.specs.ArrayVec.{array_vec_len}
use Rattle.link_group.specs.Moving.{is_open, places_from}
use Rattle.link_group.proofs.open.eligible_links.Given as goal

abbrev pub invariant-loop-at : goal.invariant-loop-at
invariant-loop-at l =
    (l.able.items ++ places_from (is_open l.failed l.outage) l.at (drop l.at l.links) ≡ places_from (is_open l.failed l.outage) 0 l.links)
    × (array_vec_len l.able ≤ l.at)
