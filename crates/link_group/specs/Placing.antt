-- Giving links to selections: when a link may first have some, and when a set is rebalanced.
use Rattle.std.specs.Prelude.{ℕ, Bool, true, if◌then◌else◌, List, map, Option, Some, None}
use Rattle.std.specs.List.{list_any}
use Rattle.group_changeover.specs.Limits.{SELECTIONS}
use Rattle.group_changeover.specs.Sharing.{selections, pick}
use Rattle.group_changeover.specs.declared.errors.RebalanceError.{RebalanceError}
use Rattle.group_changeover.specs.declared.errors.RebalanceError.TheVariants as rebalance
use Rattle.link_group.specs.declared.link.Link.{Link}
use Rattle.link_group.specs.OneLink.{is_changing}
use Rattle.link_group.specs.Set.{LinkSet}
use Rattle.link_group.specs.Moving.{able_links, anew_links}
use Rattle.link_group.specs.Tables.{anew_on, in_way, any_below, forgiven}

-- the table that is remade
unfoldable pub table_anew : List Link → List (Option ℕ) → List (Option ℕ)
table_anew ks ts = map (anew_on ks ts (anew_links ks)) selections

-- the table is remade if a link may have selections for the first time
abbrev pub table_if : Bool → List Link → List (Option ℕ) → List (Option ℕ)
table_if first ks ts = if first then table_anew ks ts else ts

-- ---- rebalancing

-- K2 while a changeover goes on, K3 if a selection would move whose link holds messages of it
unfoldable pub rebalance_fault : LinkSet → Option RebalanceError
rebalance_fault c =
    if list_any is_changing c.links then Some rebalance.Waiting
    else (if any_below (in_way c.links c.table (able_links true c.links)) SELECTIONS
    then Some rebalance.NotEmpty else None)

-- Each selection gets its link among all that may have some, and no link counts as failed.
unfoldable pub rebalanced : LinkSet → LinkSet
rebalanced c = record c {
  links = map forgiven c.links;
  table = map (pick (able_links true c.links)) selections;
}
