-- A set that manages itself, as a caller sees it.
use Rattle.std.specs.Prelude.{◌≡◌, ℕ, Bool, List, [], length, replicate}
use Rattle.link_group.specs.Set.{LinkSet}
use Rattle.line_tending.specs.Calling.{ByCalls}
use Rattle.line_tending.specs.Orders.{nothing_ordered}
use Rattle.line_tending.specs.declared.ends.Ends.{Ends}
use Rattle.line_tending.specs.declared.ordered.Ordered.{Ordered}
use Rattle.line_tending.specs.declared.reader.Reader.{Reader}
use Rattle.line_tending.specs.declared.reader.Reader.TheVariants.{Here}
use Rattle.line_tending.specs.declared.tended_set.TendPlan.{TendPlan}
use Rattle.line_tending.specs.declared.told.Told.{Told}

pub record Tended : Type 0 where
  pub set : LinkSet
  -- The points, whether links are tested, and the number of links.
  pub plan : TendPlan
  -- The number of ticks passed.
  pub ticks : ℕ
  -- The pending reports that pass on reports of links, in order: messages for level 3, and changes
  -- of links.
  pub reports : List Told
  -- The state of their reader.
  pub reader : Reader
  -- The pending reports that it is away or back, in order.
  pub news : List Told
  -- What level 3 ordered of each of 16 links.
  pub ordered : List Ordered

-- the number of its links
abbrev pub link_count : Tended → ℕ
link_count t = t.plan.links

-- Nothing was reported, and no tick has passed. The set is the given one, except for calls of it.
pub record IsNewTended (ends : Ends) (tests : Bool) (set : LinkSet) (t : Tended) : Type 0 where
  pub calls : ByCalls set [] [] t.set
  pub plan : t.plan ≡ record { ends = ends; tests = tests; links = length set.links }
  pub ticks : t.ticks ≡ 0
  pub reports : t.reports ≡ []
  pub reader : t.reader ≡ Here
  pub news : t.news ≡ []
  pub ordered : t.ordered ≡ replicate 16 nothing_ordered
