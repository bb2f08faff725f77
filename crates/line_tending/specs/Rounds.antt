-- The calls of a set that manages itself. The set changes only by its calls.
use Rattle.std.specs.Prelude.{◌≡◌, ℕ, ◌+◌, ◌^◌, ◌-◌, ◌<◌, min, List, [], ◌∷◌, ◌++◌, length, None}
use Rattle.std.specs.Prelude.{Some}
use Rattle.std.specs.List.{flat_map}
use Rattle.resend_store.specs.declared.messages.Msu.{Msu}
use Rattle.link_transceiver.specs.declared.signals.Report.{Report}
use Rattle.link_group.specs.Doing.{Reported}
use Rattle.link_group.specs.Lines.{ByLink}
use Rattle.link_group.specs.Set.{LinkSet}
use Rattle.link_group.specs.Ticks.{after_ticks}
pub use Rattle.line_tending.specs.Calling.{Handed}
use Rattle.line_tending.specs.Calling.{ByCalls}
use Rattle.line_tending.specs.Orders.{ordered_after, ordered_along}
use Rattle.line_tending.specs.Telling.{report_told}
use Rattle.line_tending.specs.Tended.{Tended}
use Rattle.line_tending.specs.declared.tended_set.TendPlan.{TendPlan}
use Rattle.line_tending.specs.declared.told.Told.{Told}

-- `send` took these messages, and these reports are queued after those that were pending.
pub record Acts (taken : List Msu) (tells : List Told) (old new : Tended) : Type 0 where
  pub calls : ByCalls old.set taken [] new.set
  pub plan : new.plan ≡ old.plan
  pub ticks : new.ticks ≡ old.ticks
  pub reports : new.reports ≡ old.reports ++ tells
  pub reader : new.reader ≡ old.reader
  pub news : new.news ≡ old.news
  pub ordered : new.ordered ≡ old.ordered

-- `send` took no message, and no report is queued.
pub record Does (old new : Tended) : Type 0 where
  pub calls : ByCalls old.set [] [] new.set
  pub plan : new.plan ≡ old.plan
  pub ticks : new.ticks ≡ old.ticks
  pub reports : new.reports ≡ old.reports
  pub reader : new.reader ≡ old.reader
  pub news : new.news ≡ old.news
  pub ordered : new.ordered ≡ old.ordered

-- The step can be added to earlier ones: any state that `Does` led from to old leads to new.
abbrev pub Adds : Tended → Tended → Type 0
Adds old new = (first : Tended) → Does first old → Does first new

-- As `Adds`, but orders of level 3 may have been noted.
abbrev pub AddsOrders : Tended → Tended → Type 0
AddsOrders old new = Adds old (record new { ordered = old.ordered })

-- ---- reports

-- A link delivers a report, and nothing else changes.
pub record HandsOut (h : Handed) (old new : Tended) : Type 0 where
  pub reports : ByLink (Reported (Some h.report)) h.link old.set new.set
  pub same : new ≡ record old { set = new.set }

-- Links deliver reports one after another; before them and after each, the rules make calls of the
-- set.
pub data Heeds (t : Tended) : List Handed → Tended → Type 0 where
  nothing : {u : Tended} → ByCalls t.set [] [] u.set → Heeds t [] u
  one : {hs : List Handed} {u v w : Tended} (h : Handed)
      → Heeds t hs u → HandsOut h u v → ByCalls v.set [] [] w.set
      → Heeds t (hs ++ h ∷ []) w

-- The reports made for the reports that links delivered.
abbrev pub reports_told : TendPlan → List Handed → List Told
reports_told p hs = flat_map (λ h. report_told p h.link h.report) hs

-- A report that a link delivered is taken.
abbrev pub IsTaken : Handed → Tended → Tended → Type 0
IsTaken h old new =
    Acts [] (report_told old.plan h.link h.report)
    (record old { ordered = ordered_after h old.ordered }) new

-- Links were heeded: each message for level 3 that they delivered and each change of a link is
-- reported once, in order and with its link. A link that went down is no longer ordered to be busy.
pub record IsHeeded (old new : Tended) : Type 0 where
  pub handed : List Handed
  pub heeds : Heeds old handed new
  pub plan : new.plan ≡ old.plan
  pub ticks : new.ticks ≡ old.ticks
  pub reports : new.reports ≡ old.reports ++ reports_told old.plan handed
  pub reader : new.reader ≡ old.reader
  pub news : new.news ≡ old.news
  pub ordered : new.ordered ≡ ordered_along old.ordered handed

abbrev pub AddsHeeded : Tended → Tended → Type 0
AddsHeeded old new = (first : Tended) → IsHeeded first old → IsHeeded first new

-- Asked for a report after all that it delivered, a link had none.
pub record HasTold (link : ℕ) (t : Tended) : Type 0 where
  pub before : LinkSet
  pub none_left : ByLink (Reported None) link before t.set

-- The link has no report left, if it exists.
abbrev pub ToldAll : ℕ → Tended → Type 0
ToldAll link t = link < length t.set.links → HasTold link t

-- The first `count` links are heeded in order, each until it has no report left.
pub data HeedsEach (t : Tended) : ℕ → Tended → Type 0 where
  no_link : HeedsEach t 0 t
  one_link : {count : ℕ} {u w : Tended}
      → HeedsEach t count u → AddsHeeded u w → ToldAll count w → HeedsEach t (count + 1) w

-- All links are heeded, and then the rules make calls of the set.
pub record Tends (old new : Tended) : Type 0 where
  pub heeded : Tended
  pub heeds : HeedsEach old old.plan.links heeded
  pub adds : Adds heeded new

-- ---- a tick

pub record Ticks (old new : Tended) : Type 0 where
  pub set : new.set ≡ after_ticks 1 old.set
  pub ticks : new.ticks ≡ min (2 ^ 64 - 1) (old.ticks + 1)
  pub same : new ≡ record old { set = new.set; ticks = new.ticks }
