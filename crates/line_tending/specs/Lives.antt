-- The history of a set that manages itself: messages that it took, reports that its links
-- delivered, and reports that it made.
use Rattle.std.specs.Prelude.{◌≡◌, List, [], ◌∷◌, ◌++◌}
use Rattle.resend_store.specs.declared.messages.Msu.{Msu}
use Rattle.link_group.specs.Set.{LinkSet}
use Rattle.line_tending.specs.Calling.{ByCalls}
use Rattle.line_tending.specs.Rounds.{Handed, HandsOut, Ticks}
use Rattle.line_tending.specs.Telling.{report_told}
use Rattle.line_tending.specs.Tended.{Tended}
use Rattle.line_tending.specs.declared.ordered.Ordered.{Ordered}
use Rattle.line_tending.specs.declared.reader.Reader.{Reader}
use Rattle.line_tending.specs.declared.told.Told.{Told}

-- From one state to another: the messages that `send` took, the reports that links delivered, and
-- those that the set made, each in order. New reports are queued last, and are taken from the
-- front. The state of the reader, the reports about it and the orders of level 3 may change.
pub data Lives (t : Tended) : List Msu → List Handed → List Told → Tended → Type 0 where
  begins : Lives t [] [] [] t
  calls : {sent : List Msu} {handed : List Handed} {told : List Told} {u : Tended}
      (taken : List Msu) (d : LinkSet)
      → Lives t sent handed told u → ByCalls u.set taken [] d
      → Lives t (sent ++ taken) handed told (record u { set = d })
  hands : {sent : List Msu} {handed : List Handed} {told : List Told} {u : Tended} (h : Handed)
      (v : Tended)
      → Lives t sent handed told u → HandsOut h u v
      → Lives t sent (handed ++ h ∷ []) told
      (record v { reports = v.reports ++ report_told v.plan h.link h.report })
  tells : {sent : List Msu} {handed : List Handed} {told : List Told} {u : Tended}
      (reports left news : List Told)
      → Lives t sent handed told u → u.reports ≡ reports ++ left
      → Lives t sent handed (told ++ reports) (record u { reports = left; news = news })
  reads : {sent : List Msu} {handed : List Handed} {told : List Told} {u : Tended} (r : Reader)
      (os : List Ordered) (news : List Told)
      → Lives t sent handed told u
      → Lives t sent handed told (record u { reader = r; ordered = os; news = news })
  ticks : {sent : List Msu} {handed : List Handed} {told : List Told} {u : Tended} (w : Tended)
      → Lives t sent handed told u → Ticks u w → Lives t sent handed told w

-- Such a history exists, for some reports of links.
pub record Lived (t : Tended) (sent : List Msu) (told : List Told) (u : Tended) : Type 0 where
  pub handed : List Handed
  pub lives : Lives t sent handed told u
