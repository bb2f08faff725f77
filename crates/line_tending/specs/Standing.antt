-- Where the messages are that a set took in its history.
use Rattle.std.specs.Prelude.{◌≡◌, ◌^◌, ◌-◌, List, ◌++◌, min}
use Rattle.resend_store.specs.declared.messages.Msu.{Msu}
use Rattle.group_changeover.specs.Places.{OnePlace}
use Rattle.link_group.specs.Laws.{places_of, unsure_in}
use Rattle.link_group.specs.Set.{LinkSet}
use Rattle.line_tending.specs.Calling.{Brought}
use Rattle.line_tending.specs.Lives.{Lives}
use Rattle.line_tending.specs.Rounds.{Handed}
use Rattle.line_tending.specs.Tended.{Tended}
use Rattle.line_tending.specs.declared.told.Told.{Told}

-- Exactly these messages were taken. Each is in the one place of its selection, or has left,
-- acknowledged or unsure; those of a selection that left, then those in its place, are in the order
-- in which they were taken. The set counts the unsure ones.
pub record AllStand (c : LinkSet) (taken : List Msu) : Type 0 where
  pub brought : Brought c taken
  pub one_place : OnePlace (places_of c taken brought.gone)
  pub unsure_are : c.unsure ≡ min (2 ^ 64 - 1) (unsure_in brought.gone)

-- a set that took exactly these messages, and where they are
abbrev pub HasTaken : Tended → List Msu → Type 0
HasTaken t taken = Brought t.set taken

abbrev pub AllStandIn : Tended → List Msu → Type 0
AllStandIn t taken = AllStand t.set taken

-- So stand the messages that a set took before a history and in it.
abbrev pub TakenStand : Type 0
TakenStand =
    (t u : Tended) (earlier taken : List Msu) (handed : List Handed) (told : List Told)
    → HasTaken t earlier → Lives t taken handed told u → AllStandIn u (earlier ++ taken)
