-- How a run of a set ends.
use Rattle.std.specs.Prelude.{◌≡◌, ◌⊎◌, ⊤, ℕ, ◌+◌, ◌-◌, ◌^◌, ◌<◌, ◌≤◌, ◌||◌, nat_lt, min, Bool}
use Rattle.std.specs.Prelude.{true, false, List, Option, slice_get, unwrap_or}
use Rattle.std.specs.List.{list_any}
use Rattle.link_processes.specs.declared.commands.Command.TheVariants.{Stop}
use Rattle.link_group.specs.Links.{read_at}
use Rattle.link_group.specs.declared.commanding.CommandError.{CommandError}
use Rattle.link_group.specs.Moving.{hand_count}
use Rattle.link_group.specs.Reading.{held_count}
use Rattle.line_tending.specs.Rounds.{AddsOrders}
use Rattle.line_tending.specs.Tended.{Tended}
use Rattle.line_play.specs.declared.set.state.Ending.{Ending}
use Rattle.line_play.specs.declared.set.state.Ending.TheVariants.{Stays, Leaves, Stops, Over}
use Rattle.line_play.specs.SetDoing.{Stood, TriesEach}
use Rattle.line_play.specs.SetGiven.{first_links}

-- how many milliseconds a run goes on after its links got Stop, so that the other end receives SIOS
abbrev pub LINGER : ℕ
LINGER = 100

-- whether a link holds messages, or retrieved ones that aren't diverted yet
abbrev pub keeps_some : Tended → ℕ → Bool
keeps_some t l =
    nat_lt 0 (unwrap_or (read_at held_count (slice_get t.set.links l)) 0)
    || nat_lt 0 (unwrap_or (hand_count (slice_get t.set.links l)) 0)

abbrev pub any_keeps : Tended → Bool
any_keeps t = list_any (keeps_some t) (first_links t.plan.links)

-- All links are given Stop, one after another, by calls of the set.
pub record StopsAll (t u : Tended) : Type 0 where
  pub adds : AddsOrders t u
  pub first : Option CommandError
  pub each : TriesEach Stop t (first_links t.plan.links) u first

-- nothing is due
abbrev pub NotDue : Ending → Tended → Type 0
NotDue Stays t = ⊤
NotDue (Leaves until) t = (any_keeps t ≡ true) × (t.ticks < until)
NotDue (Stops since) t = t.ticks < since
NotDue Over t = ⊤

-- After `leave`, links are stopped when none holds a message, or when its time is over. The run
-- ends a little later.
pub data Departs (p : Stood) : Stood → Type 0 where
  goes_on : NotDue p.ending p.tender → Departs p p
  stops : {u : Tended} (until : ℕ) → p.ending ≡ Leaves until
      → (any_keeps p.tender ≡ false) ⊎ (until ≤ p.tender.ticks) → StopsAll p.tender u
      → Departs p
      (record p { tender = u; ending = Stops (min (2 ^ 64 - 1) (p.tender.ticks + LINGER)) })
  ends : (since : ℕ) → p.ending ≡ Stops since → since ≤ p.tender.ticks
      → Departs p (record p { ending = Over })

-- whether a run goes on
abbrev pub goes_on_by : Ending → Bool
goes_on_by Stays = true
goes_on_by (Leaves until) = true
goes_on_by (Stops since) = true
goes_on_by Over = false
