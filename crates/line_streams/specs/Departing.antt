-- The lines written of those reported while the reader may be away.
use Rattle.std.specs.Prelude.{◌≡◌, ℕ, ◌+◌, ◌<◌, min, true, false, List, [], ◌∷◌, ◌++◌, length}
use Rattle.std.specs.Fmt.{decimal}
use Rattle.rtrb.specs.Ring.{sent, known_free}
pub use Rattle.line_filter.specs.Reporting.{Begins, loss_line, IsLossTold, IsToGo, alone, with_loss}
use Rattle.line_filter.specs.Reporting.{ToldLine, Stand, queued, octets_of, has_to_wait, MovesOn}
use Rattle.line_filter.specs.declared.reports.Wait.{Wait}
use Rattle.line_streams.specs.declared.outlet.Outlet.{Outlet}

-- the text written, the lines that wait, and the number of lines lost since
abbrev pub stand_in : Outlet → Stand
stand_in o = queued (sent o.ring) o.backlog o.lost

-- No line waits, or there was no room for the first one.
abbrev pub IsStuck : Outlet → Type 0
IsStuck o = (first : ToldLine) → (left : List ToldLine) → o.backlog ≡ first ∷ left
    → known_free o.ring < length first.octets

-- The first waiting line is written: so many octets.
pub record FirstGoes (old new : Outlet) (count : ℕ) : Type 0 where
  pub first : ToldLine
  pub left : List ToldLine
  pub waits : old.backlog ≡ first ∷ left
  pub goes : sent new.ring ≡ sent old.ring ++ first.octets
  pub others : new.backlog ≡ left
  pub lost : new.lost ≡ old.lost
  pub counted : count ≡ length first.octets

-- None is written, since none waits or there is no room.
pub record NoneGoes (old new : Outlet) : Type 0 where
  pub same : sent new.ring ≡ sent old.ring
  pub others : new.backlog ≡ old.backlog
  pub lost : new.lost ≡ old.lost
  pub stuck : IsStuck new

-- If no line waits, there was no room for so many octets.
abbrev pub HasNoRoom : List ℕ → Outlet → Outlet → Type 0
HasNoRoom text old new = old.backlog ≡ [] → known_free new.ring < length text

-- Octets that have to wait if there is no room: they are written, or they wait after the others.
pub data GoesOrWaits (wait : Wait) (text : List ℕ) (old new : Outlet) : Type 0 where
  goes_now : old.backlog ≡ [] → sent new.ring ≡ sent old.ring ++ text → new.backlog ≡ []
      → new.lost ≡ 0 → GoesOrWaits wait text old new
  waits_now : HasNoRoom text old new → sent new.ring ≡ sent old.ring
      → new.backlog ≡ old.backlog ++ record { wait = wait; octets = text } ∷ []
      → new.lost ≡ 0 → GoesOrWaits wait text old new

-- A line is reported. It is written whole if none waits; or it has to wait, and does so after the
-- others; or it is counted as lost. If there is room and no other line waits, it is written.
pub data TellsOn (line : ToldLine) (old new : Outlet) : Type 0 where
  goes : (text : List ℕ) → old.backlog ≡ [] → IsToGo old.lost line.octets text
      → sent new.ring ≡ sent old.ring ++ text → new.backlog ≡ [] → new.lost ≡ 0
      → TellsOn line old new
  is_kept : (text : List ℕ) → IsToGo old.lost line.octets text → has_to_wait line.wait ≡ true
      → HasNoRoom text old new → sent new.ring ≡ sent old.ring
      → new.backlog ≡ old.backlog ++ record { wait = line.wait; octets = text } ∷ []
      → new.lost ≡ 0 → TellsOn line old new
  is_lost : (text : List ℕ) → IsToGo old.lost line.octets text → has_to_wait line.wait ≡ false
      → HasNoRoom text old new → sent new.ring ≡ sent old.ring → new.backlog ≡ old.backlog
      → new.lost ≡ old.lost + 1 → TellsOn line old new

-- Waiting lines are written, as many as there is room for.
pub record MovesFar (old new : Outlet) : Type 0 where
  pub moves : MovesOn (stand_in old) (stand_in new)
  pub stuck : IsStuck new

-- Waiting lines are written first.
pub record ReportsOn (line : ToldLine) (old new : Outlet) : Type 0 where
  pub middle : Outlet
  pub moves : MovesFar old middle
  pub tells : TellsOn line middle new

-- The greatest number of losses that 64 bits count.
abbrev pub MOST_LOST : ℕ
MOST_LOST = 18446744073709551615

-- Octets are queued whole, or there was no room, and they are counted as one loss.
pub data GoesWhole (octets : List ℕ) (old new : Outlet) : Type 0 where
  whole : sent new.ring ≡ sent old.ring ++ octets → new.lost ≡ old.lost → GoesWhole octets old new
  is_counted : known_free new.ring < length octets → sent new.ring ≡ sent old.ring
      → new.lost ≡ min (old.lost + 1) MOST_LOST → GoesWhole octets old new

-- The number of lines lost after the last one written is reported, unless none was lost, lines
-- wait, or there was no room for that.
pub data TellsLost (now : ℕ) (old new : Outlet) : Type 0 where
  none_lost : old.lost ≡ 0 → sent new.ring ≡ sent old.ring → new.backlog ≡ old.backlog
      → new.lost ≡ 0 → TellsLost now old new
  some_lost :
      0 < old.lost → old.backlog ≡ [] → new.backlog ≡ []
      → sent new.ring ≡ sent old.ring ++ loss_line (decimal now) old.lost
      → new.lost ≡ 0 → TellsLost now old new
  no_room : 0 < old.lost → HasNoRoom (loss_line (decimal now) old.lost) old new
      → sent new.ring ≡ sent old.ring → new.backlog ≡ old.backlog → new.lost ≡ old.lost
      → TellsLost now old new

-- At the end, waiting lines are written as far as possible, and the number of lost lines is
-- reported.
pub record EndsOn (now : ℕ) (old new : Outlet) : Type 0 where
  pub middle : Outlet
  pub moves : MovesFar old middle
  pub tells : TellsLost now middle new
