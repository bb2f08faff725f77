-- The units that a capture omits. Lists of units have the newest first.
use Rattle.std.specs.Prelude.{◌≡◌, ℕ, ◌==◌, nat_lt, Bool, true, false, not, ◌&&◌, ◌||◌}
use Rattle.std.specs.Prelude.{if◌then◌else◌, List, [], ◌∷◌, length}
use Rattle.std.specs.Str.{bytes_eq}
use Rattle.line_streams.specs.declared.seen.Seen.{Seen}
use Rattle.line_streams.specs.declared.repeats.Latest.{Latest}
use Rattle.line_streams.specs.declared.repeats.Repeats.{Repeats}

-- A message signal unit: more than two octets follow its two octets of numbers and its length
-- indicator (Q.703, 2.3.3).
abbrev pub is_message : List ℕ → Bool
is_message octets = nat_lt 5 (length octets)

-- The octets are equal.
abbrev pub is_same : List ℕ → List ℕ → Bool
is_same = bytes_eq

-- A unit of this direction, on this link.
abbrev pub is_of : Bool → ℕ → Seen → Bool
is_of went link s = (if went then s.went else not s.went) && (s.link == link)

-- The octets of the last record of this direction and link; empty if there is no such record.
abbrev pub last_of : Bool → ℕ → List Seen → List ℕ
last_of went link [] = []
last_of went link (r ∷ h) = if is_of went link r then r.octets.items else last_of went link h

-- News: a message, or a unit different from the last record of its direction and link.
abbrev pub is_news : List Seen → Seen → Bool
is_news h s =
    is_message s.octets.items || not (is_same (last_of s.went s.link h) s.octets.items)

-- The other direction recorded news after the last record of this direction of the link.
abbrev pub news_since : Bool → ℕ → List Seen → Bool
news_since went link [] = false
news_since went link (r ∷ h) =
    if is_of went link r then false
    else ((is_of (not went) link r && is_news h r) || news_since went link h)

-- After these records a unit is a repeat: a fill-in or link status signal unit equal to the last
-- record of its direction and link, since which the other direction had no news.
abbrev pub is_repeat : List Seen → Seen → Bool
is_repeat h s =
    not (is_message s.octets.items)
    && (is_same (last_of s.went s.link h) s.octets.items && not (news_since s.went s.link h))

-- A unit is recorded after these records: if all are, or if it is no repeat.
abbrev pub is_kept : Bool → List Seen → Seen → Bool
is_kept every h s = every || not (is_repeat h s)

abbrev pub with_kept : Bool → Seen → List Seen → List Seen
with_kept keeps s h = if keeps then s ∷ h else h

-- The records of the units seen.
abbrev pub kept : Bool → List Seen → List Seen
kept every [] = []
kept every (s ∷ ss) = with_kept (is_kept every (kept every ss) s) s (kept every ss)

-- ---- the state kept of the records

-- Of one direction.
pub record Recalls (went : Bool) (link : ℕ) (h : List Seen) (latest : Latest) : Type 0 where
  pub octets : latest.octets.items ≡ last_of went link h
  pub news : latest.news ≡ news_since went link h

-- Of both directions.
pub record StandsFor (link : ℕ) (h : List Seen) (repeats : Repeats) : Type 0 where
  pub went : Recalls true link h repeats.went
  pub came : Recalls false link h repeats.came
