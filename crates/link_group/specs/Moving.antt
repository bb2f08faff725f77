-- Diversion of retrieved messages to links (Q.704).
use Rattle.std.specs.Prelude.{ℕ, ◌+◌, ◌==◌, ◌&&◌, ◌||◌, zero, suc, nat_lt, Bool, true, false, not}
use Rattle.std.specs.Prelude.{if◌then◌else◌, List, [], ◌∷◌, ◌++◌, length, Option, Some, None}
use Rattle.std.specs.Prelude.{is_some, slice_get, slice_set}
use Rattle.std.specs.List.{list_any}
use Rattle.resend_store.specs.declared.messages.Msu.{Msu}
use Rattle.resend_store.specs.Limits.{MOST_KEPT}
use Rattle.link_term.specs.Term.{Term}
use Rattle.link_term.specs.Kept.{window_of, with_window}
use Rattle.group_changeover.specs.declared.availability.Changing.{Changing}
use Rattle.group_changeover.specs.Sharing.{is_on, of, off, counts_of, pick}
use Rattle.group_changeover.specs.Bound.{is_bound}
use Rattle.group_changeover.specs.declared.bound.Points.{Points}
use Rattle.group_changeover.specs.Availability.{with_retrieval, ended}
use Rattle.group_changeover.specs.Limits.{SELECTIONS}
use Rattle.link_group.specs.declared.link.Link.{Link}
use Rattle.group_changeover.specs.declared.errors.DivertFault.{DivertFault}
use Rattle.group_changeover.specs.declared.errors.DivertFault.TheVariants as divert
use Rattle.link_group.specs.OneLink.{held, shares, has_outage, is_changing}
use Rattle.link_group.specs.OneLink.{with_availability, with_hand}
use Rattle.link_group.specs.Links.{change}

abbrev pub retrieval_by : Option Changing → Option (List ℕ)
retrieval_by None = None
retrieval_by (Some c) = c.retrieval

abbrev pub retrieval_of : Option Link → Option (List ℕ)
retrieval_of None = None
retrieval_of (Some k) = retrieval_by k.availability.changing

-- Its messages are retrieved, and not all diverted yet.
abbrev pub is_out_at : Option Link → Bool
is_out_at o = is_some (retrieval_of o)

-- the messages not diverted yet
abbrev pub hand_by : Option Link → List Msu
hand_by None = []
hand_by (Some k) = k.hand

abbrev pub count_if : Bool → ℕ → Option ℕ
count_if true n = Some n
count_if false n = None

-- how many messages aren't diverted yet
abbrev pub hand_count : Option Link → Option ℕ
hand_count o = count_if (is_out_at o) (length (hand_by o))

-- The messages are taken from its hand.
abbrev pub without_hand : Link → Link
without_hand k = with_hand [] k

-- The link has a processor outage, or has none, as requested.
abbrev pub is_so_out : Bool → Link → Bool
is_so_out outage k = if outage then has_outage k else not (has_outage k)

-- No changeover goes on there, and it hasn't failed, unless failed links are allowed.
abbrev pub is_still : Bool → Link → Bool
is_still failed k = not (is_changing k) && (failed || not k.availability.failed)

abbrev pub is_open : Bool → Bool → Link → Bool
is_open failed outage k = shares k && (is_so_out outage k && is_still failed k)

-- the places of the links that pass a test, from a place on
unfoldable pub places_from : (Link → Bool) → ℕ → List Link → List ℕ
places_from may n [] = []
places_from may n (k ∷ ks) =
    if may k then n ∷ places_from may (n + 1) ks else places_from may (n + 1) ks

unfoldable pub eligible_links : Bool → Bool → List Link → List ℕ
eligible_links failed outage ks = places_from (is_open failed outage) 0 ks

abbrev pub first_some : List ℕ → List ℕ → List ℕ
first_some [] others = others
first_some (l ∷ ls) others = l ∷ ls

-- The links that selections may have: those without an outage, or else those with one (Q.704,
-- 3.2.4).
unfoldable pub able_links : Bool → List Link → List ℕ
able_links failed ks = first_some (eligible_links failed false ks) (eligible_links failed true ks)

-- Of the links with an outage, or of those without: the ones that never failed, or else failed ones
-- whose changeover is over.
unfoldable pub others : Bool → List Link → List ℕ
others outage ks = first_some (eligible_links false outage ks) (eligible_links true outage ks)

-- The links for a table that is remade.
unfoldable pub anew_links : List Link → List ℕ
anew_links ks = first_some (others false ks) (others true ks)

abbrev pub own_place : ℕ → Bool → Option Link → List ℕ
own_place l outage None = []
own_place l outage (Some k) = if shares k && is_so_out outage k then l ∷ [] else []

-- Of the links with an outage, or of those without, the ones that may take a link's retrieved
-- messages: others that never failed, else others whose changeover is over, else the link itself.
unfoldable pub way : ℕ → Bool → List Link → List ℕ
way l outage ks = first_some (others outage ks) (own_place l outage (slice_get ks l))

-- Links with an outage may take them only if there are no others.
unfoldable pub takers : ℕ → List Link → List ℕ
takers l ks = first_some (way l false ks) (way l true ks)

-- whether the link itself takes its messages
abbrev pub is_own : ℕ → List ℕ → Bool
is_own l [] = false
is_own l (t ∷ ts) = t == l

abbrev pub is_unbound_on : Points → ℕ → Msu → Bool
is_unbound_on p s m = not (is_bound p m) && is_on s m

abbrev pub on_by : Points → ℕ → Option Msu → Bool
on_by p s None = false
on_by p s (Some m) = is_unbound_on p s m

-- whether a link holds messages of a selection, without bound ones
unfoldable pub holds : ℕ → Link → Bool
holds s k = list_any (is_unbound_on k.points s) (held k)

abbrev pub holds_at : ℕ → Option Link → Bool
holds_at s None = false
holds_at s (Some k) = holds s k

unfoldable pub term_takes : List Msu → Term → Term
term_takes ms t =
    with_window t (record (window_of t) { kept = (window_of t).kept ++ ms })

-- The messages are put after all that the link holds.
unfoldable pub takes_on : List Msu → Link → Link
takes_on ms k = record k { terminal = term_takes ms k.terminal }

-- a link takes no more than its store may keep
abbrev pub has_room : ℕ → Link → Bool
has_room n k = not (nat_lt MOST_KEPT (length (held k) + n))

pub record Diversion : Type 0 where
  pub links : List Link
  pub table : List (Option ℕ)
  -- the messages not diverted yet
  pub rest : List Msu

abbrev pub room_fault : ℕ → Link → Option DivertFault
room_fault n k = if has_room n k then None else Some divert.Full

abbrev pub division : List Link → List (Option ℕ) → List Msu → Diversion
division ks ts ms = record { links = ks; table = ts; rest = ms }

abbrev pub take_fault : ℕ → Option Link → Option DivertFault
take_fault n None = Some divert.NoLink
take_fault n (Some k) = room_fault n k

abbrev pub move_fault_by : Diversion → ℕ → Option ℕ → Option DivertFault
move_fault_by d n None = Some divert.NoLink
move_fault_by d n (Some t) = take_fault n (slice_get d.links t)

-- why a selection isn't diverted: no link may take it, or that link has no room for all its
-- messages
unfoldable pub move_fault : List ℕ → ℕ → Diversion → Option DivertFault
move_fault ls s d =
    if length (of s d.rest) == 0 then None else move_fault_by d (length (of s d.rest)) (pick ls s)

abbrev pub moved_by : ℕ → Diversion → Option ℕ → Diversion
moved_by s d None = d
moved_by s d (Some t) = record {
  links = change d.links t (takes_on (of s d.rest));
  table = slice_set d.table s (Some t);
  rest = off s d.rest;
}

-- All messages of a selection go to its link among those that may take them; the selection has that
-- link from then on. A selection without messages stays.
unfoldable pub moved : List ℕ → ℕ → Diversion → Diversion
moved ls s d = if length (of s d.rest) == 0 then d else moved_by s d (pick ls s)

-- The state of a diversion, and why it stopped, if it did.
pub record Diverted : Type 0 where
  pub at : Diversion
  pub fault : Option DivertFault

abbrev pub goes_on : (Diversion → Diverted) → Diversion → Diversion → Option DivertFault → Diverted
goes_on rest old new None = rest new
goes_on rest old new (Some fault) = record { at = old; fault = Some fault }

-- so many selections, from one on, in order; the first that can't be diverted stops it
unfoldable pub moves : List ℕ → ℕ → ℕ → Diversion → Diverted
moves ls zero s d = record { at = d; fault = None }
moves ls (suc k) s d = goes_on (moves ls k (s + 1)) d (moved ls s d) (move_fault ls s d)

-- ---- the messages go back to their own link, all of them, in order

unfoldable pub back_fault : ℕ → Diversion → Option DivertFault
back_fault l d =
    if length d.rest == 0 then None else take_fault (length d.rest) (slice_get d.links l)

unfoldable pub back : ℕ → Diversion → Diversion
back l d = if length d.rest == 0 then d
    else record { links = change d.links l (takes_on d.rest); table = d.table; rest = [] }

abbrev pub gives_back : ℕ → Diversion → Option DivertFault → Diverted
gives_back l d None = record { at = back l d; fault = None }
gives_back l d (Some fault) = record { at = d; fault = Some fault }

unfoldable pub hands_over : List ℕ → ℕ → Diversion → Diverted
hands_over ls l d =
    if is_own l ls then gives_back l d (back_fault l d) else moves ls SELECTIONS 0 d

-- When a changeover ends, each selection that still has the link, and of which the link holds
-- nothing, gets its link among those that may take it.
abbrev pub ends_on : List ℕ → ℕ → Option Link → Option ℕ → ℕ → Option ℕ
ends_on ls l k None s = None
ends_on ls l k (Some j) s = if (j == l) && not (holds_at s k) then pick ls s else Some j

abbrev pub ends_at : Link → Link
ends_at k = with_availability (ended k.availability) k

abbrev pub keeps_at : List Msu → Link → Link
keeps_at ms k =
    with_hand ms (with_availability (with_retrieval (counts_of ms) k.availability) k)
