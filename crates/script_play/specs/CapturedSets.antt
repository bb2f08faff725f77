-- The content of a capture of a link set's script: for each link the signal units sent and those
-- received without error, in the order of the commands, each with the number of its link and the
-- tick before its command.
use Rattle.std.specs.Prelude.{◌≡◌, ◌<◌, ◌≤◌, ℕ, zero, suc, ◌*◌, Bool, true, false, List, [], ◌∷◌}
use Rattle.std.specs.Prelude.{◌++◌, length, map, Option, None, Some, slice_get, slice_set}
use Rattle.std.specs.Io.KnownBytes.{Appends}
use Rattle.su_octets.specs.declared.units.Unit as su
use Rattle.line_streams.specs.Capturing.{capture_of}
use Rattle.line_streams.specs.Repeats.{kept, StandsFor}
use Rattle.line_streams.specs.declared.repeats.Repeats.{Repeats}
use Rattle.line_streams.specs.declared.seen.Seen.{Seen}
use Rattle.script_seen.specs.SetLines.{ByLink}
use Rattle.script_seen.specs.Doing.{Sent}
use Rattle.script_seen.specs.Set.{LinkSet}
use Rattle.script_links.specs.GroupCommands.{PlainGroupCommand}
use Rattle.script_links.specs.GroupCommands as group
use Rattle.script_links.specs.GroupScripts.{PlainGroupSaid}
use Rattle.script_seen.specs.GroupAnswers.{Playing, Obeys}
use Rattle.script_seen.specs.TermRuns.{latest}
use Rattle.script_seen.specs.TracedGroups.{books_of, clock_in}
use Rattle.script_play.specs.Captured.{TICK, AreRepeated, Hears, IsGone, IsHeard, IsCapturing}
use Rattle.script_play.specs.declared.capturing.LinkSeen.{LinkSeen}

abbrev pub set_time : Playing → ℕ
set_time p = TICK * clock_in (books_of p)

-- the octets that a command delivers on the addressed link
abbrev pub IsComing : PlainGroupCommand → List ℕ → Type 0
IsComing (group.unit octets) come = AreRepeated 1 octets come
IsComing (group.line octets) come = come ≡ octets
IsComing c come = come ≡ []

-- whether the capture notes the octets that a command delivers: not for `out` and expectations
abbrev pub is_noted : PlainGroupCommand → Bool
is_noted (group.out n) = false
is_noted (group.expected text) = false
is_noted c = true

-- this many signal units are requested on a link; those sent are seen
pub data SendsOn (link at : ℕ) : ℕ → LinkSet → List Seen → LinkSet → List Seen → Type 0 where
  nothing : (c : LinkSet) (seen : List Seen) → SendsOn link at zero c seen c seen
  silent : (n : ℕ) (c d : LinkSet) (seen : List Seen) → ByLink (Sent None) link c d
      → SendsOn link at (suc n) c seen d seen
  one_goes : (n : ℕ) (c m d : LinkSet) (x : su.Unit) (seen mid last : List Seen)
      → ByLink (Sent (Some x)) link c m → IsGone link at x seen mid
      → SendsOn link at n m mid d last → SendsOn link at (suc n) c seen d last

-- Commands were obeyed on a link set; the results are the set now, the last printed line, the
-- octets received so far on each link, and the signal units seen, the newest first. On a link that
-- doesn't exist nothing is received or sent.
pub data Goes (first : Playing) :
    List PlainGroupSaid → Playing → Option (List ℕ) → List (List ℕ) → List Seen → Type 0 where
  begins : Goes first [] first None (map (λ b. []) (books_of first)) []
  goes_out : {commands : List PlainGroupSaid} {now : Playing} {printed : Option (List ℕ)}
      {came : List (List ℕ)} {seen : List Seen} (said : PlainGroupSaid) (n : ℕ)
      (lines : List (List ℕ)) (next : Playing) (last : List Seen)
      → said.command ≡ group.out n → now.on < length came
      → Goes first commands now printed came seen → Obeys said.command now lines next
      → SendsOn now.on (set_time now) n now.set seen next.set last
      → Goes first (commands ++ said ∷ []) next (latest printed lines) came last
  comes_in : {commands : List PlainGroupSaid} {now : Playing} {printed : Option (List ℕ)}
      {came : List (List ℕ)} {seen : List Seen} (said : PlainGroupSaid)
      (before come : List ℕ) (lines : List (List ℕ)) (next : Playing) (last : List Seen)
      → ((n : ℕ) → said.command ≡ group.out n → ⊥) → slice_get came now.on ≡ Some before
      → IsComing said.command come
      → Goes first commands now printed came seen → Obeys said.command now lines next
      → Hears now.on (set_time now) before come seen last
      → Goes first (commands ++ said ∷ []) next (latest printed lines)
      (slice_set came now.on (before ++ come)) last
  is_nowhere : {commands : List PlainGroupSaid} {now : Playing} {printed : Option (List ℕ)}
      {came : List (List ℕ)} {seen : List Seen} (said : PlainGroupSaid)
      (lines : List (List ℕ)) (next : Playing) → length came ≤ now.on
      → Goes first commands now printed came seen → Obeys said.command now lines next
      → Goes first (commands ++ said ∷ []) next (latest printed lines) came seen
  holds : {commands : List PlainGroupSaid} {now : Playing} {came : List (List ℕ)}
      {seen : List Seen} {text : List ℕ} (said : PlainGroupSaid)
      → said.command ≡ group.expected text → Goes first commands now (Some text) came seen
      → Goes first (commands ++ said ∷ []) now (Some text) came seen

-- a capture of the signal units seen was written
pub record IsSetCaptured (every : Bool) (commands : List PlainGroupSaid)
    (old new : Option (List ℕ)) (first : Playing) : Type 0 where
  pub now : Playing
  pub printed : Option (List ℕ)
  pub came : List (List ℕ)
  pub seen : List Seen
  pub goes : Goes first commands now printed came seen
  pub written : Appends old new (capture_of every seen)

-- the commands before one of these are captured, and that one is an expectation that differs from
-- the last printed line
pub record IsSetCapturedInPart (every : Bool) (commands : List PlainGroupSaid)
    (old new : Option (List ℕ)) (first : Playing) : Type 0 where
  pub before : List PlainGroupSaid
  pub said : PlainGroupSaid
  pub after : List PlainGroupSaid
  pub stands : commands ≡ before ++ said ∷ after
  pub now : Playing
  pub printed : Option (List ℕ)
  pub came : List (List ℕ)
  pub seen : List Seen
  pub goes : Goes first before now printed came seen
  pub written : Appends old new (capture_of every seen)
  pub text : List ℕ
  pub expects : said.command ≡ group.expected text
  pub other : printed ≡ Some text → ⊥

-- ---- partial captures

-- the states of the links, the first of them link l
pub data AreHeard (every : Bool) (seen : List Seen) :
    ℕ → List (List ℕ) → List LinkSeen → Type 0 where
  none : (l : ℕ) → AreHeard every seen l [] []
  more : (l : ℕ) (c : List ℕ) (cs : List (List ℕ)) (k : LinkSeen) (ks : List LinkSeen)
      → IsHeard l every c seen k → AreHeard every seen (suc l) cs ks
      → AreHeard every seen l (c ∷ cs) (k ∷ ks)

-- these commands were obeyed and captured so far
pub record IsSetCapturing (every : Bool) (first : Playing) (commands : List PlainGroupSaid)
    (old new : Option (List ℕ)) (now : Playing) (printed : Option (List ℕ))
    (links : List LinkSeen) : Type 0 where
  pub came : List (List ℕ)
  pub seen : List Seen
  pub goes : Goes first commands now printed came seen
  pub heard : AreHeard every seen 0 came links
  pub written : Appends old new (capture_of every seen)

-- the state of the other links is unchanged
abbrev pub AreApart : Bool → ℕ → List Seen → List Seen → Type 0
AreApart every link seen last =
    (other : ℕ) → (link ≡ other → ⊥) → (r : Repeats) → StandsFor other (kept every seen) r
    → StandsFor other (kept every last) r

-- these commands were obeyed, the last of them on this link, and captured
pub record IsCapturedThere (every : Bool) (first : Playing) (commands : List PlainGroupSaid)
    (now : Playing) (printed : Option (List ℕ)) (all : List (List ℕ)) (link : ℕ)
    (seen : List Seen) (old new : Option (List ℕ)) (l : LinkSeen) : Type 0 where
  pub came : List ℕ
  pub last : List Seen
  pub goes : Goes first commands now printed (slice_set all link came) last
  pub capturing : IsCapturing link every came last old new l
  pub apart : AreApart every link seen last
