-- The content of a capture of a terminal's script: the signal units sent and those received without
-- error, in the order of the commands, each with the tick before its command.
use Rattle.std.specs.Prelude.{◌≡◌, ℕ, zero, suc, ◌+◌, ◌*◌, Bool, true, false, List, [], ◌∷◌, ◌++◌}
use Rattle.std.specs.Prelude.{Option, None, Some}
use Rattle.std.specs.Io.KnownBytes.{Appends}
use Rattle.actor_machine.specs.Ledger.{state_of}
use Rattle.bit_line.specs.Deframing.{Stands}
use Rattle.su_octets.specs.Bits.{bits_of}
use Rattle.su_octets.specs.Frame.{Frame, SpareBitsAreZero}
use Rattle.su_octets.specs.declared.units.Unit as su
use Rattle.line_streams.specs.Capturing.{Ends, IsUnit, capture_of, without_check}
use Rattle.line_streams.specs.Repeats.{kept, StandsFor}
use Rattle.line_streams.specs.declared.seen.Seen.{Seen}
use Rattle.script_links.specs.TermCommands.{PlainTermCommand, order, unit, units, errors, line, msu}
use Rattle.script_links.specs.TermCommands.{out, ticks, told, accepted, retrieving, measuring}
use Rattle.script_links.specs.TermCommands.{counting_aborted, resetting, state, shown, expected}
use Rattle.script_links.specs.TermScripts.{PlainTermSaid}
use Rattle.link_term.specs.Term.{Term}
use Rattle.script_seen.specs.TermAnswers.{Obeys, next_of, behind_next, error_line}
use Rattle.script_seen.specs.TermRuns.{latest}
use Rattle.script_seen.specs.UnitLines.{IsLineOf}
use Rattle.script_play.specs.declared.capturing.LinkSeen.{LinkSeen}

-- a tick is a millisecond: 1,000 microseconds
abbrev pub TICK : ℕ
TICK = 1000

abbrev pub time_of : Term → ℕ
time_of t = TICK * (state_of t.processes.book).timers.clock

-- ---- octets received

abbrev pub repeated : ℕ → List ℕ → List ℕ
repeated zero octets = []
repeated (suc n) octets = octets ++ repeated n octets

-- n copies of a signal unit; `octets` are its octets without the check octets
pub record AreRepeated (n : ℕ) (octets come : List ℕ) : Type 0 where
  pub once : List ℕ
  pub is_line : IsLineOf octets once
  pub are : come ≡ repeated n once

-- the octets that a command delivers on the line
abbrev pub IsComing : PlainTermCommand → List ℕ → Type 0
IsComing (unit octets) come = AreRepeated 1 octets come
IsComing (units n octets) come = AreRepeated n octets come
IsComing (errors n) come = come ≡ repeated n error_line
IsComing (line octets) come = come ≡ octets
IsComing (order o) come = come ≡ []
IsComing (msu octets) come = come ≡ []
IsComing (out n) come = come ≡ []
IsComing (ticks n) come = come ≡ []
IsComing told come = come ≡ []
IsComing accepted come = come ≡ []
IsComing (retrieving behind) come = come ≡ []
IsComing (measuring measure) come = come ≡ []
IsComing counting_aborted come = come ≡ []
IsComing resetting come = come ≡ []
IsComing (state process) come = come ≡ []
IsComing (shown process variable) come = come ≡ []
IsComing (expected text) come = come ≡ []

-- whether the capture notes the octets that a command delivers: not for `out` and expectations
abbrev pub is_noted : PlainTermCommand → Bool
is_noted (out n) = false
is_noted (expected text) = false
is_noted c = true

-- the signal units seen in octets that a link receives one by one, after earlier octets
pub data Hears (link at : ℕ) : List ℕ → List ℕ → List Seen → List Seen → Type 0 where
  nothing : (before : List ℕ) (seen : List Seen) → Hears link at before [] seen seen
  one : (before rest : List ℕ) (octet : ℕ) (found : Option (List ℕ)) (seen mid last : List Seen)
      → Ends before octet found → IsUnit false link at found seen mid
      → Hears link at (before ++ octet ∷ []) rest mid last
      → Hears link at before (octet ∷ rest) seen last

-- ---- signal units sent

-- a signal unit that is sent is seen
pub record IsGone (link at : ℕ) (x : su.Unit) (seen last : List Seen) : Type 0 where
  pub octets : List ℕ
  pub is_frame : Frame octets x
  pub zero : SpareBitsAreZero octets
  pub is_unit : IsUnit true link at (Some (without_check octets)) seen last

-- this many signal units are requested on a link; those sent are seen
pub data Sends (link at : ℕ) : ℕ → Term → List Seen → Term → List Seen → Type 0 where
  no_more : (t : Term) (seen : List Seen) → Sends link at zero t seen t seen
  silent : (n : ℕ) (t : Term) (seen : List Seen) → (next_of t).unit ≡ None
      → Sends link at (suc n) t seen (behind_next t) seen
  one_goes : (n : ℕ) (t u : Term) (x : su.Unit) (seen mid last : List Seen)
      → (next_of t).unit ≡ Some x → IsGone link at x seen mid
      → Sends link at n (behind_next t) mid u last
      → Sends link at (suc n) t seen u last

-- ---- runs

-- Commands were obeyed on a terminal; the results are the terminal now, the last printed line, the
-- octets received so far, and the signal units seen, the newest first.
pub data Goes (keeps : Bool) (first : Term) :
    List PlainTermSaid → Term → Option (List ℕ) → List ℕ → List Seen → Type 0 where
  begins : Goes keeps first [] first None [] []
  goes_out : {commands : List PlainTermSaid} {now : Term} {printed : Option (List ℕ)}
      {came : List ℕ} {seen : List Seen} (said : PlainTermSaid) (n : ℕ) (lines : List (List ℕ))
      (next : Term) (last : List Seen)
      → said.command ≡ out n → Goes keeps first commands now printed came seen
      → Obeys keeps said.command now lines next → Sends 0 (time_of now) n now seen next last
      → Goes keeps first (commands ++ said ∷ []) next (latest printed lines) came last
  comes_in : {commands : List PlainTermSaid} {now : Term} {printed : Option (List ℕ)}
      {came : List ℕ} {seen : List Seen} (said : PlainTermSaid) (come : List ℕ)
      (lines : List (List ℕ)) (next : Term) (last : List Seen)
      → ((n : ℕ) → said.command ≡ out n → ⊥) → IsComing said.command come
      → Goes keeps first commands now printed came seen
      → Obeys keeps said.command now lines next → Hears 0 (time_of now) came come seen last
      → Goes keeps first (commands ++ said ∷ []) next (latest printed lines) (came ++ come) last
  holds : {commands : List PlainTermSaid} {now : Term} {came : List ℕ} {seen : List Seen}
      {text : List ℕ} (said : PlainTermSaid)
      → said.command ≡ expected text → Goes keeps first commands now (Some text) came seen
      → Goes keeps first (commands ++ said ∷ []) now (Some text) came seen

-- a capture of the signal units seen was written
pub record IsCaptured (every keeps : Bool) (first : Term) (commands : List PlainTermSaid)
    (old new : Option (List ℕ)) : Type 0 where
  pub now : Term
  pub printed : Option (List ℕ)
  pub came : List ℕ
  pub seen : List Seen
  pub goes : Goes keeps first commands now printed came seen
  pub written : Appends old new (capture_of every seen)

-- the commands before one of these are captured, and that one is an expectation that differs from
-- the last printed line
pub record IsCapturedInPart (every keeps : Bool) (first : Term) (commands : List PlainTermSaid)
    (old new : Option (List ℕ)) : Type 0 where
  pub before : List PlainTermSaid
  pub said : PlainTermSaid
  pub after : List PlainTermSaid
  pub stands : commands ≡ before ++ said ∷ after
  pub now : Term
  pub printed : Option (List ℕ)
  pub came : List ℕ
  pub seen : List Seen
  pub goes : Goes keeps first before now printed came seen
  pub written : Appends old new (capture_of every seen)
  pub text : List ℕ
  pub expects : said.command ≡ expected text
  pub other : printed ≡ Some text → ⊥

-- ---- partial captures

-- a link's state after these octets were received and these signal units were seen
pub record IsHeard (link : ℕ) (every : Bool) (came : List ℕ) (seen : List Seen) (l : LinkSeen) :
    Type 0 where
  pub every_is : l.repeats.every ≡ every
  pub hears : Stands (bits_of came) l.heard
  pub recalls : StandsFor link (kept every seen) l.repeats

-- the link's state, with a capture of these units written
pub record IsCapturing (link : ℕ) (every : Bool) (came : List ℕ) (seen : List Seen)
    (old new : Option (List ℕ)) (l : LinkSeen) : Type 0 where
  pub heard : IsHeard link every came seen l
  pub written : Appends old new (capture_of every seen)

-- these commands were obeyed and captured so far
pub record IsTermCapturing (every keeps : Bool) (first : Term) (commands : List PlainTermSaid)
    (old new : Option (List ℕ)) (now : Term) (printed : Option (List ℕ)) (l : LinkSeen) :
    Type 0 where
  pub came : List ℕ
  pub seen : List Seen
  pub goes : Goes keeps first commands now printed came seen
  pub capturing : IsCapturing 0 every came seen old new l
