-- The progress of the trace of a link set's script, as the functions of this crate state it.
use Rattle.std.specs.Prelude.{◌≡◌, ℕ, Bool, true, false, List, [], ◌∷◌, ◌++◌, Option, None, Some}
use Rattle.std.specs.Prelude.{codes, unwrap_or}
use Rattle.std.specs.Io.KnownBytes.{Appends}
use Rattle.turn_code.specs.declared.draft.Draft.{Draft}
use Rattle.group_changeover.specs.declared.changeover.Changeover.{Changeover}
use Rattle.link_group.specs.Changing.{IsRead}
use Rattle.script_links.specs.GroupCommands.{PlainGroupCommand}
use Rattle.script_links.specs.GroupCommands as group
use Rattle.script_links.specs.GroupScripts.{PlainGroupSaid}
use Rattle.script_links.specs.Octets.{octets_of}
use Rattle.script_links.specs.declared.words.GroupWord.{GroupWord}
use Rattle.script_links.specs.declared.words.GroupWord.TheVariants as words
use Rattle.script_lines.specs.Lines.{PlainLine}
use Rattle.script_ends.specs.GroupAnswers.{Playing}
use Rattle.script_seen.specs.Kinds.{group_line}
use Rattle.script_seen.specs.Traced.{IsFront, IsAt}
use Rattle.script_seen.specs.TracedGroups.{group_only_asks, message_text, Reached, AreReached}
use Rattle.script_seen.specs.TracedGroups.{all_reach, books_of, clock_in, links_text, Traces}
use Rattle.script_seen.specs.declared.tracing.Tracer.{Tracer}

abbrev pub is_expectation : PlainGroupCommand → Bool
is_expectation (group.order o) = false
is_expectation (group.unit octets) = false
is_expectation (group.line octets) = false
is_expectation (group.out n) = false
is_expectation (group.ticks n) = false
is_expectation (group.state process) = false
is_expectation (group.shown process variable) = false
is_expectation (group.expected text) = true
is_expectation (group.on link) = false
is_expectation (group.sending octets) = false
is_expectation (group.bound octets) = false
is_expectation (group.message octets) = false
is_expectation (group.admitting way) = false
is_expectation (group.own word) = false

-- ---- messages of changeover, from the last printed line

-- a line about octets received or sent; none if they are no changeover message
abbrev pub IsMessageTold : ℕ → List ℕ → List ℕ → List ℕ → Type 0
IsMessageTold clock way octets text =
    (m : Option Changeover) → IsRead octets m → text ≡ message_text clock way m

-- the octets of a line `ok HEX`; none for any other line
pub data AreSaid (line : List ℕ) : List ℕ → Type 0 where
  says_none : ((digits : List ℕ) → line ≡ codes "ok " ++ digits → ⊥) → AreSaid line []
  says_some : (digits : List ℕ) → line ≡ codes "ok " ++ digits
      → AreSaid line (unwrap_or (octets_of digits) [])

pub record IsSaidTold (clock : ℕ) (line text : List ℕ) : Type 0 where
  pub octets : List ℕ
  pub are_said : AreSaid line octets
  pub told : IsMessageTold clock (codes " said ") octets text

abbrev pub IsLastTold : ℕ → Option (List ℕ) → List ℕ → Type 0
IsLastTold clock None text = text ≡ []
IsLastTold clock (Some line) text = IsSaidTold clock line text

pub record AreBothTold (clock : ℕ) (octets : List ℕ) (last : Option (List ℕ)) (text : List ℕ) :
    Type 0 where
  pub heard : List ℕ
  pub said : List ℕ
  pub is_heard : IsMessageTold clock (codes " heard ") octets heard
  pub is_said : IsLastTold clock last said
  pub are : text ≡ heard ++ said

abbrev pub IsWordTold : ℕ → GroupWord → Option (List ℕ) → List ℕ → Type 0
IsWordTold clock words.Fail last text = IsLastTold clock last text
IsWordTold clock words.Retrieve last text = text ≡ []
IsWordTold clock words.Abandon last text = text ≡ []
IsWordTold clock words.Divert last text = text ≡ []
IsWordTold clock words.Rebalance last text = text ≡ []
IsWordTold clock words.Table last text = text ≡ []
IsWordTold clock words.Held last text = text ≡ []
IsWordTold clock words.Unsure last text = text ≡ []
IsWordTold clock words.Link last text = text ≡ []

-- the trace of messages caused by a command, if this line was printed last
abbrev pub IsToldBy : ℕ → PlainGroupCommand → Option (List ℕ) → List ℕ → Type 0
IsToldBy clock (group.order o) last text = text ≡ []
IsToldBy clock (group.unit octets) last text = text ≡ []
IsToldBy clock (group.line octets) last text = text ≡ []
IsToldBy clock (group.out n) last text = text ≡ []
IsToldBy clock (group.ticks n) last text = text ≡ []
IsToldBy clock (group.state process) last text = text ≡ []
IsToldBy clock (group.shown process variable) last text = text ≡ []
IsToldBy clock (group.expected said) last text = text ≡ []
IsToldBy clock (group.on link) last text = text ≡ []
IsToldBy clock (group.sending octets) last text = text ≡ []
IsToldBy clock (group.bound octets) last text = text ≡ []
IsToldBy clock (group.message octets) last text = AreBothTold clock octets last text
IsToldBy clock (group.admitting way) last text = text ≡ []
IsToldBy clock (group.own word) last text = IsWordTold clock word last text

-- ---- tracers

-- a tracer has reached this state of a link
abbrev pub IsAtLink : Draft → Reached → Tracer → Type 0
IsAtLink d r t = IsAt d r.place r.core t

pub data AreAtLinks (every : Bool) (d : Draft) : List Reached → List Tracer → Type 0 where
  none_at : AreAtLinks every d [] []
  one_at : (r : Reached) (t : Tracer) (rs : List Reached) (ts : List Tracer)
      → t.every ≡ every → IsAtLink d r t → AreAtLinks every d rs ts
      → AreAtLinks every d (r ∷ rs) (t ∷ ts)

-- The trace of a command that was obeyed: its line, the changeover messages, and the events on each
-- link since `rs`.
pub record IsToldBehind (every : Bool) (lines : List PlainLine) (d : Draft)
    (said : PlainGroupSaid) (q : Playing) (last : Option (List ℕ)) (rs : List Reached)
    (old new : Option (List ℕ)) (tracers : List Tracer) : Type 0 where
  pub front : List ℕ
  pub told : List ℕ
  pub is_front : IsFront (group_only_asks said.command) lines (group_line said) front
  pub is_told : IsToldBy (clock_in (books_of q)) said.command last told
  pub reached : AreReached d rs (books_of q)
  pub are_at : AreAtLinks every d (all_reach d rs (books_of q)) tracers
  pub written : Appends old new (front ++ (told ++ links_text every d 0 rs (books_of q)))

-- these commands are traced so far, and their trace was written
pub record IsGroupTracing (every : Bool) (lines : List PlainLine) (d : Draft) (first : Playing)
    (commands : List PlainGroupSaid) (old new : Option (List ℕ)) (now : Playing)
    (last : Option (List ℕ)) (tracers : List Tracer) : Type 0 where
  pub reached : List Reached
  pub text : List ℕ
  pub traces : Traces every lines d first commands now last reached text
  pub are_at : AreAtLinks every d reached tracers
  pub written : Appends old new text
