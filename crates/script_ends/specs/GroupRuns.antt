-- The output of a run of a link set's script, and its effect on the set.
use Rattle.std.specs.Prelude.{◌≡◌, ℕ, Bool, is_some, List, [], ◌∷◌, ◌++◌, All, length, Option, None}
use Rattle.std.specs.Prelude.{Some}
use Rattle.std.specs.List.{flat_map}
use Rattle.std.specs.Io.KnownBytes.{Appends}
use Rattle.turn_code.specs.declared.draft.Draft.{Draft}
use Rattle.link_term.specs.Term.{Term}
use Rattle.link_term.specs.Opening.{IsOverWithin}
use Rattle.link_term.specs.Wanted.{wanted, IsFirstLacking}
use Rattle.link_term.specs.declared.opening.OpenError.{OpenError}
use Rattle.link_term.specs.declared.opening.OpenError.TheVariants.{NoName, NoMemory}
use Rattle.resend_store.specs.declared.messages.RoundLimits.{RoundLimits}
use Rattle.link_group.specs.Set.{LinkSet}
use Rattle.link_group.specs.New.{new_set}
use Rattle.script_links.specs.declared.heads.GroupHead.{GroupHead}
use Rattle.script_links.specs.GroupCommands.{PlainGroupCommand, expected}
use Rattle.script_links.specs.GroupScripts.{PlainGroupSaid}
use Rattle.script_book.specs.Lines.{line_of}
use Rattle.script_book.specs.Played.{last_in, Misses}
use Rattle.script_ends.specs.TermRuns.{latest, HasPrinted}
use Rattle.su_octets.specs.declared.units.Unit.{Unit as Unit_out}
use Rattle.link_group.specs.Lines.{ByLink}
use Rattle.link_group.specs.Doing.{Sent}
use Rattle.script_ends.specs.TermAnswers.{unit_line}
use Rattle.script_ends.specs.GroupAnswers.{Playing, at, GoOut, GivesOut, Obeys}
use Rattle.script_ends.specs.declared.player.GroupPlayer.{GroupPlayer}

-- ---- the beginning of a script

-- The point codes of this end and of the other end in a script.
abbrev pub OWN_POINT : ℕ
OWN_POINT = 1

abbrev pub OTHER_POINT : ℕ
OTHER_POINT = 2

-- The current link is link 0.
abbrev pub begun : LinkSet → Playing
begun c = record { set = c; on = 0 }

-- The number of new terminals over a process set that a script's first line states, with its error
-- correction and these limits of forced retransmission.
pub record AreNew (d : Draft) (limits : RoundLimits) (head : GroupHead) (terminals : List Term) :
    Type 0 where
  pub number : length terminals ≡ head.links
  pub are_new : All (IsOverWithin d limits head.mode) terminals

-- Links with such terminals, between this point and the other one.
pub record IsNewSet (d : Draft) (limits : RoundLimits) (head : GroupHead) (c : LinkSet) :
    Type 0 where
  pub terminals : List Term
  pub new : AreNew d limits head terminals
  pub set : c ≡ new_set OWN_POINT OTHER_POINT terminals

-- The name is the first one that the process set lacks of those that a terminal requires;
-- `NoMemory` states nothing.
abbrev pub LacksOne : Draft → OpenError → Type 0
LacksOne d (NoName name) = IsFirstLacking d name wanted
LacksOne d NoMemory = Unit {0}

-- P holds of the beginning of a script: links with new terminals over a process set, as the first
-- line states, with these limits.
pub record IsOfNewSet (d : Draft) (limits : RoundLimits) (head : GroupHead)
    (P : Playing → Type 0) : Type 0 where
  pub terminals : List Term
  pub new : AreNew d limits head terminals
  pub holds : P (begun (new_set OWN_POINT OTHER_POINT terminals))

-- ---- runs

-- A run: the commands obeyed, their lines, the state now, and the line printed last. `expect`
-- prints nothing and holds if the line before is its text.
pub data Goes (first : Playing) :
    List PlainGroupSaid → List (List ℕ) → Playing → Option (List ℕ) → Type 0 where
  begins : Goes first [] [] first None
  prints : {commands : List PlainGroupSaid} {lines : List (List ℕ)} {now : Playing} {last : Option
      (List ℕ)} (said : PlainGroupSaid)
      (more : List (List ℕ)) (next : Playing) → Obeys said.command now more next
      → Goes first commands lines now last
      → Goes first (commands ++ said ∷ []) (lines ++ more) next (latest last more)
  holds : {commands : List PlainGroupSaid} {lines : List (List ℕ)} {now : Playing} {text : List ℕ}
      (said : PlainGroupSaid)
      → said.command ≡ expected text → Goes first commands lines now (Some text)
      → Goes first (commands ++ said ∷ []) lines now (Some text)

-- These commands were obeyed in order, and the output grew by their lines, each with its end.
pub record IsGroupRun (first : Playing) (commands : List PlainGroupSaid) (old new : Option (List ℕ))
    (now : Playing) (last : Option (List ℕ)) :
    Type 0 where
  pub lines : List (List ℕ)
  pub goes : Goes first commands lines now last
  pub written : Appends old new (flat_map line_of lines)

abbrev pub playing_of : GroupPlayer → Playing
playing_of p = at p.group p.on

abbrev pub last_of : GroupPlayer → Option (List ℕ)
last_of p = last_in p.printer

-- A command was obeyed: an expectation that holds, which has no effect, or another command, whose
-- lines were printed after the earlier output.
pub data HasObeyed (c : PlainGroupCommand) (old new last next : Option (List ℕ)) (p q : Playing) :
    Type 0 where
  was_met : (text : List ℕ) → c ≡ expected text → last ≡ Some text → next ≡ last → new ≡ old
      → q ≡ p → HasObeyed c old new last next p q
  was_done : (lines : List (List ℕ)) → Obeys c p lines q → HasPrinted old new last next lines
      → HasObeyed c old new last next p q

-- A link was asked for a unit, and its line or `silent` was printed.
pub record HasGone (went : Bool) (l : ℕ) (old new last next : Option (List ℕ)) (c d : LinkSet) :
    Type 0 where
  pub unit : Option Unit_out
  pub some : went ≡ is_some unit
  pub sent : ByLink (Sent unit) l c d
  pub printed : HasPrinted old new last next (unit_line unit ∷ [])

-- An existing link was asked for `units` units, and their lines were printed.
pub record HasGoneOut (l units : ℕ) (old new last next : Option (List ℕ)) (c d : LinkSet) :
    Type 0 where
  pub lines : List (List ℕ)
  pub out : GoOut l units c lines d
  pub printed : HasPrinted old new last next lines

-- As `HasGoneOut`, for a link that may not exist.
pub record HasGivenOut (l units : ℕ) (old new last next : Option (List ℕ)) (c d : LinkSet) :
    Type 0 where
  pub lines : List (List ℕ)
  pub out : GivesOut l units c lines d
  pub printed : HasPrinted old new last next lines

-- The commands were obeyed, with some final state and last line.
pub record IsGroupWritten (commands : List PlainGroupSaid) (old new : Option (List ℕ))
    (first : Playing) : Type 0 where
  pub now : Playing
  pub last : Option (List ℕ)
  pub run : IsGroupRun first commands old new now last

-- an expectation of a link set's script fails
abbrev pub IsGroupMissedBy :
    PlainGroupSaid → Option (List ℕ) → Option (List ℕ) → Option (List ℕ) → Type 0
IsGroupMissedBy said last old new =
    Misses said.line (λ text. said.command ≡ expected text) last old new

-- The commands up to an expectation were obeyed, and that fails; nothing else is written.
pub record IsGroupMissed (commands : List PlainGroupSaid) (old new : Option (List ℕ))
    (first : Playing) : Type 0 where
  pub before : List PlainGroupSaid
  pub said : PlainGroupSaid
  pub after : List PlainGroupSaid
  pub stands : commands ≡ before ++ said ∷ after
  pub middle : Option (List ℕ)
  pub now : Playing
  pub last : Option (List ℕ)
  pub run : IsGroupRun first before old middle now last
  pub missed : IsGroupMissedBy said last middle new
