-- The notices to a watcher of a run of each kind of script.
use Rattle.std.specs.Prelude.{◌≡◌, ◌+◌, ℕ, Bool, List, [], length}
use Rattle.turn_code.specs.declared.draft.Draft.{Draft}
use Rattle.actor_machine.specs.Ledger.{Ledger, runs, replay, next, state_of}
use Rattle.actor_machine.specs.declared.event.Event.{Event}
use Rattle.script_lines.specs.Scripts.{PlainSaid}
use Rattle.script_links.specs.TermScripts.{PlainTermSaid}
use Rattle.script_ends.specs.Term.{Term}
use Rattle.script_seen.specs.Following.{Agree}
use Rattle.script_seen.specs.TracedKinds.{BookBehind, BookMisses, TermBehind, TermMisses, book_in}
use Rattle.script_seen.specs.Watched.{Notice, IsWatching, IsWatched, IsWatchedInPart}
use Rattle.script_seen.specs.declared.tracing.Tracer.{Tracer}

-- these events were replayed in a tracer, and nothing was written
pub record IsMoved (old : Tracer) (es : List Event) (new : Tracer) : Type 0 where
  pub set : new.again.set ≡ old.again.set
  pub every : new.every ≡ old.every
  pub place : next new.again ≡ next old.again + length es
  pub state :
      state_of new.again
      ≡ replay old.again.set (runs old.again.set) (state_of old.again) es
  pub agree : Agree old → Agree new

-- P holds of a watcher after the notices of a run so far
abbrev pub BookWatching :
    Ledger → List PlainSaid → (List Notice → Type 0) → Tracer → Type 0
BookWatching b commands P t = IsWatching b.set (state_of b) (BookBehind b) commands P t

abbrev pub IsBookWatched : Ledger → List PlainSaid → (List Notice → Type 0) → Type 0
IsBookWatched b commands P = IsWatched b.set (state_of b) (BookBehind b) commands P

abbrev pub IsBookWatchedInPart : Ledger → List PlainSaid → (List Notice → Type 0) → Type 0
IsBookWatchedInPart b commands P =
    IsWatchedInPart b.set (state_of b) (BookBehind b) (BookMisses b) commands P

abbrev pub TermWatching :
    Bool → Term → List PlainTermSaid → (List Notice → Type 0) → Tracer → Type 0
TermWatching keeps t commands P tracer =
    IsWatching (book_in t).set (state_of (book_in t)) (TermBehind keeps t) commands P tracer

abbrev pub IsTermWatched :
    Bool → Term → List PlainTermSaid → (List Notice → Type 0) → Type 0
IsTermWatched keeps t commands P =
    IsWatched (book_in t).set (state_of (book_in t)) (TermBehind keeps t) commands P

abbrev pub IsTermWatchedInPart :
    Bool → Term → List PlainTermSaid → (List Notice → Type 0) → Type 0
IsTermWatchedInPart keeps t commands P =
    IsWatchedInPart (book_in t).set (state_of (book_in t)) (TermBehind keeps t)
    (TermMisses keeps t) commands P
