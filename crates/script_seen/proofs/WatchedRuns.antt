-- The notices to a watcher about a run of each kind of script: one more command.
use Rattle.std.proofs.Common.{◌≡◌, ℕ, Bool, true, ◌+◌, ◌<◌, ◌≤◌, List, [], ◌∷◌, ◌++◌, length, map, take, drop, get_or, Option, None, refl, sym, subst}
use Rattle.turn_code.specs.declared.draft.Draft.{Draft}
use Rattle.actor_machine.specs.Kept.{opened_book}
use Rattle.actor_machine.specs.Ledger.{Ledger, next, state_of}
use Rattle.script_lines.specs.Scripts.{PlainSaid, plain_said}
use Rattle.script_lines.specs.declared.script.Said.{Said}
use Rattle.script_links.specs.TermScripts.{PlainTermSaid, plain_term_said}
use Rattle.script_links.specs.declared.script.TermSaid.{TermSaid}
use Rattle.script_ends.specs.Term.{Term}
use Rattle.script_ends.specs.Played.{IsRun}
use Rattle.script_ends.specs.TermRuns.{IsTermRun}
use Rattle.script_seen.specs.Traced.{since, are_in_step}
use Rattle.script_seen.specs.TracedKinds.{IsAtStart, BookBehind, BookMisses, TermBehind, TermMisses, book_in}
use Rattle.script_seen.specs.Watched.{Notice, noticed_in}
use Rattle.script_seen.specs.WatchedKinds.{IsMoved, BookWatching, IsBookWatched, IsBookWatchedInPart, TermWatching, IsTermWatched, IsTermWatchedInPart}
use Rattle.script_seen.specs.declared.tracing.Tracer.{Tracer}
use Rattle.script_seen.proofs.Showings.{one_more, parts_at, all_taken}
use Rattle.script_seen.proofs.TracedRuns.{book_run_begins, term_run_begins}
use Rattle.script_seen.proofs.Watchings.{watching_begins, watching_more, is_watched, watched_as, in_part_as}

-- the process set of a newly opened book
pub opened_set : (d : Draft) (port env journal : ℕ) → (opened_book d port env journal).set ≡ d
unfolding opened_book
opened_set d port env journal = refl

-- ---- books

-- the state of a run after some commands of a list: K holds of the watcher before, L after
pub record BookGoing (b : Ledger) (commands : List PlainSaid) (last first now : Option (List ℕ)) (book : Ledger) (latest : Option (List ℕ))
    (K L : List Notice → Type 0) (t u : Tracer) : Type 0 where
  pub run : last ≡ None → IsRun b commands first now book latest
  pub watched : last ≡ None → IsAtStart b t → K [] → BookWatching b commands L u

pub book_going_begins : (b : Ledger) (last old : Option (List ℕ)) (K : List Notice → Type 0) (t : Tracer) → BookGoing b [] last old old b last K K t t
book_going_begins b last old K t = record {
  run = λ none. book_run_begins b old last none;
  watched = λ none at k. watching_begins b.set (state_of b) (BookBehind b) K t at k;
}

-- one more command
pub book_watched : (b : Ledger) (before : List PlainSaid) (said : PlainSaid) (K L : Draft → List Notice → Type 0) (book : Ledger) (t u : Tracer)
    → BookWatching b before (K b.set) t → BookBehind b (before ++ said ∷ []) book → book.first ≤ next t.again → IsMoved t (since (next t.again) book) u
    → are_in_step (state_of u.again) (state_of book) ≡ true
    → ((ns : List Notice) → K t.again.set ns → L t.again.set (ns ++ noticed_in t.again.set (state_of t.again) (since (next t.again) book)))
    → BookWatching b (before ++ said ∷ []) (L b.set) u
book_watched b before said K L book t u s behind within moved in_step told =
    watching_more b.set (state_of b) (BookBehind b) before said K L book t u s behind within moved in_step told

pub book_goes_on : (b : Ledger) (items : List Said) (i : ℕ) (x : Said) (last first now : Option (List ℕ)) (book : Ledger) (latest : Option (List ℕ))
    (K L : List Notice → Type 0) (t u : Tracer) → i < length items → x ≡ get_or items i x
    → BookGoing b (map plain_said (take i items) ++ plain_said x ∷ []) last first now book latest K L t u
    → BookGoing b (map plain_said (take (i + 1) items)) last first now book latest K L t u
book_goes_on b items i x last first now book latest K L t u within is s =
    let P : List PlainSaid → Type 0 = λ commands. BookGoing b commands last first now book latest K L t u in
    subst P (one_more plain_said items i x within is) s

pub book_gone : (b : Ledger) (items : List Said) (i : ℕ) (last first now : Option (List ℕ)) (book : Ledger) (latest : Option (List ℕ))
    (K L : List Notice → Type 0) (t u : Tracer) → length items ≤ i
    → BookGoing b (map plain_said (take i items)) last first now book latest K L t u
    → BookGoing b (map plain_said items) last first now book latest K L t u
book_gone b items i last first now book latest K L t u over s =
    let P : List PlainSaid → Type 0 = λ commands. BookGoing b commands last first now book latest K L t u in
    subst P (all_taken plain_said items i over) s

-- a watcher that is unchanged
pub book_kept : {N : Type 0} (knows : List Notice → N → Type 0) (b : Ledger) (commands : List PlainSaid) (old new : N) (u : Tracer) → new ≡ old
    → BookWatching b commands (λ ns. knows ns old) u → BookWatching b commands (λ ns. knows ns new) u
book_kept {N = N} knows b commands old new u same s =
    let P : N → Type 0 = λ x. BookWatching b commands (λ ns. knows ns x) u in subst P (sym same) s

pub book_watched_all : (b : Ledger) (commands : List PlainSaid) (P : List Notice → Type 0) (u : Tracer) → BookWatching b commands P u → IsBookWatched b commands P
book_watched_all b commands P u s = is_watched b.set (state_of b) (BookBehind b) commands P u s

pub book_watched_part : (b : Ledger) (items : List Said) (i : ℕ) (x : Said) (P : List Notice → Type 0) (u : Tracer) → i < length items → x ≡ get_or items i x
    → BookMisses b (map plain_said (take i items)) (plain_said x) → BookWatching b (map plain_said (take i items)) P u
    → IsBookWatchedInPart b (map plain_said items) P
book_watched_part b items i x P u within is missed s = record {
  before = map plain_said (take i items);
  said = plain_said x;
  after = map plain_said (drop (i + 1) items);
  stands = parts_at plain_said items i x within is;
  missed = missed;
  watched = book_watched_all b (map plain_said (take i items)) P u s;
}

-- a property of the watcher, replaced by one that follows from it
pub book_watched_as : (b : Ledger) (commands : List PlainSaid) (P Q : List Notice → Type 0) → ((ns : List Notice) → P ns → Q ns)
    → IsBookWatched b commands P → IsBookWatched b commands Q
book_watched_as b commands P Q f w = watched_as b.set (state_of b) (BookBehind b) commands P Q f w

pub book_part_as : (b : Ledger) (commands : List PlainSaid) (P Q : List Notice → Type 0) → ((ns : List Notice) → P ns → Q ns)
    → IsBookWatchedInPart b commands P → IsBookWatchedInPart b commands Q
book_part_as b commands P Q f w = in_part_as b.set (state_of b) (BookBehind b) (BookMisses b) commands P Q f w

-- ---- terminals

pub record TermGoing (keeps : Bool) (t : Term) (commands : List PlainTermSaid) (last first now : Option (List ℕ)) (term : Term) (latest : Option (List ℕ))
    (K L : List Notice → Type 0) (from to : Tracer) : Type 0 where
  pub run : last ≡ None → IsTermRun keeps t commands first now term latest
  pub watched : last ≡ None → IsAtStart (book_in t) from → K [] → TermWatching keeps t commands L to

pub term_going_begins : (keeps : Bool) (t : Term) (last old : Option (List ℕ)) (K : List Notice → Type 0) (tracer : Tracer)
    → TermGoing keeps t [] last old old t last K K tracer tracer
term_going_begins keeps t last old K tracer = record {
  run = λ none. term_run_begins keeps t old last none;
  watched = λ none at k. watching_begins (book_in t).set (state_of (book_in t)) (TermBehind keeps t) K tracer at k;
}

pub term_watched : (keeps : Bool) (t : Term) (before : List PlainTermSaid) (said : PlainTermSaid) (K L : Draft → List Notice → Type 0) (book : Ledger)
    (from to : Tracer) → TermWatching keeps t before (K (book_in t).set) from → TermBehind keeps t (before ++ said ∷ []) book → book.first ≤ next from.again
    → IsMoved from (since (next from.again) book) to → are_in_step (state_of to.again) (state_of book) ≡ true
    → ((ns : List Notice) → K from.again.set ns → L from.again.set (ns ++ noticed_in from.again.set (state_of from.again) (since (next from.again) book)))
    → TermWatching keeps t (before ++ said ∷ []) (L (book_in t).set) to
term_watched keeps t before said K L book from to s behind within moved in_step told =
    watching_more (book_in t).set (state_of (book_in t)) (TermBehind keeps t) before said K L book from to s behind within moved in_step told

pub term_goes_on : (keeps : Bool) (t : Term) (items : List TermSaid) (i : ℕ) (x : TermSaid) (last first now : Option (List ℕ)) (term : Term)
    (latest : Option (List ℕ)) (K L : List Notice → Type 0) (from to : Tracer) → i < length items → x ≡ get_or items i x
    → TermGoing keeps t (map plain_term_said (take i items) ++ plain_term_said x ∷ []) last first now term latest K L from to
    → TermGoing keeps t (map plain_term_said (take (i + 1) items)) last first now term latest K L from to
term_goes_on keeps t items i x last first now term latest K L from to within is s =
    let P : List PlainTermSaid → Type 0 = λ commands. TermGoing keeps t commands last first now term latest K L from to in
    subst P (one_more plain_term_said items i x within is) s

pub term_gone : (keeps : Bool) (t : Term) (items : List TermSaid) (i : ℕ) (last first now : Option (List ℕ)) (term : Term) (latest : Option (List ℕ))
    (K L : List Notice → Type 0) (from to : Tracer) → length items ≤ i
    → TermGoing keeps t (map plain_term_said (take i items)) last first now term latest K L from to
    → TermGoing keeps t (map plain_term_said items) last first now term latest K L from to
term_gone keeps t items i last first now term latest K L from to over s =
    let P : List PlainTermSaid → Type 0 = λ commands. TermGoing keeps t commands last first now term latest K L from to in
    subst P (all_taken plain_term_said items i over) s

pub term_kept : {N : Type 0} (knows : List Notice → N → Type 0) (keeps : Bool) (t : Term) (commands : List PlainTermSaid) (old new : N) (to : Tracer) → new ≡ old
    → TermWatching keeps t commands (λ ns. knows ns old) to → TermWatching keeps t commands (λ ns. knows ns new) to
term_kept {N = N} knows keeps t commands old new to same s =
    let P : N → Type 0 = λ x. TermWatching keeps t commands (λ ns. knows ns x) to in subst P (sym same) s

pub term_watched_all : (keeps : Bool) (t : Term) (commands : List PlainTermSaid) (P : List Notice → Type 0) (to : Tracer)
    → TermWatching keeps t commands P to → IsTermWatched keeps t commands P
term_watched_all keeps t commands P to s = is_watched (book_in t).set (state_of (book_in t)) (TermBehind keeps t) commands P to s

pub term_watched_part : (keeps : Bool) (t : Term) (items : List TermSaid) (i : ℕ) (x : TermSaid) (P : List Notice → Type 0) (to : Tracer) → i < length items
    → x ≡ get_or items i x → TermMisses keeps t (map plain_term_said (take i items)) (plain_term_said x)
    → TermWatching keeps t (map plain_term_said (take i items)) P to → IsTermWatchedInPart keeps t (map plain_term_said items) P
term_watched_part keeps t items i x P to within is missed s = record {
  before = map plain_term_said (take i items);
  said = plain_term_said x;
  after = map plain_term_said (drop (i + 1) items);
  stands = parts_at plain_term_said items i x within is;
  missed = missed;
  watched = term_watched_all keeps t (map plain_term_said (take i items)) P to s;
}

pub term_watched_as : (keeps : Bool) (t : Term) (commands : List PlainTermSaid) (P Q : List Notice → Type 0) → ((ns : List Notice) → P ns → Q ns)
    → IsTermWatched keeps t commands P → IsTermWatched keeps t commands Q
term_watched_as keeps t commands P Q f w = watched_as (book_in t).set (state_of (book_in t)) (TermBehind keeps t) commands P Q f w

pub term_part_as : (keeps : Bool) (t : Term) (commands : List PlainTermSaid) (P Q : List Notice → Type 0) → ((ns : List Notice) → P ns → Q ns)
    → IsTermWatchedInPart keeps t commands P → IsTermWatchedInPart keeps t commands Q
term_part_as keeps t commands P Q f w =
    in_part_as (book_in t).set (state_of (book_in t)) (TermBehind keeps t) (TermMisses keeps t) commands P Q f w
