-- The trace of a run of each kind of script: one more command.
use Rattle.std.proofs.Common.{◌≡◌, ◌∙◌, ℕ, Bool, true, ◌+◌, ◌<◌, ◌≤◌, List, [], ◌∷◌, ◌++◌, length, map, take, drop, get_or, Option, None, Some, refl, sym, ap, subst}
use Rattle.std.proofs.KnownBytes.{Appends-nil}
use Rattle.turn_code.specs.declared.draft.Draft.{Draft}
use Rattle.actor_machine.specs.Kept.{opened_book}
use Rattle.actor_machine.specs.Ledger.{Ledger, next, state_of}
use Rattle.script_lines.specs.Lines.{PlainLine}
use Rattle.script_lines.specs.Scripts.{PlainSaid, plain_said}
use Rattle.script_lines.specs.declared.script.Said.{Said}
use Rattle.script_links.specs.TermScripts.{PlainTermSaid, plain_term_said, asks_told}
use Rattle.script_links.specs.declared.script.TermSaid.{TermSaid}
use Rattle.script_ends.specs.Term.{Term}
use Rattle.script_ends.specs.Played.{begins as book_begins, IsRun, IsWritten, IsMissed, IsMissedBy}
use Rattle.script_ends.specs.TermRuns.{begins as term_begins, IsTermRun, IsTermWritten, IsTermMissed, IsTermMissedBy, IsTermFailed}
use Rattle.script_seen.specs.Kinds.{book_line, term_line}
use Rattle.script_seen.specs.Traced.{since, are_in_step}
use Rattle.script_seen.specs.Following.{Agree, IsFollowed}
use Rattle.script_seen.specs.TracedKinds.{IsAtStart, book_asks, BookBehind, BookMisses, BookTracing, IsBookTraced, IsBookTracedInPart, term_asks, book_in, TermBehind, TermMisses, TermTracing, IsTermTraced, IsTermTracedInPart}
use Rattle.script_seen.specs.declared.tracing.Tracer.{Tracer}
use Rattle.script_seen.proofs.Showings.{one_more, parts_at, all_taken}
use Rattle.script_seen.proofs.Tracings.{HasFrontOf, tracing_begins, tracing_more, is_traced}

-- a tracer of a set's new book
pub opened_at : (d : Draft) (port env journal : ℕ) (t : Tracer) → t.again ≡ opened_book d port env journal → Agree t
    → IsAtStart (opened_book d port env journal) t
unfolding opened_book
opened_at d port env journal t is agree = record {
  set = ap (λ (b : Ledger). b.set) is;
  place_is = ap (λ (b : Ledger). next b) is;
  state = ap (λ (b : Ledger). state_of b) is;
  timers = agree ∙ ap (λ (b : Ledger). (state_of b).timers) is;
}

-- ---- books

-- the state of a run after some commands of a list
pub record BookGoing (lines : List PlainLine) (b : Ledger) (commands : List PlainSaid) (last : Option (List ℕ)) (first now : Option (List ℕ))
    (begun told : Option (List ℕ)) (book : Ledger) (latest : Option (List ℕ)) (t u : Tracer) : Type 0 where
  pub run : last ≡ None → IsRun b commands first now book latest
  pub every : u.every ≡ t.every
  pub traced : last ≡ None → IsAtStart b t → BookTracing lines b commands begun told u

pub book_run_begins : (b : Ledger) (old last : Option (List ℕ)) → last ≡ None → IsRun b [] old old b last
book_run_begins b old last none =
    let P : Option (List ℕ) → Type 0 = λ l. IsRun b [] old old b l in subst P (sym none) (record { lines = []; goes = book_begins; written = Appends-nil old })

pub book_going_begins : (lines : List PlainLine) (b : Ledger) (last old begun : Option (List ℕ)) (t : Tracer)
    → BookGoing lines b [] last old old begun begun b last t t
book_going_begins lines b last old begun t = record {
  run = λ none. book_run_begins b old last none;
  every = refl;
  traced = λ none at. tracing_begins lines book_line book_asks b.set (state_of b) (BookBehind b) begun t at;
}

pub book_behind : (b : Ledger) (commands : List PlainSaid) (first now : Option (List ℕ)) (book : Ledger) (last : Option (List ℕ)) → IsRun b commands first now book last → BookBehind b commands book
book_behind b commands first now book last run = record { lines = run.lines; last = last; goes = run.goes }

-- one more command
pub book_traced : (lines : List PlainLine) (b : Ledger) (before : List PlainSaid) (said : PlainSaid) (begun old mid new : Option (List ℕ)) (book : Ledger)
    (t u : Tracer) → BookTracing lines b before begun old t → HasFrontOf (book_asks said) lines said.line old mid → BookBehind b (before ++ said ∷ []) book
    → book.first ≤ next t.again → IsFollowed t (since (next t.again) book) u mid new → are_in_step (state_of u.again) (state_of book) ≡ true
    → BookTracing lines b (before ++ said ∷ []) begun new u
book_traced lines b before said begun old mid new book t u s f behind within followed in_step =
    tracing_more lines book_line book_asks b.set (state_of b) (BookBehind b) before said begun old mid new book t u s f behind within followed in_step

pub book_goes_on : (lines : List PlainLine) (b : Ledger) (items : List Said) (i : ℕ) (x : Said) (last first now begun traced : Option (List ℕ)) (book : Ledger)
    (latest : Option (List ℕ)) (t u : Tracer) → i < length items → x ≡ get_or items i x
    → BookGoing lines b (map plain_said (take i items) ++ plain_said x ∷ []) last first now begun traced book latest t u
    → BookGoing lines b (map plain_said (take (i + 1) items)) last first now begun traced book latest t u
book_goes_on lines b items i x last first now begun traced book latest t u within is s =
    let P : List PlainSaid → Type 0 = λ commands. BookGoing lines b commands last first now begun traced book latest t u in
    subst P (one_more plain_said items i x within is) s

pub book_gone : (lines : List PlainLine) (b : Ledger) (items : List Said) (i : ℕ) (last first now begun traced : Option (List ℕ)) (book : Ledger)
    (latest : Option (List ℕ)) (t u : Tracer) → length items ≤ i
    → BookGoing lines b (map plain_said (take i items)) last first now begun traced book latest t u
    → BookGoing lines b (map plain_said items) last first now begun traced book latest t u
book_gone lines b items i last first now begun traced book latest t u over s =
    let P : List PlainSaid → Type 0 = λ commands. BookGoing lines b commands last first now begun traced book latest t u in
    subst P (all_taken plain_said items i over) s

pub book_missed_at : (b : Ledger) (items : List Said) (i : ℕ) (x : Said) (first middle now : Option (List ℕ)) (book : Ledger) (last : Option (List ℕ)) → i < length items
    → x ≡ get_or items i x → IsRun b (map plain_said (take i items)) first middle book last → IsMissedBy (plain_said x) last middle now
    → IsMissed b (map plain_said items) first now
book_missed_at b items i x first middle now book last within is run missed = record {
  before = map plain_said (take i items);
  said = plain_said x;
  after = map plain_said (drop (i + 1) items);
  stands = parts_at plain_said items i x within is;
  middle = middle;
  now = book;
  last = last;
  run = run;
  missed = missed;
}

pub book_traced_all : (every : Bool) (lines : List PlainLine) (b : Ledger) (commands : List PlainSaid) (begun now : Option (List ℕ)) (u : Tracer) → u.every ≡ every
    → BookTracing lines b commands begun now u → IsBookTraced every lines b commands begun now
book_traced_all every lines b commands begun now u same s =
    is_traced every lines book_line book_asks b.set (state_of b) (BookBehind b) commands begun now u same s

pub book_misses_at : (b : Ledger) (commands : List PlainSaid) (said : PlainSaid) (first middle now : Option (List ℕ)) (book : Ledger) (last : Option (List ℕ))
    → IsRun b commands first middle book last → IsMissedBy said last middle now → BookMisses b commands said
book_misses_at b commands said first middle now book last run missed =
    record { lines = run.lines; now = book; last = last; goes = run.goes; text = missed.text; expects = missed.expects; other = missed.other }

pub book_traced_part : (every : Bool) (lines : List PlainLine) (b : Ledger) (items : List Said) (i : ℕ) (x : Said) (begun now new : Option (List ℕ)) (u : Tracer)
    → i < length items → x ≡ get_or items i x → u.every ≡ every → new ≡ now → BookMisses b (map plain_said (take i items)) (plain_said x)
    → BookTracing lines b (map plain_said (take i items)) begun now u → IsBookTracedInPart every lines b (map plain_said items) begun new
book_traced_part every lines b items i x begun now new u within is same stays missed s =
    let P : Option (List ℕ) → Type 0 = λ o. IsBookTraced every lines b (map plain_said (take i items)) begun o in
    record {
      before = map plain_said (take i items);
      said = plain_said x;
      after = map plain_said (drop (i + 1) items);
      stands = parts_at plain_said items i x within is;
      missed = missed;
      traced = subst P (sym stays) (book_traced_all every lines b (map plain_said (take i items)) begun now u same s);
    }

-- ---- terminals

-- the state of a run after some commands of a list
pub record TermGoing (keeps : Bool) (lines : List PlainLine) (t : Term) (commands : List PlainTermSaid) (last : Option (List ℕ)) (first now : Option (List ℕ))
    (begun told : Option (List ℕ)) (term : Term) (latest : Option (List ℕ)) (old new : Tracer) : Type 0 where
  pub run : last ≡ None → IsTermRun keeps t commands first now term latest
  pub every : new.every ≡ old.every
  pub traced : last ≡ None → IsAtStart (book_in t) old → TermTracing keeps lines t commands begun told new

pub term_run_begins : (keeps : Bool) (t : Term) (old last : Option (List ℕ)) → last ≡ None → IsTermRun keeps t [] old old t last
term_run_begins keeps t old last none =
    let P : Option (List ℕ) → Type 0 = λ l. IsTermRun keeps t [] old old t l in
    subst P (sym none) (record { lines = []; goes = term_begins; written = Appends-nil old })

pub term_going_begins : (keeps : Bool) (lines : List PlainLine) (t : Term) (last old begun : Option (List ℕ)) (tracer : Tracer)
    → TermGoing keeps lines t [] last old old begun begun t last tracer tracer
term_going_begins keeps lines t last old begun tracer = record {
  run = λ none. term_run_begins keeps t old last none;
  every = refl;
  traced = λ none at. tracing_begins lines term_line term_asks (book_in t).set (state_of (book_in t)) (TermBehind keeps t) begun tracer at;
}

pub term_behind : (keeps : Bool) (t : Term) (commands : List PlainTermSaid) (first now : Option (List ℕ)) (term : Term) (last : Option (List ℕ)) (book : Ledger)
    → book ≡ book_in term → IsTermRun keeps t commands first now term last → TermBehind keeps t commands book
term_behind keeps t commands first now term last book is run = record { lines = run.lines; last = last; term = term; goes = run.goes; is = sym is }

-- one more command
pub term_traced : (keeps : Bool) (lines : List PlainLine) (t : Term) (before : List PlainTermSaid) (said : PlainTermSaid) (begun old mid new : Option (List ℕ))
    (book : Ledger) (from to : Tracer) → TermTracing keeps lines t before begun old from → HasFrontOf (term_asks said) lines said.line old mid
    → TermBehind keeps t (before ++ said ∷ []) book → book.first ≤ next from.again → IsFollowed from (since (next from.again) book) to mid new
    → are_in_step (state_of to.again) (state_of book) ≡ true → TermTracing keeps lines t (before ++ said ∷ []) begun new to
term_traced keeps lines t before said begun old mid new book from to s f behind within followed in_step =
    tracing_more lines term_line term_asks (book_in t).set (state_of (book_in t)) (TermBehind keeps t) before said begun old mid new book from to s f behind within
    followed in_step

pub term_goes_on : (keeps : Bool) (lines : List PlainLine) (t : Term) (items : List TermSaid) (i : ℕ) (x : TermSaid)
    (last first now begun traced : Option (List ℕ)) (term : Term) (latest : Option (List ℕ)) (from to : Tracer) → i < length items → x ≡ get_or items i x
    → TermGoing keeps lines t (map plain_term_said (take i items) ++ plain_term_said x ∷ []) last first now begun traced term latest from to
    → TermGoing keeps lines t (map plain_term_said (take (i + 1) items)) last first now begun traced term latest from to
term_goes_on keeps lines t items i x last first now begun traced term latest from to within is s =
    let P : List PlainTermSaid → Type 0 = λ commands. TermGoing keeps lines t commands last first now begun traced term latest from to in
    subst P (one_more plain_term_said items i x within is) s

pub term_gone : (keeps : Bool) (lines : List PlainLine) (t : Term) (items : List TermSaid) (i : ℕ) (last first now begun traced : Option (List ℕ)) (term : Term)
    (latest : Option (List ℕ)) (from to : Tracer) → length items ≤ i
    → TermGoing keeps lines t (map plain_term_said (take i items)) last first now begun traced term latest from to
    → TermGoing keeps lines t (map plain_term_said items) last first now begun traced term latest from to
term_gone keeps lines t items i last first now begun traced term latest from to over s =
    let P : List PlainTermSaid → Type 0 = λ commands. TermGoing keeps lines t commands last first now begun traced term latest from to in
    subst P (all_taken plain_term_said items i over) s

pub term_missed_at : (keeps : Bool) (t : Term) (items : List TermSaid) (i : ℕ) (x : TermSaid) (first middle now : Option (List ℕ)) (term : Term)
    (last : Option (List ℕ)) → i < length items → x ≡ get_or items i x → IsTermRun keeps t (map plain_term_said (take i items)) first middle term last
    → IsTermMissedBy (plain_term_said x) last middle now → IsTermMissed keeps (map plain_term_said items) first now t
term_missed_at keeps t items i x first middle now term last within is run missed = record {
  before = map plain_term_said (take i items);
  said = plain_term_said x;
  after = map plain_term_said (drop (i + 1) items);
  stands = parts_at plain_term_said items i x within is;
  middle = middle;
  now = term;
  last = last;
  run = run;
  missed = missed;
}

pub term_traced_all : (every keeps : Bool) (lines : List PlainLine) (t : Term) (commands : List PlainTermSaid) (begun now : Option (List ℕ)) (tracer : Tracer)
    → tracer.every ≡ every → TermTracing keeps lines t commands begun now tracer → IsTermTraced every keeps lines t commands begun now
term_traced_all every keeps lines t commands begun now tracer same s =
    is_traced every lines term_line term_asks (book_in t).set (state_of (book_in t)) (TermBehind keeps t) commands begun now tracer same s

pub term_misses_at : (keeps : Bool) (t : Term) (commands : List PlainTermSaid) (said : PlainTermSaid) (first middle now : Option (List ℕ)) (term : Term)
    (last : Option (List ℕ)) → IsTermRun keeps t commands first middle term last → IsTermMissedBy said last middle now → TermMisses keeps t commands said
term_misses_at keeps t commands said first middle now term last run missed =
    record { lines = run.lines; now = term; last = last; goes = run.goes; text = missed.text; expects = missed.expects; other = missed.other }

pub term_traced_part : (every keeps : Bool) (lines : List PlainLine) (t : Term) (items : List TermSaid) (i : ℕ) (x : TermSaid) (begun now new : Option (List ℕ))
    (tracer : Tracer) → i < length items → x ≡ get_or items i x → tracer.every ≡ every → new ≡ now
    → TermMisses keeps t (map plain_term_said (take i items)) (plain_term_said x) → TermTracing keeps lines t (map plain_term_said (take i items)) begun now tracer
    → IsTermTracedInPart every keeps lines t (map plain_term_said items) begun new
term_traced_part every keeps lines t items i x begun now new tracer within is same stays missed s =
    let P : Option (List ℕ) → Type 0 = λ o. IsTermTraced every keeps lines t (map plain_term_said (take i items)) begun o in
    record {
      before = map plain_term_said (take i items);
      said = plain_term_said x;
      after = map plain_term_said (drop (i + 1) items);
      stands = parts_at plain_term_said items i x within is;
      missed = missed;
      traced = subst P (sym stays) (term_traced_all every keeps lines t (map plain_term_said (take i items)) begun now tracer same s);
    }

-- the terminal's reports are kept if one of the commands needs them
pub term_written : (keeps : Bool) (t : Term) (commands : List PlainTermSaid) (old new : Option (List ℕ)) → keeps ≡ asks_told commands
    → ((now : Term) × (last : Option (List ℕ)) × IsTermRun keeps t commands old new now last) → IsTermWritten commands old new t
term_written keeps t commands old new same r =
    let K : Bool → Type 0 = λ k. IsTermRun k t commands old new r.0 r.1 in record { now = r.0; last = r.1; run = subst K same r.2 }

pub term_failed : (keeps : Bool) (t : Term) (commands : List PlainTermSaid) (old new : Option (List ℕ)) → keeps ≡ asks_told commands
    → IsTermMissed keeps commands old new t → IsTermFailed commands old new t
term_failed keeps t commands old new same missed =
    let K : Bool → Type 0 = λ k. IsTermMissed k commands old new t in subst K same missed
