-- The trace of single events.
use Rattle.std.proofs.Common.{◌≡◌, ◌∙◌, ℕ, Bool, true, false, List, [], ◌∷◌, ◌++◌, append-nil, Option, Some, None, refl, sym, ap, subst}
use Rattle.std.specs.Prelude.{slice_get, if◌then◌else◌, option_map}
use Rattle.std.specs.List.{flat_map}
use Rattle.turn_code.specs.Outcome.{Outcome}
use Rattle.turn_code.specs.declared.draft.Draft.{Draft}
use Rattle.turn_machine.specs.Turn.{Turn, outcome_of}
use Rattle.actor_machine.specs.Core.{Core, names_in}
use Rattle.actor_machine.specs.Ledger.{turn_at}
use Rattle.actor_machine.specs.Step.{report_of}
use Rattle.actor_machine.specs.declared.name.ActorName.{ActorName}
use Rattle.actor_machine.specs.declared.event.Event.TheVariants as event
use Rattle.actor_machine.specs.declared.event.Offer.{Offer}
use Rattle.actor_machine.specs.declared.reply.Report.{Report}
use Rattle.plain_text.specs.Lines.{line_of}
use Rattle.script_seen.specs.Told.{told, offer_line, skip_lines, turn_lines, end_lines, outcome_by}

pub told_offer : (every : Bool) (d : Draft) (w : Core) (o : Offer) → line_of (offer_line d w o) ≡ flat_map line_of (told every d w (event.Offer o))
unfolding told
told_offer every d w o = sym (append-nil (line_of (offer_line d w o)))

pub told_begin : (every : Bool) (d : Draft) (w : Core) (n : ℕ) → flat_map line_of (told every d w (event.Begin n)) ≡ []
unfolding told
told_begin every d w n = refl

pub told_take : (every : Bool) (d : Draft) (w : Core) → flat_map line_of (told every d w event.TakeEnv) ≡ []
unfolding told
told_take every d w = refl

pub told_skip : (every : Bool) (d : Draft) (w : Core) (n : ℕ)
    → (if every then skip_lines d w.timers.clock (slice_get w.actors n) else []) ≡ told every d w (event.Skip n)
unfolding told
told_skip every d w n = refl

ended_is : (every : Bool) (d : Draft) (w : Core) (n : ℕ) (me : Option ActorName) (t : Option Turn) (name : ActorName) (turn : Turn) (o : Outcome) → me ≡ Some name
    → t ≡ Some turn → outcome_of turn ≡ Some o
    → turn_lines every d w.timers.clock name turn (report_of n name o w) o ≡ end_lines every d w n me t (outcome_by t)
ended_is every d w n me t name turn o called out ran =
    let M : Option ActorName → Type 0 =
    λ m. turn_lines every d w.timers.clock name turn (report_of n name o w) o ≡ end_lines every d w n m t (outcome_by t) in
    let T : Option Turn → Type 0 =
    λ x. turn_lines every d w.timers.clock name turn (report_of n name o w) o ≡ end_lines every d w n (Some name) x (outcome_by x) in
    let O : Option Outcome → Type 0 =
    λ x. turn_lines every d w.timers.clock name turn (report_of n name o w) o ≡ end_lines every d w n (Some name) (Some turn) x in
    subst M (sym called) (subst T (sym out) (subst O (sym ran) refl))

pub told_finish : (every : Bool) (d : Draft) (w : Core) (n : ℕ) (name : ActorName) (turn : Turn) (r : Report) (o : Outcome)
    → slice_get (names_in w.actors) n ≡ Some name → turn_at d n (slice_get w.actors n) ≡ Some turn → outcome_of turn ≡ Some o → r ≡ report_of n name o w
    → turn_lines every d w.timers.clock name turn r o ≡ told every d w (event.Finish n)
unfolding told
told_finish every d w n name turn r o called out ran is =
    ap (λ (x : Report). turn_lines every d w.timers.clock name turn x o) is
    ∙ ended_is every d w n (slice_get (names_in w.actors) n) (turn_at d n (slice_get w.actors n)) name turn o called out ran
