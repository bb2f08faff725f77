-- A book runs alike by the code of its set and by the meaning of that code.
use Rattle.std.proofs.Common.{◌≡◌, ℕ, List, [], ◌∷◌, ◌++◌, Option, Some, None, refl, sym, ap, ◌∙◌, subst}
use Rattle.std.specs.Prelude.{slice_get, Result}
use Rattle.turn_code.specs.declared.trouble.Trouble.{Trouble}
use Rattle.turn_code.specs.Outcome.{Outcome, Meaning, Means}
use Rattle.turn_code.specs.Transitions.{Transition}
use Rattle.turn_code.specs.Valid.{IsValid}
use Rattle.turn_code.specs.declared.draft.Draft.{Draft}
use Rattle.actor_machine.specs.Core.{Core}
use Rattle.actor_machine.specs.Fits.{CoreFits, ActorFits, GivenFits}
use Rattle.actor_machine.specs.Step.{Answer, Stepped, step, finish_by, finish_at, result_given}
use Rattle.actor_machine.specs.Refusals.{refuses, refuses_in}
use Rattle.actor_machine.specs.Ledger.{Ledger, Asked, runs, run_of, replay, state_by, state_of, refusal_by, asked, ask_by, room, answers_by, after_by}
use Rattle.actor_machine.specs.Kept.{FitsAlong}
use Rattle.actor_machine.specs.Laws.{TextLaw}
use Rattle.actor_machine.specs.declared.actor.Actor.{Actor}
use Rattle.actor_machine.specs.declared.actor.Given.{Given}
use Rattle.actor_machine.specs.declared.actor.Standing.{Standing}
use Rattle.actor_machine.specs.declared.actor.Standing.TheVariants.{At, Stopped}
use Rattle.actor_machine.specs.declared.event.Event.{Event}
use Rattle.actor_machine.specs.declared.event.Event.TheVariants.{Offer, Begin, Skip, Finish, Advance, TakeEnv}
use Rattle.actor_machine.specs.declared.reply.Refusal.{Refusal}
use Rattle.actor_machine.proofs.Replays.{fits_last, fits_more}
use Rattle.actor_machine.proofs.Ends.{passes_otherwise}

-- an event that isn't refused leaves a state that fits
abbrev pub StepFits : Type 0
StepFits = (d : Draft) (w : Core) (e : Event) → IsValid d → CoreFits d w → refuses d w e ≡ None → CoreFits d (step d (runs d) w e).to

-- ---- one event

same_given : (act : Meaning) (d : Draft) (p : ℕ) (s : Standing) (g : Option Given) → Means act d → GivenFits d p s g
    → result_given act p s g ≡ result_given (runs d) p s g
unfolding runs
same_given act d p (At s) None means fits = refl
same_given act d p (At s) (Some g) means fits =
    ap (λ (r : Result Outcome Trouble). Some r)
    (means p s g.number fits.transition g.input fits.there fits.fits ∙ sym (ap (λ (t : Option Transition). run_of t g.input) fits.there))
same_given act d p Stopped g means fits = refl

same_at : (act : Meaning) (d : Draft) (n : ℕ) (w : Core) (o : Option Actor) → Means act d → ((a : Actor) → o ≡ Some a → ActorFits d a)
    → finish_at act n w o ≡ finish_at (runs d) n w o
same_at act d n w None means fits = refl
same_at act d n w (Some a) means fits = ap (finish_by n a.name w) (same_given act d a.name.process.0 a.standing a.given means (fits a refl).given)

same_step : (act : Meaning) (d : Draft) (w : Core) (e : Event) → Means act d → CoreFits d w → step d act w e ≡ step d (runs d) w e
unfolding step
same_step act d w (Offer o) means fits = refl
same_step act d w (Begin n) means fits = refl
same_step act d w (Skip n) means fits = refl
same_step act d w (Finish n) means fits = same_at act d n w (slice_get w.actors n) means (fits.each n)
same_step act d w (Advance k) means fits = refl
same_step act d w TakeEnv means fits = refl

same_replay : (act : Meaning) (d : Draft) (w : Core) (es : List Event) → Means act d → FitsAlong d w es
    → replay d act w es ≡ replay d (runs d) w es
same_replay act d w [] means fits = refl
same_replay act d w (e ∷ es) means fits =
    ap (λ (s : Stepped). replay d act s.to es) (same_step act d w e means fits.0)
    ∙ same_replay act d (step d (runs d) w e).to es means fits.1

-- ---- one ask, if the set isn't taken from the book

-- the set of a book, and the fit of all states of its journal
pub record Along (d : Draft) (b : Ledger) : Type 0 where
  pub set : b.set ≡ d
  pub fits : FitsAlong b.set b.base b.journal

same_asked : (act : Meaning) (b : Ledger) (e : Event) → Means act b.set → FitsAlong b.set b.base b.journal
    → ask_by act b e ≡ ask_by (runs b.set) b e
unfolding ask_by
same_asked act b e means fits =
    let now : state_by act b ≡ state_of b = same_replay act b.set b.base b.journal means fits in
    ap (λ (w : Core). asked b e (step b.set act w e) (refuses_in b.set w (room b w) e)) now
    ∙ ap (λ (s : Stepped). asked b e s (refusal_by (runs b.set) b e))
    (same_step act b.set (state_of b) e means (fits_last b.set b.base b.journal fits))

same_state : (act : Meaning) (d : Draft) (b : Ledger) → Means act d → Along d b → state_by act b ≡ state_of b
same_state act d b means along =
    same_replay act b.set b.base b.journal (subst (λ (x : Draft). Means act x) (sym along.set) means) along.fits

same_ask : (act : Meaning) (d : Draft) (b : Ledger) (e : Event) → Means act d → Along d b → ask_by act b e ≡ ask_by (runs d) b e
same_ask act d b e means along =
    same_asked act b e (subst (λ (x : Draft). Means act x) (sym along.set) means) along.fits
    ∙ ap (λ (x : Draft). ask_by (runs x) b e) along.set

along_asked : (d : Draft) (b : Ledger) (e : Event) (s : Stepped) (o : Option Refusal) → Along d b
    → (o ≡ None → FitsAlong b.set b.base (b.journal ++ e ∷ [])) → Along d (asked b e s o).book
along_asked d b e s None h next = record { set = h.set; fits = next refl }
along_asked d b e s (Some r) h next = h

-- an event that fits the last state goes into a journal whose states all fit
pub fits_next : StepFits → (b : Ledger) (e : Event) → IsValid b.set → FitsAlong b.set b.base b.journal → refusal_by (runs b.set) b e ≡ None
    → FitsAlong b.set b.base (b.journal ++ e ∷ [])
fits_next steps b e valid fits h =
    fits_more b.set b.base b.journal e fits
    (steps b.set (state_of b) e valid (fits_last b.set b.base b.journal fits)
    (passes_otherwise (room b (state_of b)) e (refuses b.set (state_of b) e) h))

along_own : StepFits → (d : Draft) (b : Ledger) (e : Event) → IsValid b.set → Along d b → Along d (ask_by (runs b.set) b e).book
unfolding ask_by
along_own steps d b e valid h =
    along_asked d b e (step b.set (runs b.set) (state_of b) e) (refusal_by (runs b.set) b e) h (fits_next steps b e valid h.fits)

along_ask : StepFits → (d : Draft) → IsValid d → (b : Ledger) (e : Event) → Along d b → Along d (ask_by (runs d) b e).book
along_ask steps d valid b e h =
    subst (λ (x : Draft). Along d (ask_by (runs x) b e).book) h.set
    (along_own steps d b e (subst (λ (x : Draft). IsValid x) (sym h.set) valid) h)

-- ---- lists of events

module _ (steps : StepFits) (act : Meaning) (d : Draft) (valid : IsValid d) (means : Means act d) where
  same_answers : (b : Ledger) (es : List Event) → Along d b → answers_by act b es ≡ answers_by (runs d) b es
  same_answers b [] h = refl
  same_answers b (e ∷ es) h =
      ap (λ (x : Asked). x.answer ∷ answers_by act x.book es) (same_ask act d b e means h)
      ∙ ap (λ (xs : List Answer). (ask_by (runs d) b e).answer ∷ xs) (same_answers (ask_by (runs d) b e).book es (along_ask steps d valid b e h))

  same_after : (b : Ledger) (es : List Event) → Along d b → after_by act b es ≡ after_by (runs d) b es
  same_after b [] h = refl
  same_after b (e ∷ es) h =
      ap (λ (x : Asked). after_by act x.book es) (same_ask act d b e means h)
      ∙ same_after (ask_by (runs d) b e).book es (along_ask steps d valid b e h)

  along_after : (b : Ledger) (es : List Event) → Along d b → Along d (after_by (runs d) b es)
  along_after b [] h = h
  along_after b (e ∷ es) h = along_after (ask_by (runs d) b e).book es (along_ask steps d valid b e h)

pub text_law : StepFits → TextLaw
text_law steps act b es kept means =
    let along : Along b.set b = record { set = refl; fits = kept.stands.along } in
    let book : after_by act b es ≡ after_by (runs b.set) b es = same_after steps act b.set kept.stands.valid means b es along in
    record {
      answers = same_answers steps act b.set kept.stands.valid means b es along;
      book = book;
      state = ap (λ (x : Ledger). state_by act x) book
          ∙ same_state act b.set (after_by (runs b.set) b es) means (along_after steps act b.set kept.stands.valid means b es along);
    }
