-- Each turn that is out ends.
use Rattle.std.proofs.Common.{◌≡◌, ℕ, ◌≤◌, Bool, true, false, if◌then◌else◌, arith, List, Option, Some, None, refl, sym, ap, ◌∙◌, subst, le-ltb, le_trans}
use Rattle.std.specs.Prelude.{◌↔◌, is_some, slice_get, nat_lt, Result, Ok}
use Rattle.std.proofs.lemmas.Option.{none-some}
use Rattle.turn_code.specs.Outcome.{Outcome, outcome_in, result_in}
use Rattle.turn_code.specs.declared.trouble.Trouble.{Trouble}
use Rattle.turn_code.specs.declared.numbers.ProcessNumber.{ProcessNumber}
use Rattle.turn_code.specs.Run.{run}
use Rattle.turn_code.specs.Effects.{EffectsLaw}
use Rattle.turn_code.specs.Safe.{SafeLaw, RunLaw, RunsWell}
use Rattle.turn_code.specs.Transitions.{Transition, transition_at}
use Rattle.turn_code.specs.Valid.{IsValid, IsValidTransition}
use Rattle.turn_code.specs.declared.draft.Draft.{Draft}
use Rattle.turn_code.specs.declared.input.Place.{Place}
use Rattle.turn_machine.specs.Turn.{Turn, turn_of, outcome_of}
use Rattle.actor_machine.specs.declared.name.ActorName.{ActorName}
use Rattle.actor_machine.specs.Core.{Core, is_out}
use Rattle.actor_machine.specs.Fits.{CoreFits, ActorFits, GivenFits}
use Rattle.actor_machine.specs.Step.{Says, Stepped, step, finish_by, finish_at, result_given, report_of}
use Rattle.actor_machine.specs.Refusals.{refuses, finish_row, with_room}
use Rattle.actor_machine.specs.Ledger.{Ledger, runs, run_of, state_of, refusal_by, asked, ask, ask_by, room, turn_with, turn_given, turn_at, turn_out}
use Rattle.actor_machine.specs.Kept.{IsKept}
use Rattle.actor_machine.specs.Laws.{FinishesWithin, OutLaw, IsSaid}
use Rattle.actor_machine.specs.declared.actor.Actor.{Actor}
use Rattle.actor_machine.specs.declared.actor.Given.{Given}
use Rattle.actor_machine.specs.declared.actor.Standing.{Standing}
use Rattle.actor_machine.specs.declared.actor.Standing.TheVariants.{At, Stopped}
use Rattle.actor_machine.specs.declared.event.Event.{Event}
use Rattle.actor_machine.specs.declared.event.Event.TheVariants.{Offer, Begin, Skip, Finish, Advance, TakeEnv}
use Rattle.actor_machine.specs.declared.reply.Refusal.{Refusal}
use Rattle.actor_machine.specs.declared.reply.Refusal.TheVariants.{Stranger, JournalFull}
use Rattle.actor_machine.specs.declared.reply.Reply.TheVariants as reply
use Rattle.actor_machine.proofs.FitsLists.{name_there}
use Rattle.actor_machine.specs.Receivers.{AreReceived}
use Rattle.actor_machine.proofs.Receiving.{turn_received}
use Rattle.actor_machine.proofs.Replays.{fits_law}

-- the outcome is that of the turn's own run, within its budget
pub record IsEndOf (o : Outcome) (t : Turn) : Type 0 where
  pub ran : outcome_of t ≡ Some o
  pub within : o.progress.count ≤ t.certificate.budget

-- a turn that is out ends; its actor belongs to process p and has this standing
pub record Ends (d : Draft) (p : ℕ) (s : Standing) (g : Option Given) : Type 0 where
  pub outcome : Outcome
  pub ended : result_given (runs d) p s g ≡ Some (Ok outcome)
  pub count : outcome.progress.count ≤ 512
  pub turn : (n : ℕ) (t : Turn) → turn_given d n (record { 0 = p }) s g ≡ Some t → IsEndOf outcome t

turn_is : (n : ℕ) (p : ProcessNumber) (s : Place) (g : Given) (x : Transition) (o : Outcome) (q : Option Transition) → q ≡ Some x
    → outcome_in (run x.piece.code g.input) ≡ Some o → o.progress.count ≤ x.piece.certificate.budget
    → (t : Turn) → turn_with n p s g q ≡ Some t → IsEndOf o t
turn_is n p s g x o q there ran within t h =
    let e : Some (turn_of n g.turn p s g.number x.piece.code x.piece.certificate g.input) ≡ Some t = rw there at h in
    let same : turn_of n g.turn p s g.number x.piece.code x.piece.certificate g.input ≡ t = cc in
    subst (λ (t : Turn). IsEndOf o t) same (record { ran = ran; within = within })

module _ (safe : SafeLaw) (law : RunLaw) (d : Draft) (valid : IsValid d) (p : ℕ) where
  pub ends : (s : Standing) (g : Option Given) → GivenFits d p s g → is_some g ≡ true → Ends d p s g
  unfolding runs
  ends (At s) None f h = cc
  ends (At s) (Some g) f h =
      let sound : IsValidTransition d f.transition = valid.each p s g.number f.transition f.there in
      let well : RunsWell f.transition g.input = law d f.transition g.input sound f.fits in
      let o : Outcome = record { end = well.end; progress = well.progress } in
      let ran : outcome_in (run f.transition.piece.code g.input) ≡ Some o = ap outcome_in well.ran in
      let ends : result_in (run f.transition.piece.code g.input) ≡ Ok o = ap result_in well.ran in
      record {
        outcome = o;
        ended = ap (λ (r : Result Outcome Trouble). Some r) (ap (λ (q : Option Transition). run_of q g.input) f.there ∙ ends);
        count = le_trans well.within (safe.budget d f.transition sound);
        turn = λ n. turn_is n (record { 0 = p }) s g f.transition o (transition_at d p s g.number) f.there ran well.within;
      }
  ends Stopped None f h = cc
  ends Stopped (Some g) f h = absurd f

-- the actor has a turn out that ends, if its finish isn't refused
pub record ActorEnds (d : Draft) (n : ℕ) (w : Core) (o : Option Actor) : Type 0 where
  pub actor : Actor
  pub there : o ≡ Some actor
  pub out : is_out actor ≡ true
  pub outcome : Outcome
  pub ended : finish_at (runs d) n w o ≡ finish_by n actor.name w (Some (Ok outcome))
  pub count : outcome.progress.count ≤ 512
  pub turn : (t : Turn) → turn_at d n o ≡ Some t → IsEndOf outcome t

row_passes : (b : Bool) → (if b then None else Some Stranger) ≡ None → b ≡ true
row_passes true h = refl
row_passes false h = cc

row_from : (b : Bool) → b ≡ true → (if b then None else Some Stranger) ≡ None
row_from true h = refl
row_from false h = cc

actor_ends : SafeLaw → RunLaw → (d : Draft) → IsValid d → (n : ℕ) (w : Core) (o : Option Actor) → ((a : Actor) → o ≡ Some a → ActorFits d a)
    → finish_row o ≡ None → ActorEnds d n w o
actor_ends safe law d valid n w None fits h = cc
actor_ends safe law d valid n w (Some a) fits h =
    let out : is_out a ≡ true = row_passes (is_out a) h in
    let e : Ends d a.name.process.0 a.standing a.given = ends safe law d valid a.name.process.0 a.standing a.given (fits a refl).given out in
    record { actor = a; there = refl; out = out; outcome = e.outcome; ended = ap (finish_by n a.name w) e.ended; count = e.count; turn = e.turn n }

-- if a finish isn't refused, the actor's turn ends
pub turn_ends : SafeLaw → RunLaw → (d : Draft) (w : Core) (n : ℕ) → IsValid d → CoreFits d w → refuses d w (Finish n) ≡ None
    → ActorEnds d n w (slice_get w.actors n)
unfolding refuses
turn_ends safe law d w n valid fits h = actor_ends safe law d valid n w (slice_get w.actors n) (fits.each n) h

-- ---- a finish isn't refused if the actor has a turn out

given_out : (d : Draft) (n : ℕ) (p : ProcessNumber) (s : Standing) (g : Option Given) (t : Turn) → turn_given d n p s g ≡ Some t → is_some g ≡ true
given_out d n p (At s) None t h = cc
given_out d n p (At s) (Some g) t h = refl
given_out d n p Stopped g t h = cc

out_row : (d : Draft) (n : ℕ) (o : Option Actor) (t : Turn) → turn_at d n o ≡ Some t → finish_row o ≡ None
out_row d n None t h = cc
out_row d n (Some a) t h = row_from (is_out a) (given_out d n a.name.process a.standing a.given t h)

turn_row : (d : Draft) (w : Core) (n : ℕ) (t : Turn) → turn_at d n (slice_get w.actors n) ≡ Some t → refuses d w (Finish n) ≡ None
unfolding refuses
turn_row d w n t h = out_row d n (slice_get w.actors n) t h

no_room_asked : (k : ℕ) → (if nat_lt k 0 then Some JournalFull else None) ≡ None
no_room_asked k = rw (le-ltb k 0 (omega arith)) refl

with_no_room : (k n : ℕ) (o : Option Refusal) → o ≡ None → with_room k (Finish n) o ≡ None
with_no_room k n None h = no_room_asked k
with_no_room k n (Some r) h = cc

-- ---- a finish is refused if the actor has no turn out

-- how the turn of an actor and the refusal of its finish depend on each other
pub record OutOrNot (t : Option Turn) (o : Option Refusal) : Type 0 where
  pub stranger : (t ≡ None) ↔ (o ≡ Some Stranger)
  pub own : (x : Turn) → t ≡ Some x → o ≡ None

none_out : (t : Option Turn) (o : Option Refusal) → t ≡ None → o ≡ Some Stranger → OutOrNot t o
none_out t o none refused = record { stranger = (λ _. refused, λ _. none); own = λ x h. absurd (none-some x (sym none ∙ h)) }

one_out : (t : Option Turn) (o : Option Refusal) (x : Turn) → t ≡ Some x → o ≡ None → OutOrNot t o
one_out t o x some passes = record {
  stranger = (λ none. absurd (none-some x (sym none ∙ some)), λ refused. absurd (none-some Stranger (sym passes ∙ refused)));
  own = λ _ _. passes;
}

given_row : (k : ℕ) (d : Draft) (n : ℕ) (p : ProcessNumber) (s : Standing) (g : Option Given) → GivenFits d p.0 s g
    → OutOrNot (turn_given d n p s g) (with_room k (Finish n) (if is_some g then None else Some Stranger))
given_row k d n p (At s) None f = none_out _ _ refl refl
given_row k d n p (At s) (Some g) f = one_out _ _ _ (ap (turn_with n p s g) f.there) (no_room_asked k)
given_row k d n p Stopped None f = none_out _ _ refl refl
given_row k d n p Stopped (Some g) f = absurd f

actor_row : (k : ℕ) (d : Draft) (n : ℕ) (o : Option Actor) → ((a : Actor) → o ≡ Some a → ActorFits d a)
    → OutOrNot (turn_at d n o) (with_room k (Finish n) (finish_row o))
actor_row k d n None fits = none_out _ _ refl refl
actor_row k d n (Some a) fits = given_row k d n a.name.process a.standing a.given (fits a refl).given

out_or_not : (b : Ledger) (n : ℕ) → IsKept b → OutOrNot (turn_out b n) (refusal_by (runs b.set) b (Finish n))
unfolding turn_out refuses
out_or_not b n kept = actor_row (room b (state_of b)) b.set n (slice_get (state_of b).actors n) ((fits_law b kept).each n)

pub out_law : OutLaw
out_law = record { stranger = λ b n kept. (out_or_not b n kept).stranger; own = λ b n t kept. (out_or_not b n kept).own t }

-- ---- the laws

pub asked_answer : (b : Ledger) (e : Event) (s : Stepped) (o : Option Refusal) → o ≡ None → (asked b e s o).answer ≡ s.answer
asked_answer b e s None h = refl
asked_answer b e s (Some r) h = cc

finish_answer : (d : Draft) (w : Core) (n : ℕ) (me : ActorName) (o : Outcome) → finish_at (runs d) n w (slice_get w.actors n) ≡ finish_by n me w (Some (Ok o))
    → (step d (runs d) w (Finish n)).answer ≡ Says (reply.Finished (report_of n me o w))
unfolding step
finish_answer d w n me o h = ap (λ (x : Stepped). x.answer) h

answered : (b : Ledger) (n : ℕ) (me : ActorName) (o : Outcome) → refuses b.set (state_of b) (Finish n) ≡ None
    → finish_at (runs b.set) n (state_of b) (slice_get (state_of b).actors n) ≡ finish_by n me (state_of b) (Some (Ok o))
    → (ask b (Finish n)).answer ≡ Says (reply.Finished (report_of n me o (state_of b)))
unfolding ask_by
answered b n me o h ended =
    asked_answer b (Finish n) (step b.set (runs b.set) (state_of b) (Finish n)) (refusal_by (runs b.set) b (Finish n))
    (with_no_room (room b (state_of b)) n (refuses b.set (state_of b) (Finish n)) h)
    ∙ finish_answer b.set (state_of b) n me o ended

pub finish_law : SafeLaw → RunLaw → EffectsLaw → (b : Ledger) (n : ℕ) (t : Turn) → IsKept b → turn_out b n ≡ Some t → FinishesWithin b n t
unfolding turn_out
finish_law safe law gives_right b n t kept h =
    let passes : refuses b.set (state_of b) (Finish n) ≡ None = turn_row b.set (state_of b) n t h in
    let e : ActorEnds b.set n (state_of b) (slice_get (state_of b).actors n) =
    turn_ends safe law b.set (state_of b) n kept.stands.valid (fits_law b kept) passes in
    let fits : CoreFits b.set (state_of b) = fits_law b kept in
    record {
      outcome = e.outcome;
      ran = (e.turn t h).ran;
      name = e.actor.name;
      called = name_there (state_of b).actors n e.actor e.there;
      answer = answered b n e.actor.name e.outcome passes e.ended;
      within = (e.turn t h).within;
      received = subst (λ (names : List ActorName). AreReceived names e.actor.name e.outcome.progress.effects) (sym fits.names)
          (turn_received gives_right b.set kept.stands.valid n t e.outcome (e.turn t h).ran e.actor.name (slice_get (state_of b).actors n) (fits.each n) h);
    }

said_asked : (b : Ledger) (e : Event) (s : Stepped) (o : Option Refusal) → (o ≡ None → IsSaid s.answer) → IsSaid (asked b e s o).answer
said_asked b e s None h = h refl
said_asked b e s (Some r) h = tt

said_finish : (n : ℕ) (me : ActorName) (w : Core) (o : Outcome) (x : Stepped) → x ≡ finish_by n me w (Some (Ok o)) → IsSaid x.answer
said_finish n me w o x h = subst (λ (x : Stepped). IsSaid x.answer) (sym h) tt

said_step : SafeLaw → RunLaw → (d : Draft) (w : Core) (e : Event) → IsValid d → CoreFits d w → refuses d w e ≡ None
    → IsSaid (step d (runs d) w e).answer
unfolding step
said_step safe law d w (Offer o) valid fits h = tt
said_step safe law d w (Begin n) valid fits h = tt
said_step safe law d w (Skip n) valid fits h = tt
said_step safe law d w (Finish n) valid fits h =
    let e = turn_ends safe law d w n valid fits h in
    said_finish n e.actor.name w e.outcome (finish_at (runs d) n w (slice_get w.actors n)) e.ended
said_step safe law d w (Advance k) valid fits h = tt
said_step safe law d w TakeEnv valid fits h = tt

-- an event that passes the test of the journal's room isn't refused for any other reason
pub passes_otherwise : (k : ℕ) (e : Event) (o : Option Refusal) → with_room k e o ≡ None → o ≡ None
passes_otherwise k e None h = refl
passes_otherwise k e (Some r) h = cc

pub never_stuck_law : SafeLaw → RunLaw → (b : Ledger) (e : Event) → IsKept b → IsSaid (ask b e).answer
unfolding ask_by
never_stuck_law safe law b e kept =
    said_asked b e (step b.set (runs b.set) (state_of b) e) (refusal_by (runs b.set) b e)
    (λ h. said_step safe law b.set (state_of b) e kept.stands.valid (fits_law b kept)
    (passes_otherwise (room b (state_of b)) e (refuses b.set (state_of b) e) h))
