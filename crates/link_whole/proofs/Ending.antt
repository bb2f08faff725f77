-- The answer to each event is as the text says: a turn that ends has the result that the text's transition means.
use Rattle.std.proofs.Common.{◌≡◌, ℕ, zero, suc, List, [], ◌∷◌, Option, Some, None, refl, sym, ap, ◌∙◌, subst}
use Rattle.std.specs.Prelude.{◌↔◌, Ok, slice_get}
use Rattle.std.proofs.lemmas.Option.{same_Some}
use Rattle.sdl_ast.specs.Plain.{PlainBlock}
use Rattle.turn_code.specs.Fits.{FitsTransition}
use Rattle.turn_code.specs.Outcome.{Outcome, outcome_in, result_in}
use Rattle.turn_code.specs.Run.{Ran, ended, got_stuck, unfinished, run}
use Rattle.turn_code.specs.Safe.{SafeLaw, RunLaw}
use Rattle.turn_code.specs.Transitions.{Transition, transition_at}
use Rattle.turn_code.specs.declared.effect.Effect.{Effect}
use Rattle.turn_code.specs.declared.effect.Effect.TheVariants.{Output}
use Rattle.turn_code.specs.declared.effect.Sending.{Sending}
use Rattle.turn_code.specs.declared.input.Place.{Place}
use Rattle.turn_code.specs.declared.draft.Draft.{Draft}
use Rattle.turn_code.specs.declared.numbers.ProcessNumber.{ProcessNumber}
use Rattle.turn_verify.specs.Meant.{IsSetOfBlock, IsCertifiedBy, meaning_of}
use Rattle.actor_book.specs.Schedules.{used_in}
use Rattle.actor_book.specs.Turn.{Turn, turn_of}
use Rattle.actor_book.proofs.Rooming.{IsNoOffer, never_full, told_of_room}
use Rattle.actor_machine.specs.Core.{Core, names_in}
use Rattle.actor_machine.specs.Fits.{CoreFits, ActorFits, GivenFits}
use Rattle.actor_machine.specs.Full.{FullLaw, MeetsFull}
use Rattle.actor_machine.specs.Ledger.{Ledger, runs, ask, turn_out, turn_at, turn_given, turn_with, state_of}
use Rattle.actor_machine.specs.Kept.{IsKept}
use Rattle.actor_machine.specs.Laws.{StateLaw, FitsLaw, FinishLaw, OutLaw, FinishesWithin}
use Rattle.actor_machine.specs.Step.{Says, report_of}
use Rattle.actor_machine.specs.declared.name.ActorName.{ActorName}
use Rattle.actor_machine.specs.declared.actor.Actor.{Actor}
use Rattle.actor_machine.specs.declared.actor.Given.{Given}
use Rattle.actor_machine.specs.declared.actor.Standing.{Standing}
use Rattle.actor_machine.specs.declared.actor.Standing.TheVariants.{At, Stopped}
use Rattle.actor_machine.specs.declared.event.Event.{Event}
use Rattle.actor_machine.specs.declared.event.Event.TheVariants.{Offer, Begin, Skip, Finish, Advance, TakeEnv}
use Rattle.actor_machine.specs.declared.event.Offer.{Offer as Offered}
use Rattle.actor_machine.specs.declared.reply.Refusal.TheVariants.{Full}
use Rattle.actor_machine.specs.declared.reply.Reply.{Reply}
use Rattle.actor_machine.specs.declared.reply.Reply.TheVariants as reply
use Rattle.actor_machine.specs.Receivers.{AreReceived, HasReceiver, IsReceived}
use Rattle.actor_machine.proofs.FitsLists.{name_is}
use Rattle.link_whole.proofs.Consuming.{begins_as_read, skips_as_read}
use Rattle.link_whole.specs.Answered.{IsForFullPort, AreLost, EndsAsMeant, IsByText, IsAnswered}

-- the run of a turn of process p is what the text means, and its certificate is the text's
record IsOfText (b : PlainBlock) (p : ℕ) (t : Turn) : Type 0 where
  pub meant : meaning_of b p t.place t.input_number t.input ≡ result_in (run t.code t.input)
  pub longest : IsCertifiedBy b p t.place t.input_number t.certificate

module _ (b : PlainBlock) (d : Draft) (is_set : IsSetOfBlock b d) (n : ℕ) (t : Turn) where
  of_transition : (p : ProcessNumber) (s : Place) (g : Given) (x : Transition) (o : Option Transition) → transition_at d p.0 s g.number ≡ Some x
      → FitsTransition d x g.input → o ≡ Some x → turn_with n p s g o ≡ Some t → IsOfText b p.0 t
  of_transition p s g x o there fits same h =
      let made : Turn = turn_of n g.turn p s g.number x.piece.code x.piece.certificate g.input in
      let e : Some made ≡ Some t = rw same at h in
      let is : made ≡ t = same_Some made t e in
      subst (λ (t : Turn). IsOfText b p.0 t) is (record {
        meant = is_set.means p.0 s g.number x g.input there fits;
        longest = is_set.certified.each p.0 s g.number x there;
      })

  of_given : (p : ProcessNumber) (s : Standing) (g : Option Given) → GivenFits d p.0 s g → turn_given d n p s g ≡ Some t → IsOfText b p.0 t
  of_given p (At s) None f h = cc
  of_given p (At s) (Some g) f h = of_transition p s g f.transition (transition_at d p.0 s g.number) f.there f.fits f.there h
  of_given p Stopped g f h = cc

  of_actor : (me : ActorName) (o : Option Actor) → ((a : Actor) → o ≡ Some a → ActorFits d a) → ((a : Actor) → o ≡ Some a → a.name ≡ me)
      → turn_at d n o ≡ Some t → IsOfText b me.process.0 t
  of_actor me None fits named h = cc
  of_actor me (Some a) fits named h =
      subst (λ (x : ActorName). IsOfText b x.process.0 t) (named a refl) (of_given a.name.process a.standing a.given (fits a refl).given h)

of_turn : (b : PlainBlock) (k : Ledger) (n : ℕ) (t : Turn) (me : ActorName) → IsSetOfBlock b k.set → CoreFits k.set (state_of k)
    → slice_get (names_in (state_of k).actors) n ≡ Some me → turn_out k n ≡ Some t → IsOfText b me.process.0 t
unfolding turn_out
of_turn b k n t me is_set fits called h =
    of_actor b k.set is_set n t me (slice_get (state_of k).actors n) (fits.each n) (λ a there. name_is (state_of k).actors n a me there called) h

-- the result of a run is its outcome, if it has one
ended_so : (r : Ran) (o : Outcome) → outcome_in r ≡ Some o → result_in r ≡ Ok o
ended_so (ended e s) o h = cc
ended_so (got_stuck x) o h = cc
ended_so unfinished o h = cc

-- the losses of a turn whose outputs all have receivers
received_at : (names : List ActorName) (me : ActorName) (es : List Effect) (place : ℕ) (s : Sending) → AreReceived names me es
    → slice_get es place ≡ Some (Output s) → HasReceiver names me s.receiver.party s.receiver.instance
received_at names me [] place s all h = cc
received_at names me (e ∷ es) zero s all h = let same : e ≡ Output s = cc in subst (λ (x : Effect). IsReceived names me x) same all.0
received_at names me (e ∷ es) (suc place) s all h = received_at names me es place s all.1 h

are_lost : FullLaw → (w : Core) (n : ℕ) (me : ActorName) (o : Outcome) → AreReceived (names_in w.actors) me o.progress.effects
    → AreLost w n me o (report_of n me o w).lost.items
are_lost full w n me o received = record {
  port = λ place s there. full.port w n me o place s there;
  environment = λ place s there. full.environment w n me o place s there;
  stopped = λ place s there. full.stopped w n me o place s there (received_at (names_in w.actors) me o.progress.effects place s received there);
  order = full.order w n me o;
}

said_reply : (x y : Reply) → Says x ≡ Says y → x ≡ y
said_reply x y h = cc

module _ (outs : OutLaw) (states : StateLaw) (fits : FitsLaw) (finishes : FinishLaw) (full : FullLaw) (safe : SafeLaw) (law : RunLaw) (b : PlainBlock) where
  module _ (k : Ledger) (r : Reply) (is_set : IsSetOfBlock b k.set) (kept : IsKept k) where
    ends_as_meant : (n : ℕ) → (ask k (Finish n)).answer ≡ Says r → (t : Turn) → turn_out k n ≡ Some t → EndsAsMeant b k n t r
    ends_as_meant n is t out =
        let f : FinishesWithin k n t = finishes k n t kept out in
        let core : CoreFits k.set (state_of k) = fits k kept in
        let x : IsOfText b f.name.process.0 t = of_turn b k n t f.name is_set core f.called out in record {
          outcome = f.outcome;
          name = f.name;
          called = subst (λ (names : List ActorName). slice_get names n ≡ Some f.name) core.names f.called;
          meant = x.meant ∙ ended_so (run t.code t.input) f.outcome f.ran;
          received = subst (λ (names : List ActorName). AreReceived names f.name f.outcome.progress.effects) core.names f.received;
          answer = said_reply r (reply.Finished (report_of n f.name f.outcome (state_of k))) (sym is ∙ f.answer);
          lost = are_lost full (state_of k) n f.name f.outcome f.received;
          within = f.within;
          longest = x.longest;
        }

    full_so : (o : Offered) → (ask k (Offer o)).answer ≡ Says r → (r ≡ reply.Refused Full) ↔ MeetsFull k.set (state_of k).actors o
    full_so o is =
        let both = full.offer (runs k.set) k o in
        ((λ h. both.0 (is ∙ ap (λ (x : Reply). Says x) h)), (λ meets. said_reply r (reply.Refused Full) (sym is ∙ both.1 meets)))

    never : (e : Event) → IsNoOffer e → (ask k e).answer ≡ Says r → (r ≡ reply.Refused Full) ↔ ⊥
    never e other is = ((λ h. never_full outs finishes safe law k e r kept is other h), (λ x. absurd x))

    full_at : (e : Event) → (ask k e).answer ≡ Says r → (r ≡ reply.Refused Full) ↔ IsForFullPort k e
    full_at (Offer o) is = full_so o is
    full_at (Begin n) is = never (Begin n) tt is
    full_at (Skip n) is = never (Skip n) tt is
    full_at (Finish n) is = never (Finish n) tt is
    full_at (Advance ticks) is = never (Advance ticks) tt is
    full_at TakeEnv is = never TakeEnv tt is

    by_text : (e : Event) → (ask k e).answer ≡ Says r → IsByText b k e r
    by_text (Offer o) is = tt
    by_text (Begin n) is = begins_as_read outs states fits finishes safe law b k r is_set.matches kept n is
    by_text (Skip n) is = skips_as_read outs states fits finishes safe law b k r is_set.matches kept n is
    by_text (Finish n) is = ends_as_meant n is
    by_text (Advance ticks) is = tt
    by_text TakeEnv is = tt

  pub is_answered : (k : Ledger) (e : Event) (r : Reply) → IsSetOfBlock b k.set → IsKept k → (ask k e).answer ≡ Says r
      → IsAnswered b k.limit (used_in k) k e r
  is_answered k e r is_set kept is = record {
    full = full_at k r is_set kept e is;
    room = told_of_room outs finishes safe law k e r kept is;
    text = by_text k r is_set kept e is;
  }
