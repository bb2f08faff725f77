-- The turn that an actor has out once it has begun one.
use Rattle.std.proofs.Common.{◌≡◌, ℕ, zero, suc, List, [], ◌∷◌, Option, Some, None, refl, sym, ap, ◌∙◌, subst}
use Rattle.std.specs.Prelude.{slice_get, slice_set}
use Rattle.turn_code.specs.Transitions.{Transition, transition_at}
use Rattle.turn_code.specs.declared.input.Place.{Place}
use Rattle.turn_code.specs.declared.draft.Draft.{Draft}
use Rattle.turn_machine.specs.Turn.{Turn}
use Rattle.turn_code.specs.declared.numbers.ProcessNumber.{ProcessNumber}
use Rattle.actor_machine.specs.Core.{Core, set_at, change}
use Rattle.actor_machine.specs.Fits.{CoreFits, ActorFits, GivenFits}
use Rattle.actor_machine.specs.Kept.{IsKept}
use Rattle.actor_machine.specs.Laws.{FitsLaw, StateLaw, SetLaw}
use Rattle.actor_machine.specs.Ledger.{Ledger, runs, state_of, ask, turn_with, turn_given, turn_at, turn_out}
use Rattle.actor_machine.specs.Looking.{looks, number_in, begun, given_now}
use Rattle.actor_machine.specs.Step.{Says, step, place_of, begin_reply, begun_now}
use Rattle.actor_machine.specs.declared.actor.Actor.{Actor}
use Rattle.actor_machine.specs.declared.actor.Given.{Given}
use Rattle.actor_machine.specs.declared.actor.Standing.{Standing}
use Rattle.actor_machine.specs.declared.actor.Standing.TheVariants.{At, Stopped}
use Rattle.actor_machine.specs.declared.event.Event.TheVariants.{Begin}
use Rattle.actor_machine.specs.declared.reply.Begun.{Begun}
use Rattle.actor_machine.specs.declared.reply.Reply.TheVariants as reply
use Rattle.actor_book.specs.Accepted.{Takes}
use Rattle.actor_book.specs.Answered.{begun_of, begun_by}
use Rattle.actor_book.proofs.Ending.{AreOut, out_given}
use Rattle.actor_book.proofs.Passing.{MayBegin, may_begin}
use Rattle.actor_book.proofs.Taking.{link_takes, answers}

set_there : (xs : List Actor) (n : ℕ) (a b : Actor) → slice_get xs n ≡ Some a → slice_get (slice_set xs n b) n ≡ Some b
set_there [] n a b h = absurd (cc)
set_there (x ∷ xs) zero a b h = refl
set_there (x ∷ xs) (suc n) a b h = set_there xs n a b h

changed_from : (xs : List Actor) (n : ℕ) (f : Actor → Actor) (a : Actor) (o : Option Actor) → slice_get xs n ≡ o → o ≡ Some a
    → slice_get (set_at xs n f o) n ≡ Some (f a)
changed_from xs n f a None e h = absurd (cc)
changed_from xs n f a (Some x) e h = let same : x ≡ a = cc in set_there xs n x (f x) e ∙ ap (λ (y : Actor). Some (f y)) same

changed_there : (xs : List Actor) (n : ℕ) (f : Actor → Actor) (a : Actor) → slice_get xs n ≡ Some a → slice_get (change xs n f) n ≡ Some (f a)
changed_there xs n f a h = changed_from xs n f a (slice_get xs n) refl h

never_none : (n : ℕ) (p : ProcessNumber) (s : Place) (g : Given) (q : Option Transition) (t : Transition) → q ≡ Some t → turn_with n p s g q ≡ None → ⊥
never_none n p s g None t h e = absurd (cc)
never_none n p s g (Some x) t h e = absurd (cc)

given_out : (d : Draft) (n : ℕ) (p : ProcessNumber) (s : Standing) (g : Given) → GivenFits d p.0 s (Some g) → turn_given d n p s (Some g) ≡ None → ⊥
given_out d n p (At s) g f e = never_none n p s g (transition_at d p.0 s g.number) f.transition f.there e
given_out d n p Stopped g f e = f

begun_given : (d : Draft) (n turn : ℕ) (a : Actor) → turn_at d n (Some (begun d turn a)) ≡ turn_given d n a.name.process a.standing (Some (given_now d turn a))
unfolding begun
begun_given d n turn a = refl

fits_begun : (d : Draft) (turn : ℕ) (a : Actor) → ActorFits d (begun d turn a) → GivenFits d a.name.process.0 a.standing (Some (given_now d turn a))
unfolding begun
fits_begun d turn a f = f.given

module _ (state : StateLaw) (sets : SetLaw) (b : Ledger) (n : ℕ) (takes : Takes b (Begin n)) where
  may : MayBegin b.set (state_of b) n
  may = may_begin b.set (state_of b) n (link_takes b (Begin n) takes)

  actors_after : (state_of (ask b (Begin n)).book).actors ≡ change (state_of b).actors n (begun b.set (state_of b).turns)
  unfolding step
  actors_after = ap (λ (w : Core). w.actors) (state b (Begin n) takes)

  actor_after : slice_get (state_of (ask b (Begin n)).book).actors n ≡ Some (begun b.set (state_of b).turns may.actor)
  actor_after = ap (λ (xs : List Actor). slice_get xs n) actors_after
      ∙ changed_there (state_of b).actors n (begun b.set (state_of b).turns) may.actor may.there

  out_after : turn_out (ask b (Begin n)).book n ≡ turn_given b.set n may.actor.name.process may.actor.standing (Some (given_now b.set (state_of b).turns may.actor))
  unfolding turn_out
  out_after = ap (λ (d : Draft). turn_at d n (slice_get (state_of (ask b (Begin n)).book).actors n)) (sets.asks b (Begin n))
      ∙ ap (turn_at b.set n) actor_after
      ∙ begun_given b.set n (state_of b).turns may.actor

  pub has_begun : FitsLaw → IsKept (ask b (Begin n)).book → turn_out (ask b (Begin n)).book n ≡ None → ⊥
  has_begun fits kept h =
      let core : CoreFits (ask b (Begin n)).book.set (state_of (ask b (Begin n)).book) = fits (ask b (Begin n)).book kept in
      let actor : ActorFits (ask b (Begin n)).book.set (begun b.set (state_of b).turns may.actor) =
      core.each n (begun b.set (state_of b).turns may.actor) actor_after in
      let own : ActorFits b.set (begun b.set (state_of b).turns may.actor) =
      subst (λ (d : Draft). ActorFits d (begun b.set (state_of b).turns may.actor)) (sets.asks b (Begin n)) actor in
      given_out b.set n may.actor.name.process may.actor.standing (given_now b.set (state_of b).turns may.actor) (fits_begun b.set (state_of b).turns may.actor own)
      (sym out_after ∙ h)

abbrev begun_at : ℕ → Place → ℕ → Begun
begun_at turn place number = record { turn = turn; place = place; number = number }

given_is : (d : Draft) (n turn : ℕ) (a : Actor) (t : Turn) → turn_given d n a.name.process a.standing (Some (given_now d turn a)) ≡ Some t
    → begun_of t ≡ begun_now d turn a
unfolding given_now
given_is d n turn a t h =
    let out : AreOut d n a.name.process a.standing (Some (given_now d turn a)) t = out_given d n a.name.process a.standing (Some (given_now d turn a)) t h in
    let same : given_now d turn a ≡ out.given = cc in
    let place : place_of a.standing ≡ out.place = ap place_of out.standing in
    ap begun_of out.turn
    ∙ ap (λ (g : Given). begun_at g.turn out.place g.number) (sym same)
    ∙ ap (λ (p : Place). begun_at turn p (number_in (looks d a))) (sym place)

module _ (state : StateLaw) (sets : SetLaw) (b : Ledger) (n : ℕ) (takes : Takes b (Begin n)) where
  reply_is : (b : Ledger) (n : ℕ) (a : Actor) → slice_get (state_of b).actors n ≡ Some a
      → (step b.set (runs b.set) (state_of b) (Begin n)).answer ≡ Says (reply.Begun (begun_now b.set (state_of b).turns a))
  unfolding step
  reply_is b n a h = ap (λ (o : Option Actor). Says (begin_reply b.set (state_of b).turns o)) h

  pub begin_answer : (t : Turn) → turn_out (ask b (Begin n)).book n ≡ Some t → Says (begun_by t) ≡ (ask b (Begin n)).answer
  begin_answer t h =
      let may : MayBegin b.set (state_of b) n = may state sets b n takes in
      let out : turn_given b.set n may.actor.name.process may.actor.standing (Some (given_now b.set (state_of b).turns may.actor)) ≡ Some t =
      sym (out_after state sets b n takes) ∙ h in
      ap (λ (x : Begun). Says (reply.Begun x)) (given_is b.set n (state_of b).turns may.actor t out)
      ∙ sym (reply_is b n may.actor may.there)
      ∙ sym (answers b (Begin n) takes)
