-- Turns of actors, from beginning to end.
use Rattle.std.proofs.Common.{◌≡◌, ℕ, ◌≤◌, List, Option, Some, None, refl, sym, ap, ◌∙◌, subst}
use Rattle.std.specs.Prelude.{IsSome, slice_get}
use Rattle.turn_code.specs.Outcome.{outcome_in}
use Rattle.turn_code.specs.Transitions.{transition_at}
use Rattle.turn_code.specs.declared.value.Value.{Value}
use Rattle.turn_code.specs.declared.effect.Effect.{Effect}
use Rattle.turn_code.specs.declared.numbers.ProcessNumber.{ProcessNumber}
use Rattle.turn_code.specs.declared.input.Place.{Place}
use Rattle.turn_code.specs.declared.machine.End.{End}
use Rattle.turn_code.specs.declared.machine.Machine.{Machine}
use Rattle.turn_code.specs.declared.draft.Draft.{Draft}
use Rattle.turn_machine.specs.Ends.{EndsSo}
use Rattle.turn_machine.specs.Turn.{Turn, turn_of}
use Rattle.actor_machine.specs.Core.{Core}
use Rattle.actor_machine.specs.Laws.{StateLaw, SetLaw}
use Rattle.actor_machine.specs.Ledger.{Ledger, state_of, turn_with, turn_at, turn_out}
use Rattle.actor_machine.specs.declared.actor.Actor.{Actor}
use Rattle.actor_machine.specs.declared.actor.Given.{Given}
use Rattle.actor_machine.specs.declared.event.Event.TheVariants.{Begin}
use Rattle.actor_book.specs.Accepted.{Takes}
use Rattle.actor_book.specs.Inside.{IsBook}
use Rattle.actor_book.specs.Whole.{begun_book, HasTurned, EndsBy, IsEnding, TookWithin}
use Rattle.actor_book.proofs.Beginning.{begin_answer}

pub some_of : (o : Option Turn) → (o ≡ None → ⊥) → IsSome o
some_of None h = absurd (h refl)
some_of (Some t) h = refl

pub none_of : (o : Option Turn) → o ≡ None → IsSome o → ⊥
none_of None e h = absurd (cc)
none_of (Some t) e h = absurd (cc)

pub none_at : (o p : Option Turn) → p ≡ None → o ≡ p → IsSome o → ⊥
none_at o p e h some = none_of o (h ∙ e) some

pub the_turn : (o : Option Turn) → IsSome o → (t : Turn) × (o ≡ Some t)
the_turn None h = absurd (cc)
the_turn (Some t) h = (t, refl)

-- a given turn that ran with its code in place
pub ends_with : (d : Draft) (n : ℕ) (p : ProcessNumber) (s : Place) (g : Given) (e : End) (m : Machine) → EndsSo d p.0 s g.number g.input e m
    → IsEnding (turn_with n p s g (transition_at d p.0 s g.number)) e m
ends_with d n p s g e m h = record {
  turn = turn_of n g.turn p s g.number h.transition.piece.code h.transition.piece.certificate g.input;
  is = ap (turn_with n p s g) h.there;
  ran = ap outcome_in h.ran;
  within = h.within;
  few = h.few;
}

pub same_turn : (o p : Option Turn) (e : End) (m : Machine) → o ≡ p → IsEnding o e m → IsEnding p e m
same_turn o p e m h ends = subst (λ (x : Option Turn). IsEnding x e m) h ends

pub turn_is : (b old : Ledger) (w : Core) (c : ℕ) → b ≡ old → IsBook b w c → (xs : List Actor) (n : ℕ) → xs ≡ w.actors
    → turn_at b.set n (slice_get xs n) ≡ turn_out old n
unfolding turn_out
turn_is b old w c view inside xs n h =
    ap (λ (ys : List Actor). turn_at b.set n (slice_get ys n)) (h ∙ ap (λ (x : Core). x.actors) inside.state)
    ∙ ap (λ (x : Ledger). turn_at x.set n (slice_get (state_of x).actors n)) view

-- the turn that is out in the link in memory is the book's
pub out_at : (b old : Ledger) (w : Core) (c : ℕ) → b ≡ old → IsBook b w c → (xs : List Actor) (n : ℕ) → xs ≡ w.actors
    → IsSome (turn_out old n) → IsSome (turn_at b.set n (slice_get xs n))
out_at b old w c view inside xs n h some = subst (λ (o : Option Turn). IsSome o) (sym (turn_is b old w c view inside xs n h)) some

-- and so is its end, with the variables and effects under other names
pub ends_out : (b old : Ledger) (w : Core) (c : ℕ) → b ≡ old → IsBook b w c → (xs : List Actor) (n : ℕ) → xs ≡ w.actors → (e : End) (m : Machine)
    → (vs : List (Option Value)) (es : List Effect) → vs ≡ m.variables.items → es ≡ m.effects.items
    → IsEnding (turn_at b.set n (slice_get xs n)) e m → EndsBy (turn_out old n) e vs es m.count
ends_out b old w c view inside xs n h e m vs es hv he ends =
    let own : EndsBy (turn_out old n) e m.variables.items m.effects.items m.count =
    same_turn (turn_at b.set n (slice_get xs n)) (turn_out old n) e m (turn_is b old w c view inside xs n h) ends in
    subst (λ (us : List (Option Value)). EndsBy (turn_out old n) e us es m.count) (sym hv)
    (subst (λ (fs : List Effect). EndsBy (turn_out old n) e m.variables.items fs m.count) (sym he) own)

pub took : (o : Option Turn) (e : End) (vs : List (Option Value)) (es : List Effect) (count report : ℕ) → report ≡ count → EndsBy o e vs es count
    → TookWithin o report
took o e vs es count report h ends = record {
  turn = ends.turn;
  is = ends.is;
  within = subst (λ (k : ℕ). k ≤ ends.turn.certificate.budget) (sym h) ends.within;
}

-- a turn that began and took so many instructions
pub has_turned : StateLaw → SetLaw → (b : Ledger) (n count : ℕ) → Takes b (Begin n) → TookWithin (turn_out (begun_book b n) n) count → HasTurned b n count
has_turned state sets b n count takes t = record {
  turn = t.turn;
  out = t.is;
  began = sym (begin_answer state sets b n takes t.turn t.is);
  within = t.within;
}
