-- Turns that a room holds.
use Rattle.std.proofs.Common.{◌≡◌, ℕ, ◌≤◌, List, Option, Some, None, sym, ap, ◌∙◌, subst}
use Rattle.std.specs.Prelude.{slice_get}
use Rattle.std.proofs.lemmas.Option.{same_Some}
use Rattle.turn_code.specs.Outcome.{outcome_in}
use Rattle.turn_code.specs.Transitions.{transition_at}
use Rattle.turn_code.specs.declared.value.Value.{Value}
use Rattle.turn_code.specs.declared.effect.Effect.{Effect}
use Rattle.turn_code.specs.declared.numbers.ProcessNumber.{ProcessNumber}
use Rattle.turn_code.specs.declared.input.Place.{Place}
use Rattle.turn_code.specs.declared.machine.End.{End}
use Rattle.turn_code.specs.declared.machine.Machine.{Machine}
use Rattle.turn_code.specs.declared.draft.Draft.{Draft}
use Rattle.turn_machine.specs.Rooms.{Lying, Free, Begun, Ran, HasRun, EndedSo, LiesBegun}
use Rattle.turn_machine.specs.Turn.{Turn}
use Rattle.turn_machine.specs.declared.ended.Ended.{Ended}
use Rattle.actor_machine.specs.Core.{Core}
use Rattle.actor_machine.specs.Laws.{StateLaw, SetLaw}
use Rattle.actor_machine.specs.Ledger.{Ledger, ask, turn_with, turn_at, turn_out}
use Rattle.actor_machine.specs.Step.{Says}
use Rattle.actor_machine.specs.declared.actor.Actor.{Actor}
use Rattle.actor_machine.specs.declared.actor.Given.{Given}
use Rattle.actor_machine.specs.declared.event.Event.TheVariants.{Begin, Finish}
use Rattle.actor_machine.specs.declared.reply.Report.{Report}
use Rattle.actor_machine.specs.declared.reply.Reply.TheVariants as reply
use Rattle.actor_book.specs.Accepted.{Takes}
use Rattle.actor_book.specs.Inside.{IsBook}
use Rattle.actor_book.specs.Meant.{FinishesByText}
use Rattle.actor_book.specs.Roomed.{LiesOut, BeginsThere, IsOutThere, HasOutThere, EndsThere}
use Rattle.actor_book.specs.Whole.{EndsBy, IsEnding, TookWithin}
use Rattle.actor_book.proofs.Beginning.{begin_answer}
use Rattle.actor_book.proofs.Turning.{turn_is}

-- ---- a turn begins

pub lies_with : (d : Draft) (n : ℕ) (p : ProcessNumber) (s : Place) (g : Given) (r : Lying) → LiesBegun d n g.turn p s g.number g.input r
    → LiesOut (turn_with n p s g (transition_at d p.0 s g.number)) r
lies_with d n p s g r h = record {
  turn = h.job;
  is = ap (turn_with n p s g) h.begins.there ∙ ap (λ (t : Turn). Some t) (sym h.begins.is);
  lies = h.lies;
}

-- the turn in the room is the one that is out in the book
pub lies_out : (b old : Ledger) (w : Core) (c : ℕ) → b ≡ old → IsBook b w c → (xs : List Actor) (n : ℕ) → xs ≡ w.actors → (r : Lying)
    → LiesOut (turn_at b.set n (slice_get xs n)) r → LiesOut (turn_out old n) r
lies_out b old w c view inside xs n h r lies = subst (λ (o : Option Turn). LiesOut o r) (turn_is b old w c view inside xs n h) lies

pub begins_there : StateLaw → SetLaw → (b c : Ledger) (n : ℕ) (r : Lying) → Takes b (Begin n) → c ≡ (ask b (Begin n)).book → LiesOut (turn_out c n) r
    → BeginsThere b n c r
begins_there state sets b c n r takes h l = record {
  turn = l.turn;
  lies = l.lies;
  out = l.is;
  began = sym (begin_answer state sets b n takes l.turn (ap (λ (x : Ledger). turn_out x n) (sym h) ∙ l.is));
}

-- ---- a turn ends

pub none_there : (b : Ledger) (r : Lying) → (HasRun r → ⊥) → IsOutThere b r → ⊥
none_there b Free not out = absurd out
none_there b (Begun t) not out = absurd out
none_there b (Ran t) not out = not tt

pub is_ending : (b : Ledger) (r : Lying) (n : ℕ) (e : Ended) → HasOutThere b r n → EndedSo r e → IsEnding (turn_out b n) e.end e.machine
is_ending b Free n e h k = absurd h
is_ending b (Begun t) n e h k = absurd h
is_ending b (Ran t) n e h k = record { turn = t; is = h.1; ran = ap outcome_in k.ran; within = k.within; few = k.few }

-- its variables and effects, under other names
pub seen_so : (o : Option Turn) (e : End) (m : Machine) (vs : List (Option Value)) (es : List Effect) → vs ≡ m.variables.items → es ≡ m.effects.items
    → IsEnding o e m → EndsBy o e vs es m.count
seen_so o e m vs es hv he ends =
    subst (λ (us : List (Option Value)). EndsBy o e us es m.count) (sym hv)
    (subst (λ (fs : List Effect). EndsBy o e m.variables.items fs m.count) (sym he) ends)

pub ends_there : (b c : Ledger) (r : Lying) (n : ℕ) (report : Report) → HasOutThere b r n → c ≡ (ask b (Finish n)).book
    → Says (reply.Finished report) ≡ (ask b (Finish n)).answer → FinishesByText b n report c → TookWithin (turn_out b n) report.count → EndsThere b r report c
ends_there b c Free n report h book answer text took = absurd h
ends_there b c (Begun t) n report h book answer text took = absurd h
ends_there b c (Ran t) n report h book answer text took = record {
  book = book ∙ ap (λ (k : ℕ). (ask b (Finish k)).book) (sym h.0);
  answers = ap (λ (k : ℕ). (ask b (Finish k)).answer) h.0 ∙ sym answer;
  by_text = subst (λ (k : ℕ). FinishesByText b k report c) (sym h.0) text;
  within = subst (λ (x : Turn). report.count ≤ x.certificate.budget) (same_Some took.turn t (sym took.is ∙ h.1)) took.within;
}
