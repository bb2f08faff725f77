-- Each step of a book keeps its invariant.
use Rattle.std.proofs.Common.{◌≡◌, ℕ, ◌+◌, ◌^◌, ◌≤◌, Bool, false, cond, List, [], ◌∷◌, ◌++◌, length, Option, Some, None, refl, sym, ap, ◌∙◌, subst, arith}
use Rattle.std.specs.Prelude.{count_by}
use Rattle.std.proofs.lemmas.List.Sums.{sum_by-cons, sum_by_push}
use Rattle.turn_code.specs.Effects.{EffectsLaw}
use Rattle.turn_code.specs.Safe.{SafeLaw, RunLaw}
use Rattle.turn_code.specs.Valid.{IsValid}
use Rattle.turn_code.specs.declared.draft.Draft.{Draft}
use Rattle.turn_code.specs.declared.draft.DraftProcess.{DraftProcess}
use Rattle.std.specs.List.{AllByRecursion}
use Rattle.tick_wheel.specs.Timers.{DueLaw}
use Rattle.actor_machine.specs.Core.{Core, is_out, outs}
use Rattle.actor_machine.specs.declared.actor.Actor.{Actor}
use Rattle.actor_machine.proofs.Opened.{opened_all}
use Rattle.actor_machine.specs.Fits.{CoreFits}
use Rattle.actor_machine.specs.Step.{Stepped, step}
use Rattle.actor_machine.specs.Refusals.{refuses}
use Rattle.actor_machine.specs.Ledger.{Ledger, runs, state_of, refusal_by, asked, ask, ask_by, room, rebased, after_by}
use Rattle.actor_machine.specs.Kept.{Stands, IsBounded, AreNumbered, AreSilent, IsKept, is_finish, opened_from, opened, opened_book}
use Rattle.actor_machine.specs.Laws.{WithinAt, AllWithin}
use Rattle.actor_machine.specs.declared.event.Event.{Event}
use Rattle.actor_machine.specs.declared.event.Event.TheVariants.{Offer, Begin, Skip, Finish, Advance, TakeEnv}
use Rattle.actor_machine.specs.declared.reply.Refusal.{Refusal}
use Rattle.actor_machine.proofs.Replays.{with_event, ask_set, state_more, fits_law}
use Rattle.actor_machine.proofs.Ends.{passes_otherwise, finish_law}
use Rattle.actor_machine.proofs.Texts.{StepFits, fits_next}
use Rattle.actor_machine.proofs.Counts.{weight}
use Rattle.actor_machine.proofs.Numbers.{numbered_step, numbered_opened}
use Rattle.actor_machine.proofs.Silence.{silent_step, silent_opened}
use Rattle.actor_machine.proofs.Bounds.{IsCounted, Moves, moves, room_passes, bounded_next}

-- ---- an event

counted : (b : Ledger) (w : Core) → IsBounded b w → IsCounted w
counted b w h = record { turns = h.turns; finishes = h.finishes; instructions = h.instructions; clock = h.clock }

finishes_more : (es : List Event) (e : Event) (base now next : ℕ) → now ≡ base + count_by is_finish es
    → next ≡ now + cond (is_finish e) 1 0 → next ≡ base + count_by is_finish (es ++ e ∷ [])
finishes_more es e base now next h k =
    let one : count_by is_finish (es ++ e ∷ []) ≡ count_by is_finish es + cond (is_finish e) 1 0 =
    sum_by_push (λ (x : Event). cond (is_finish x) 1 0) es e in
    omega arith

module _ (steps : StepFits) (due : DueLaw) (safe : SafeLaw) (law : RunLaw) where
  stands_next : (b : Ledger) (e : Event) → IsKept b → refusal_by (runs b.set) b e ≡ None
      → Moves e (step b.set (runs b.set) (state_of b) e).to (state_of b) → Stands (with_event b e)
  stands_next b e h passes m = record {
    valid = h.stands.valid;
    along = fits_next steps b e h.stands.valid h.stands.along passes;
    finishes = finishes_more b.journal e b.base.finishes (state_of b).finishes (state_of (with_event b e)).finishes h.stands.finishes
        (ap (λ (w : Core). w.finishes) (state_more b e) ∙ m.finishes);
  }

  kept_next : (b : Ledger) (e : Event) → IsKept b → refusal_by (runs b.set) b e ≡ None → IsKept (with_event b e)
  kept_next b e h passes =
      let m : Moves e (step b.set (runs b.set) (state_of b) e).to (state_of b) =
      moves safe law b.set (state_of b) e h.stands.valid (fits_law b h)
      (passes_otherwise (room b (state_of b)) e (refuses b.set (state_of b) e) passes)
      (counted b (state_of b) h.bounded) in
      record {
        stands = stands_next b e h passes m;
        bounded = subst (λ (w : Core). IsBounded (with_event b e) w) (sym (state_more b e))
            (bounded_next b e (step b.set (runs b.set) (state_of b) e).to (state_of b) h.bounded m
            (room_passes (room b (state_of b)) e (refuses b.set (state_of b) e) passes));
        numbered = subst (λ (w : Core). AreNumbered w) (sym (state_more b e)) (numbered_step b.set (state_of b) e h.numbered);
        silent = subst (λ (w : Core). AreSilent w) (sym (state_more b e)) (silent_step due b.set (state_of b) e h.silent);
      }

  kept_asked : (b : Ledger) (e : Event) (s : Stepped) (o : Option Refusal) → IsKept b → (o ≡ None → IsKept (with_event b e)) → IsKept (asked b e s o).book
  kept_asked b e s None h next = next refl
  kept_asked b e s (Some r) h next = h

  pub asks : (b : Ledger) (e : Event) → IsKept b → IsKept (ask b e).book
  unfolding ask_by
  asks b e h = kept_asked b e (step b.set (runs b.set) (state_of b) e) (refusal_by (runs b.set) b e) h (kept_next b e h)

-- ---- a list of events

module _ (steps : StepFits) (due : DueLaw) (safe : SafeLaw) (law : RunLaw) where
  kept_after : (d : Draft) (b : Ledger) (es : List Event) → b.set ≡ d → IsKept b → IsKept (after_by (runs d) b es)
  kept_after d b [] same h = h
  kept_after d b (e ∷ es) same h =
      kept_after d (ask_by (runs d) b e).book es (ask_set (runs d) b e ∙ same)
      (subst (λ (x : Draft). IsKept (ask_by (runs x) b e).book) same (asks steps due safe law b e h))

  pub lists : (b : Ledger) (es : List Event) → IsKept b → IsKept (after_by (runs b.set) b es)
  lists b es h = kept_after b.set b es refl h

  within_at : EffectsLaw → (b : Ledger) (e : Event) → IsKept b → WithinAt b e
  within_at gives_right b (Offer o) h = tt
  within_at gives_right b (Begin n) h = tt
  within_at gives_right b (Skip n) h = tt
  within_at gives_right b (Finish n) h = λ t out. finish_law safe law gives_right b n t h out
  within_at gives_right b (Advance k) h = tt
  within_at gives_right b TakeEnv h = tt

  pub within_law : EffectsLaw → (b : Ledger) (es : List Event) → IsKept b → AllWithin b es
  within_law gives_right b [] h = tt
  within_law gives_right b (e ∷ es) h =
      (within_at gives_right b e h, within_law gives_right (ask b e).book es (asks steps due safe law b e h))

-- ---- a rebase

pub rebases : (b : Ledger) → IsKept b → IsKept (rebased b)
unfolding rebased
rebases b h =
    let was : length b.journal + outs (state_of b).actors ≤ b.limit = h.bounded.room in
    let places : b.first + length b.journal + outs (state_of b).actors ≤ 2 ^ 56 + b.limit = h.bounded.places in
    record {
      stands = record { valid = h.stands.valid; along = fits_law b h; finishes = omega arith };
      bounded = record {
        room = omega arith;
        places = omega arith;
        limit = h.bounded.limit;
        turns = h.bounded.turns;
        finishes = h.bounded.finishes;
        instructions = h.bounded.instructions;
        clock = h.bounded.clock;
      };
      numbered = h.numbered;
      silent = h.silent;
    }

-- ---- a book that is opened

none_out : (xs : List Actor) → AllByRecursion (λ (a : Actor). is_out a ≡ false) xs → outs xs ≡ 0
none_out [] all = refl
none_out (a ∷ xs) all =
    let first : outs (a ∷ xs) ≡ weight a + outs xs = sum_by-cons weight a xs in
    let one : weight a ≡ 0 = ap (λ (b : Bool). cond b 1 0) all.0 in
    let rest = none_out xs all.1 in
    omega arith

outs_opened : (port : ℕ) (ps : List DraftProcess) → outs (opened_from port 0 ps) ≡ 0
outs_opened port ps = none_out (opened_from port 0 ps) (opened_all (λ (a : Actor). is_out a ≡ false) port 0 ps (λ k p x there e. refl))

pub opens : ((d : Draft) (port env : ℕ) → IsValid d → CoreFits d (opened d port env))
    → (d : Draft) (port env journal : ℕ) → IsValid d → journal ≤ 65536 → IsKept (opened_book d port env journal)
unfolding opened opened_book
opens fits d port env journal valid small =
    let none : outs (opened_from port 0 d.processes) ≡ 0 = outs_opened port d.processes in
    record {
      stands = record { valid = valid; along = fits d port env valid; finishes = omega arith };
      bounded = record {
        room = omega arith;
        places = omega arith;
        limit = small;
        turns = omega arith;
        finishes = omega arith;
        instructions = omega arith;
        clock = omega arith;
      };
      numbered = numbered_opened d port env;
      silent = silent_opened d port env;
    }
