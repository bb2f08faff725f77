-- A book after an event.
use Rattle.std.proofs.Common.{◌≡◌, ℕ, ◌+◌, ◌≤◌, ◌<◌, List, [], ◌∷◌, ◌++◌, length, Option, Some, None, refl, sym, ap, ◌∙◌, subst, arith, length-append}
use Rattle.std.specs.Prelude.{◌-◌, ◌^◌, Bool, false, nat_le, slice_get, if◌then◌else◌}
use Rattle.turn_code.specs.Valid.{IsValid}
use Rattle.turn_code.specs.declared.draft.Draft.{Draft}
use Rattle.actor_machine.specs.Core.{Core, outs}
use Rattle.actor_machine.specs.Step.{Says, Stepped, step}
use Rattle.actor_machine.specs.Refusals.{refuses}
use Rattle.actor_machine.specs.Ledger.{Ledger, runs, state_of, asked, ask, ask_by, room, next, rebased}
use Rattle.actor_machine.specs.Kept.{IsKept, opened, opened_book}
use Rattle.actor_machine.specs.Laws.{KeepsLaw, StateLaw, FitsLaw}
use Rattle.actor_machine.specs.Fits.{GivenFits}
use Rattle.actor_machine.specs.declared.actor.Actor.{Actor}
use Rattle.actor_machine.specs.declared.event.Event.{Event}
use Rattle.actor_machine.specs.declared.reply.Refusal.{Refusal}
use Rattle.actor_machine.specs.declared.reply.Reply.TheVariants as reply
use Rattle.actor_book.specs.Accepted.{refusal_of, Takes}
use Rattle.actor_book.specs.Inside.{IsBook}
use Rattle.actor_book.specs.Schedules.{HasHistory}
use Rattle.actor_book.proofs.Histories.{history_more, history_rebased, history_opened}
use Rattle.actor_machine.proofs.Ends.{asked_answer as taken_answer, passes_otherwise as none_first}
use Rattle.actor_machine.proofs.Replays.{asked_book as taken_book, with_event as noted}
use Rattle.std.proofs.lemmas.Bool.{le-leb as at_least}

refused_book : (b : Ledger) (e : Event) (s : Stepped) (r : Refusal) (o : Option Refusal) → o ≡ Some r → (asked b e s o).book ≡ b
refused_book b e s r None h = cc
refused_book b e s r (Some q) h = refl

refused_answer : (b : Ledger) (e : Event) (s : Stepped) (r : Refusal) (o : Option Refusal) → o ≡ Some r
    → (asked b e s o).answer ≡ Says (reply.Refused r)
refused_answer b e s r None h = cc
refused_answer b e s r (Some q) h = let same : q ≡ r = cc in ap (λ (x : Refusal). Says (reply.Refused x)) same

pub stays : (b : Ledger) (e : Event) (r : Refusal) → refusal_of b e ≡ Some r → (ask b e).book ≡ b
unfolding ask_by
stays b e r h = refused_book b e (step b.set (runs b.set) (state_of b) e) r (refusal_of b e) h

pub says : (b : Ledger) (e : Event) (r : Refusal) → refusal_of b e ≡ Some r → (ask b e).answer ≡ Says (reply.Refused r)
unfolding ask_by
says b e r h = refused_answer b e (step b.set (runs b.set) (state_of b) e) r (refusal_of b e) h

pub grows : (b : Ledger) (e : Event) → Takes b e → (ask b e).book ≡ noted b e
unfolding ask_by
grows b e h = taken_book b e (step b.set (runs b.set) (state_of b) e) (refusal_of b e) h

pub answers : (b : Ledger) (e : Event) → Takes b e → (ask b e).answer ≡ (step b.set (runs b.set) (state_of b) e).answer
unfolding ask_by
answers b e h = taken_answer b e (step b.set (runs b.set) (state_of b) e) (refusal_of b e) h

pub none_left : (o : Option Refusal) → ((r : Refusal) → o ≡ Some r → ⊥) → o ≡ None
none_left None h = refl
none_left (Some r) h = absurd (h r refl)

-- the link doesn't refuse the event either
pub link_takes : (b : Ledger) (e : Event) → Takes b e → refuses b.set (state_of b) e ≡ None
link_takes b e h = none_first (room b (state_of b)) e (refuses b.set (state_of b) e) h

abbrev pub with_journal : Ledger → List Event → Ledger
with_journal b js = record { set = b.set; base = b.base; first = b.first; journal = js; limit = b.limit }

abbrev pub link_after : Draft → Core → Event → Core
link_after d w e = (step d (runs d) w e).to

abbrev pub after_step : Ledger → Core → Event → Core
after_step b w e = link_after b.set w e

-- ---- a book that accepts an event, with its link in memory; `old` is the book as callers see it
module _ (keeps : KeepsLaw) (b old : Ledger) (view : b ≡ old) (w : Core) (c : ℕ) (inside : IsBook b w c) (e : Event) (takes : Takes old e) where
  pub takes_too : Takes b e
  takes_too = subst (λ (x : Ledger). Takes x e) (sym view) takes

  pub link_passes : refuses b.set w e ≡ None
  link_passes = ap (λ (x : Core). refuses b.set x e) inside.state ∙ link_takes b e takes_too

  kept_more : IsKept (noted b e)
  kept_more = subst (λ (x : Ledger). IsKept x) (grows b e takes_too) (keeps.asks b e inside.kept)

  -- there is room for the event
  pub fits : length b.journal < c
  fits =
      let longer : length (b.journal ++ e ∷ []) ≡ length b.journal + 1 = length-append b.journal (e ∷ []) in
      let kept : length (b.journal ++ e ∷ []) + outs (state_of (noted b e)).actors ≤ b.limit = kept_more.bounded.room in
      let held : b.limit ≤ c = inside.held in
      omega arith

  pub new_book : (js : List Event) → js ≡ b.journal ++ e ∷ [] → with_journal b js ≡ (ask old e).book
  new_book js h = ap (with_journal b) h ∙ sym (grows b e takes_too) ∙ ap (λ (x : Ledger). (ask x e).book) view

  pub new_answer : (step b.set (runs b.set) w e).answer ≡ (ask old e).answer
  new_answer = ap (λ (x : Core). (step b.set (runs b.set) x e).answer) inside.state ∙ sym (answers b e takes_too) ∙ ap (λ (x : Ledger). (ask x e).answer) view

  pub new_next : (js : List Event) → js ≡ b.journal ++ e ∷ [] → next (with_journal b js) ≡ next old + 1
  new_next js h =
      let longer : length (b.journal ++ e ∷ []) ≡ length b.journal + 1 = length-append b.journal (e ∷ []) in
      let long : length js ≡ length (b.journal ++ e ∷ []) = ap length h in
      let same : next b ≡ next old = ap next view in
      omega arith

  -- the link's step is the new state, so the invariant holds again
  pub new_inside : StateLaw → (js : List Event) (v : Core) (d : ℕ) → js ≡ b.journal ++ e ∷ [] → v ≡ after_step b w e → c ≤ d → IsBook (with_journal b js) v d
  new_inside state js v d k h le =
      let held : b.limit ≤ c = inside.held in
      subst (λ (x : List Event). IsBook (with_journal b x) v d) (sym k) (record {
        state = h ∙ ap (λ (x : Core). after_step b x e) inside.state ∙ sym (state b e takes_too) ∙ ap (λ (x : Ledger). state_of x) (grows b e takes_too);
        kept = kept_more;
        held = omega arith;
        history = history_more b e (grows b e takes_too) inside.history;
      })

-- ---- free places

too_few : (m n : ℕ) → n < m → nat_le m n ≡ false
too_few m n h = grind arith

pub no_room : (b : Ledger) (w : Core) → 2 ^ 56 ≤ next b → 0 ≡ room b w
unfolding room
no_room b w h =
    sym (ap (λ (full : Bool). if full then 0 else b.limit - (length b.journal + outs w.actors)) (at_least (2 ^ 56) (next b) h))

pub some_room : (b : Ledger) (w : Core) → next b < 2 ^ 56 → b.limit - (length b.journal + outs w.actors) ≡ room b w
unfolding room
some_room b w h =
    sym (ap (λ (full : Bool). if full then 0 else b.limit - (length b.journal + outs w.actors)) (too_few (2 ^ 56) (next b) h))

-- ---- a new base, and a new book

abbrev ledger : Draft → Core → ℕ → List Event → ℕ → Ledger
ledger d w first js limit = record { set = d; base = w; first = first; journal = js; limit = limit }

pub is_rebased : (b : Ledger) (w : Core) (first : ℕ) (js : List Event) → w ≡ state_of b → first ≡ next b → js ≡ []
    → ledger b.set w first js b.limit ≡ rebased b
unfolding rebased
is_rebased b w first js h k l =
    ap (λ (x : Core). ledger b.set x first js b.limit) h
    ∙ ap (λ (x : ℕ). ledger b.set (state_of b) x js b.limit) k
    ∙ ap (λ (x : List Event). ledger b.set (state_of b) (next b) x b.limit) l

same_state : (b : Ledger) → state_of b ≡ state_of (rebased b)
unfolding rebased
same_state b = refl

pub inside_rebased : KeepsLaw → (b : Ledger) (base w : Core) (first : ℕ) (js : List Event) (c d : ℕ) → IsBook b w c → base ≡ w → first ≡ next b
    → js ≡ [] → c ≤ d → IsBook (ledger b.set base first js b.limit) w d
inside_rebased keeps b base w first js c d inside h k l le =
    let is : ledger b.set base first js b.limit ≡ rebased b = is_rebased b base first js (h ∙ inside.state) k l in
    let held : b.limit ≤ c = inside.held in
    record {
      state = inside.state ∙ same_state b ∙ sym (ap (λ (x : Ledger). state_of x) is);
      kept = subst (λ (x : Ledger). IsKept x) (sym is) (keeps.rebases b inside.kept);
      held = omega arith;
      history = subst (λ (x : Ledger). ∥ HasHistory x ∥₁) (sym is) (history_rebased b inside.history);
    }

pub is_opened : (d set : Draft) (port env journal limit : ℕ) (w : Core) (js : List Event) → set ≡ d → w ≡ opened d port env → js ≡ [] → limit ≡ journal
    → ledger set w 0 js limit ≡ opened_book d port env journal
unfolding opened_book
is_opened d set port env journal limit w js h k l m =
    ap (λ (x : Draft). ledger x w 0 js limit) h
    ∙ ap (λ (x : Core). ledger d x 0 js limit) k
    ∙ ap (λ (x : List Event). ledger d (opened d port env) 0 x limit) l
    ∙ ap (λ (x : ℕ). ledger d (opened d port env) 0 [] x) m

opened_state : (d : Draft) (port env journal : ℕ) → opened d port env ≡ state_of (opened_book d port env journal)
unfolding opened_book
opened_state d port env journal = refl

pub inside_opened : KeepsLaw → (d set : Draft) (port env journal limit : ℕ) (base w : Core) (js : List Event) (c : ℕ) → IsValid d → journal ≤ 65536
    → set ≡ d → base ≡ opened d port env → w ≡ opened d port env → js ≡ [] → limit ≡ journal → limit ≤ c → IsBook (ledger set base 0 js limit) w c
inside_opened keeps d set port env journal limit base w js c valid most h k v l m le =
    let is : ledger set base 0 js limit ≡ opened_book d port env journal = is_opened d set port env journal limit base js h k l m in
    record {
      state = v ∙ opened_state d port env journal ∙ sym (ap (λ (x : Ledger). state_of x) is);
      kept = subst (λ (x : Ledger). IsKept x) (sym is) (keeps.opens d port env journal valid most);
      held = le;
      history = subst (λ (x : Ledger). ∥ HasHistory x ∥₁) (sym is) (history_opened d port env journal);
    }

-- ---- what fits in the link in memory

pub fits_in : FitsLaw → (b : Ledger) (w : Core) (c : ℕ) → IsBook b w c → (xs : List Actor) (n : ℕ) (a : Actor) → xs ≡ w.actors → slice_get xs n ≡ Some a
    → GivenFits b.set a.name.process.0 a.standing a.given
fits_in fits b w c inside xs n a h k =
    let same : xs ≡ (state_of b).actors = h ∙ ap (λ (x : Core). x.actors) inside.state in
    let there : slice_get (state_of b).actors n ≡ Some a = ap (λ (ys : List Actor). slice_get ys n) (sym same) ∙ k in
    ((fits b inside.kept).each n a there).given
