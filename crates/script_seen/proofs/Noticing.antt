-- The notices to a watcher about single events, and about events one after another.
use Rattle.std.proofs.Common.{◌≡◌, ◌∙◌, ℕ, ◌+◌, ◌-◌, ◌<◌, ◌≤◌, List, [], ◌∷◌, ◌++◌, length, take, drop, get_or, append-nil, append_assoc, Option, None, Some, arith, refl, sym, ap, subst}
use Rattle.std.specs.Prelude.{slice_get, option_map}
use Rattle.std.proofs.lemmas.List.{take_all, take_more, length-append}
use Rattle.std.proofs.lemmas.Option.{same_Some, slice_get-map}
use Rattle.turn_code.specs.Outcome.{Outcome}
use Rattle.turn_code.specs.Transitions.{Transition}
use Rattle.turn_code.specs.declared.draft.Draft.{Draft}
use Rattle.turn_code.specs.declared.input.Place.TheVariants.{Start, State as AtState}
use Rattle.turn_code.specs.declared.numbers.ProcessNumber.{ProcessNumber}
use Rattle.turn_code.specs.declared.numbers.StateNumber.{StateNumber}
use Rattle.input_port.specs.Queue.{first_unsaved}
use Rattle.input_port.specs.declared.queue.Item.{Item}
use Rattle.turn_machine.specs.Turn.{Turn, turn_of, outcome_of}
use Rattle.actor_machine.proofs.Replays.{replay_more}
use Rattle.actor_machine.specs.Core.{Core, names_in}
use Rattle.actor_machine.specs.Fits.{GivenFits, CoreFits}
use Rattle.actor_machine.specs.Ledger.{Ledger, runs, replay, next, state_of, turn_with, turn_given, turn_at}
use Rattle.actor_machine.specs.Looking.{item_at, is_saved}
use Rattle.actor_machine.specs.Step.{report_of}
use Rattle.actor_machine.specs.declared.actor.Actor.{Actor}
use Rattle.actor_machine.specs.declared.actor.Given.{Given}
use Rattle.actor_machine.specs.declared.actor.Standing.{Standing}
use Rattle.actor_machine.specs.declared.actor.Standing.TheVariants.{At, Stopped}
use Rattle.actor_machine.specs.declared.name.ActorName.{ActorName}
use Rattle.actor_machine.specs.declared.event.Event.{Event}
use Rattle.actor_machine.specs.declared.event.Event.TheVariants as event
use Rattle.tick_wheel.specs.Turning.{timers_of}
use Rattle.script_seen.specs.Told.{stepped, outcome_by}
use Rattle.script_seen.specs.Traced.{since}
use Rattle.script_seen.specs.Following.{Agree, IsStep, IsCaughtUp, IsEnded}
use Rattle.script_seen.specs.Watched.{Notice, TurnEnd, IsEnd, IsTurnOf, ends, thrown_by, throw_noticed, end_noticed, skip_noticed, noticed, noticed_in}
use Rattle.script_seen.specs.WatchedKinds.{IsMoved}
use Rattle.script_seen.specs.declared.turns.Ended.{Ended}
use Rattle.script_seen.specs.declared.tracing.Tracer.{Tracer}

-- ---- single events

pub none_noticed : (d : Draft) (w : Core) (e : Event) → ((n : _) → e ≡ event.Skip n → ⊥) → ((n : _) → e ≡ event.Finish n → ⊥) → noticed d w e ≡ []
unfolding noticed
none_noticed d w (event.Offer o) no_skip no_finish = refl
none_noticed d w (event.Begin n) no_skip no_finish = refl
none_noticed d w (event.Skip n) no_skip no_finish = absurd (no_skip n refl)
none_noticed d w (event.Finish n) no_skip no_finish = absurd (no_finish n refl)
none_noticed d w (event.Advance k) no_skip no_finish = refl
none_noticed d w event.TakeEnv no_skip no_finish = refl

noticed_skip : (d : Draft) (w : Core) (n : ℕ) → skip_noticed d (slice_get w.actors n) ≡ noticed d w (event.Skip n)
unfolding noticed
noticed_skip d w n = refl

-- the item that an actor discards, by the actor's state and port
skip_is : (d : Draft) (a : Actor) (s : Standing) (x : Option Item) → a.standing ≡ s → item_at d a.name.process.0 s a.port.items ≡ x
    → skip_noticed d (Some a) ≡ throw_noticed a.name s x
skip_is d a s x stands is =
    ap (λ (y : Standing). throw_noticed a.name y (item_at d a.name.process.0 y a.port.items)) stands ∙ ap (throw_noticed a.name s) is

pub none_waits : (d : Draft) (a : Actor) (q : StateNumber) → a.standing ≡ At (AtState q) → None ≡ first_unsaved (is_saved d a.name.process.0 q.0) a.port.items
    → skip_noticed d (Some a) ≡ []
none_waits d a q stands is = skip_is d a (At (AtState q)) None stands (sym is)

pub none_at_start : (d : Draft) (a : Actor) → a.standing ≡ At Start → skip_noticed d (Some a) ≡ []
none_at_start d a stands = skip_is d a (At Start) None stands refl

pub none_stopped : (d : Draft) (a : Actor) → a.standing ≡ Stopped → skip_noticed d (Some a) ≡ []
none_stopped d a stands = skip_is d a Stopped None stands refl

-- the turn that ended
abbrev pub turn_end : Ledger → ℕ → ActorName → Turn → Outcome → TurnEnd
turn_end b n me t o = record {
  clock = (state_of b).timers.clock;
  me = me;
  turn = t;
  outcome = o;
  report = report_of n me o (state_of b);
}

ended_is : (b : Ledger) (n : ℕ) (me : Option ActorName) (t : Option Turn) (name : ActorName) (turn : Turn) (o : Outcome) → me ≡ Some name → t ≡ Some turn
    → outcome_of turn ≡ Some o → end_noticed (state_of b) n me t (outcome_by t) ≡ ends (turn_end b n name turn o) ∷ []
ended_is b n me t name turn o called out ran =
    let M : Option ActorName → Type 0 = λ m. end_noticed (state_of b) n m t (outcome_by t) ≡ ends (turn_end b n name turn o) ∷ [] in
    let T : Option Turn → Type 0 = λ x. end_noticed (state_of b) n (Some name) x (outcome_by x) ≡ ends (turn_end b n name turn o) ∷ [] in
    let O : Option Outcome → Type 0 = λ x. end_noticed (state_of b) n (Some name) (Some turn) x ≡ ends (turn_end b n name turn o) ∷ [] in
    subst M (sym called) (subst T (sym out) (subst O (sym ran) refl))

noticed_finish : (b : Ledger) (n : ℕ) (name : ActorName) (turn : Turn) (o : Outcome) → slice_get (names_in (state_of b).actors) n ≡ Some name
    → turn_at b.set n (slice_get (state_of b).actors n) ≡ Some turn → outcome_of turn ≡ Some o
    → noticed b.set (state_of b) (event.Finish n) ≡ ends (turn_end b n name turn o) ∷ []
unfolding noticed
noticed_finish b n name turn o called out ran =
    ended_is b n (slice_get (names_in (state_of b).actors) n) (turn_at b.set n (slice_get (state_of b).actors n)) name turn o called out ran

-- ---- the transition of a turn

turn_given_fits : (d : Draft) (n : ℕ) (p : ProcessNumber) (s : Standing) (g : Option Given) (t : Turn) → GivenFits d p.0 s g → turn_given d n p s g ≡ Some t
    → IsTurnOf d p.0 t
turn_given_fits d n p Stopped g t fits h = absurd (cc)
turn_given_fits d n p (At s) None t fits h = absurd (cc)
turn_given_fits d n p (At s) (Some g) t fits h =
    let T : Option Transition → Type 0 = λ x. turn_with n p s g x ≡ Some t in
    let made : Turn = turn_of n g.turn p s g.number fits.transition.piece.code fits.transition.piece.certificate g.input in
    let same : made ≡ t = same_Some made t (subst T fits.there h) in
    let P : Turn → Type 0 = λ x. IsTurnOf d p.0 x in
    subst P same (record { fits = fits; code = refl })

turn_fits : (d : Draft) (w : Core) (n : ℕ) (me : ActorName) (t : Turn) (a : Option Actor) → slice_get w.actors n ≡ a → CoreFits d w
    → option_map (λ (x : Actor). x.name) a ≡ Some me → turn_at d n a ≡ Some t → IsTurnOf d me.process.0 t
turn_fits d w n me t None there fits named h = absurd (cc)
turn_fits d w n me t (Some a) there fits named h =
    let N : ActorName → Type 0 = λ x. IsTurnOf d x.process.0 t in
    subst N (same_Some a.name me named) (turn_given_fits d n a.name.process a.standing a.given t (fits.each n a there).given h)

pub is_turn_of : (b : Ledger) (n : ℕ) (me : ActorName) (t : Turn) → CoreFits b.set (state_of b) → slice_get (names_in (state_of b).actors) n ≡ Some me
    → turn_at b.set n (slice_get (state_of b).actors n) ≡ Some t → IsTurnOf b.set me.process.0 t
is_turn_of b n me t fits named h =
    turn_fits b.set (state_of b) n me t (slice_get (state_of b).actors n) refl fits
    (sym (slice_get-map (λ (x : Actor). x.name) (state_of b).actors n) ∙ named) h

-- ---- the watcher's knowledge: K before the events, L after them

pub knows_throw : (K L : Draft → List Notice → Type 0) (d : Draft) (a : Actor) (q : StateNumber) (x : Item) → a.standing ≡ At (AtState q)
    → Some x ≡ first_unsaved (is_saved d a.name.process.0 q.0) a.port.items
    → ((ns : List Notice) → K d ns → L d (ns ++ thrown_by a.name q x ∷ [])) → (ns : List Notice) → K d ns → L d (ns ++ skip_noticed d (Some a))
knows_throw K L d a q x stands is told ns k =
    let N : List Notice → Type 0 = λ ms. L d (ns ++ ms) in
    subst N (sym (skip_is d a (At (AtState q)) (Some x) stands (sym is))) (told ns k)

pub knows_skip : (K L : Draft → List Notice → Type 0) (b : Ledger) (n : ℕ) (x : Draft) (a : Actor) → x ≡ b.set → slice_get (state_of b).actors n ≡ Some a
    → ((ns : List Notice) → K x ns → L x (ns ++ skip_noticed x (Some a))) → (ns : List Notice) → K b.set ns
    → L b.set (ns ++ noticed b.set (state_of b) (event.Skip n))
knows_skip K L b n x a same is told ns k =
    let D : Draft → Type 0 = λ y. (ms : List Notice) → K y ms → L y (ms ++ skip_noticed y (Some a)) in
    let N : List Notice → Type 0 = λ ms. L b.set (ns ++ ms) in
    subst N (ap (skip_noticed b.set) (sym is) ∙ noticed_skip b.set (state_of b) n) (subst D same told ns k)

pub knows_finish : (K L : Draft → List Notice → Type 0) (b : Ledger) (n : ℕ) (x : Draft) (e : Ended) → x ≡ b.set → CoreFits b.set (state_of b)
    → IsEnded b n e → ((ns : List Notice) (t : TurnEnd) → IsEnd e t → IsTurnOf x t.me.process.0 t.turn → K x ns → L x (ns ++ ends t ∷ []))
    → (ns : List Notice) → K b.set ns → L b.set (ns ++ noticed b.set (state_of b) (event.Finish n))
knows_finish K L b n x e same fits ended told ns k =
    let t : TurnEnd = turn_end b n e.me e.done ended.outcome in
    let is_end : IsEnd e t = record { clock = ended.clock; me = refl; turn = refl; outcome = ended.ran; report = ended.report } in
    let is_turn : IsTurnOf b.set e.me.process.0 e.done = is_turn_of b n e.me e.done fits ended.named ended.turn in
    let D : Draft → Type 0 = λ y. (ms : List Notice) (s : TurnEnd) → IsEnd e s → IsTurnOf y s.me.process.0 s.turn → K y ms → L y (ms ++ ends s ∷ []) in
    let N : List Notice → Type 0 = λ ms. L b.set (ns ++ ms) in
    subst N (sym (noticed_finish b n e.me e.done ended.outcome ended.named ended.turn ended.ran)) (subst D same told ns t is_end is_turn k)

-- an event without a notice
pub knows_none : (K : Draft → List Notice → Type 0) (d : Draft) (none ns : List Notice) → none ≡ [] → K d ns → K d (ns ++ none)
knows_none K d none ns is k =
    let N : List Notice → Type 0 = λ ms. K d ms in
    subst N (sym (append-nil ns) ∙ ap (λ (ms : List Notice). ns ++ ms) (sym is)) k

-- ---- events, one after another

pub record Watches (K L : Draft → List Notice → Type 0) (t : Tracer) (es : List Event) (u : Tracer) : Type 0 where
  pub moved : IsMoved t es u
  pub knows : (ns : List Notice) → K t.again.set ns → L t.again.set (ns ++ noticed_in t.again.set (state_of t.again) es)

none_in : (d : Draft) (w : Core) → noticed_in d w [] ≡ []
unfolding noticed_in
none_in d w = refl

pub watches_begins : (K : Draft → List Notice → Type 0) (t : Tracer) → Watches K K t [] t
watches_begins K t = record {
  moved = record { set = refl; every = refl; place = omega arith; state = refl; agree = λ agree. agree };
  knows = λ ns k. knows_none K t.again.set (noticed_in t.again.set (state_of t.again) []) ns (none_in t.again.set (state_of t.again)) k;
}

noticed_more : (d : Draft) (w : Core) (es : List Event) (e : Event) → noticed_in d w (es ++ e ∷ []) ≡ noticed_in d w es ++ noticed d (replay d (runs d) w es) e
unfolding noticed_in
noticed_more d w [] e = append-nil (noticed d w e)
noticed_more d w (x ∷ es) e =
    ap (λ (ns : List Notice). noticed d w x ++ ns) (noticed_more d (stepped d w x).to es e)
    ∙ sym (append_assoc (noticed d w x) (noticed_in d (stepped d w x).to es) (noticed d (replay d (runs d) (stepped d w x).to es) e))

length_more : {A : Type 0} (xs : List A) (x : A) → length (xs ++ x ∷ []) ≡ length xs + 1
length_more xs x = length-append xs (x ∷ [])

moved_more : (t u v : Tracer) (es : List Event) (e : Event) → IsMoved t es u → IsStep u e v → IsMoved t (es ++ e ∷ []) v
moved_more t u v es e m s =
    let d : Draft = t.again.set in
    let D : Draft → Type 0 = λ x. state_of v.again ≡ (stepped x (state_of u.again) e).to in
    let W : Core → Type 0 = λ x. state_of v.again ≡ (stepped d x e).to in
    record {
      set = s.set ∙ m.set;
      every = s.every ∙ m.every;
      place = omega (arith, s.place, m.place, length_more es e);
      state = subst W m.state (subst D m.set s.state) ∙ sym (replay_more d (runs d) (state_of t.again) es e);
      agree = λ agree. s.agree (m.agree agree);
    }

watches_more : (K L M : Draft → List Notice → Type 0) (t u v : Tracer) (es : List Event) (e : Event) → Watches K L t es u → IsStep u e v
    → ((ns : List Notice) → L u.again.set ns → M u.again.set (ns ++ noticed u.again.set (state_of u.again) e)) → Watches K M t (es ++ e ∷ []) v
watches_more K L M t u v es e w s told =
    let d : Draft = t.again.set in
    let x : Core = state_of t.again in
    let D : Draft → Type 0 = λ y. (ms : List Notice) → L y ms → M y (ms ++ noticed y (state_of u.again) e) in
    let W : Core → Type 0 = λ y. (ms : List Notice) → L d ms → M d (ms ++ noticed d y e) in
    let N : List Notice → Type 0 = λ ms. M d ms in
    let more : (ms : List Notice) → L d ms → M d (ms ++ noticed d (replay d (runs d) x es) e) = subst W w.moved.state (subst D w.moved.set told) in
    record {
      moved = moved_more t u v es e w.moved s;
      knows = λ ns k.
          subst N
          (append_assoc ns (noticed_in d x es) (noticed d (replay d (runs d) x es) e) ∙ ap (λ (ms : List Notice). ns ++ ms) (sym (noticed_more d x es e)))
          (more (ns ++ noticed_in d x es) (w.knows ns k));
    }

-- one more event of a list
pub watches_on : (K L M : Draft → List Notice → Type 0) (t u v : Tracer) (items : List Event) (i : ℕ) (x : Event) → i < length items → x ≡ get_or items i x
    → Watches K L t (take i items) u → IsStep u x v
    → ((ns : List Notice) → L u.again.set ns → M u.again.set (ns ++ noticed u.again.set (state_of u.again) x)) → Watches K M t (take (i + 1) items) v
watches_on K L M t u v items i x within is w s told =
    let P : List Event → Type 0 = λ es. Watches K M t es v in
    subst P (sym (take_more items i x within ∙ ap (λ y. take i items ++ y ∷ []) (sym is))) (watches_more K L M t u v (take i items) x w s told)

-- all events of a list
pub watches_all : (K L : Draft → List Notice → Type 0) (t u : Tracer) (items : List Event) (i : ℕ) → length items ≤ i → Watches K L t (take i items) u
    → Watches K L t items u
watches_all K L t u items i over w = let P : List Event → Type 0 = λ es. Watches K L t es u in subst P (take_all i items over) w

-- the events since the journal was restarted
watches_from : (K L : Draft → List Notice → Type 0) (b : Ledger) (t m u : Tracer) (es : List Event) → IsCaughtUp b t m → Watches K L m es u → Watches K L t es u
watches_from K L b t m u es k w =
    let agrees : Agree t → Agree m = λ agree. ap (λ x. timers_of x) k.wheel ∙ (agree ∙ ap (λ (x : Core). x.timers) (sym k.state)) in
    let S : Draft → Type 0 = λ d. state_of u.again ≡ replay d (runs d) (state_of t.again) es in
    let W : Core → Type 0 = λ x. state_of u.again ≡ replay m.again.set (runs m.again.set) x es in
    let D : Draft → Type 0 = λ d. (ns : List Notice) → K d ns → L d (ns ++ noticed_in d (state_of t.again) es) in
    let V : Core → Type 0 = λ x. (ns : List Notice) → K m.again.set ns → L m.again.set (ns ++ noticed_in m.again.set x es) in
    record {
      moved = record {
        set = w.moved.set ∙ k.set;
        every = w.moved.every ∙ k.every;
        place = omega (arith, w.moved.place, k.place);
        state = subst S k.set (subst W k.state w.moved.state);
        agree = λ agree. w.moved.agree (agrees agree);
      };
      knows = subst D k.set (subst V k.state w.knows);
    }

pub watches_since : (K L : Draft → List Notice → Type 0) (b : Ledger) (t m u : Tracer) (done : ℕ) (es : List Event) → IsCaughtUp b t m
    → done ≡ length m.again.journal → es ≡ drop done b.journal → Watches K L m es u → Watches K L t (since (next t.again) b) u
watches_since K L b t m u done es k e is w =
    let place : done ≡ next t.again - b.first = omega (arith, e, k.first, k.place) in
    let P : List Event → Type 0 = λ xs. Watches K L t xs u in
    subst P (is ∙ ap (λ n. drop n b.journal) place) (watches_from K L b t m u es k w)
