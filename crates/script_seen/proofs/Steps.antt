-- An event happens to a tracer's book; its effect on timers.
use Rattle.std.proofs.Common.{◌≡◌, ◌∙◌, ℕ, ◌+◌, ◌-◌, ◌<◌, ◌≤◌, Bool, List, [], ◌∷◌, ◌++◌, length, take, drop, get_or, append-nil, append_assoc, Option, Some, None, map, arith, refl, sym, ap, subst}
use Rattle.std.specs.Io.KnownBytes.{Appends}
use Rattle.std.proofs.KnownBytes.{Appends-nil, Appends-trans}
use Rattle.std.proofs.lemmas.List.{take_all, take_more, length-append, length-drop}
use Rattle.std.proofs.lemmas.Grind.{flat_map-append}
use Rattle.std.specs.Prelude.{option_map, slice_get, Ok}
use Rattle.std.proofs.lemmas.Option.{same_Some}
use Rattle.turn_code.specs.Outcome.{Outcome}
use Rattle.turn_code.specs.declared.draft.Draft.{Draft}
use Rattle.turn_code.specs.declared.effect.Effect.{Effect}
use Rattle.turn_code.specs.declared.effect.Effect.TheVariants.{Output, Set, Reset}
use Rattle.turn_code.specs.declared.effect.Sending.{Sending}
use Rattle.turn_code.specs.declared.numbers.InstanceNumber.{InstanceNumber}
use Rattle.turn_code.specs.declared.input.Party.{Party}
use Rattle.turn_code.specs.declared.input.Party.TheVariants.{Environment, Process}
use Rattle.turn_code.specs.declared.machine.End.{End}
use Rattle.turn_machine.specs.Turn.{Turn, outcome_of}
use Rattle.std.specs.FinMap as finite
use Rattle.std.specs.List.{flat_map}
use Rattle.tick_wheel.specs.Timers.{Timers, Deadlines, due, not_due}
use Rattle.tick_wheel.specs.Turning.{Turning, timers_of}
use Rattle.tick_wheel.specs.declared.Due.{Due}
use Rattle.actor_machine.specs.Core.{Core, names_in}
use Rattle.actor_machine.specs.Effects.{delivered, laid, laid_all, finished, started, timers_after}
use Rattle.actor_machine.specs.Kept.{opened, opened_book}
use Rattle.actor_machine.specs.Ledger.{Ledger, runs, next, state_of, refusal_by, asked, ask, ask_by, turn_out, rebased, replay}
use Rattle.actor_machine.specs.Step.{Answer, Says, Stepped, step, finish_by, report_of, passed, due_in}
use Rattle.actor_machine.specs.declared.name.ActorName.{ActorName}
use Rattle.actor_machine.specs.declared.event.Event.{Event}
use Rattle.actor_machine.specs.declared.event.Event.TheVariants as event
use Rattle.actor_machine.specs.declared.event.Offer.{Offer}
use Rattle.actor_machine.specs.declared.reply.Refusal.{Refusal}
use Rattle.actor_machine.specs.declared.reply.Report.{Report}
use Rattle.actor_machine.specs.declared.reply.Reply.TheVariants as reply
use Rattle.actor_machine.proofs.Replays.{state_more, replay_more}
use Rattle.actor_book.proofs.Ending.{ends_with, is_turn_out}
use Rattle.script_seen.proofs.Tellings.{told_finish}
use Rattle.plain_text.specs.Lines.{line_of}
use Rattle.script_seen.specs.Told.{stepped, told, told_of, due_line, turn_lines}
use Rattle.script_seen.specs.Traced.{since, told_text}
use Rattle.script_seen.specs.Following.{Agree, IsStep, IsFollowed, IsCaughtUp, IsEnded, timers_by, timers_laid}
use Rattle.script_seen.specs.declared.turns.Ended.{Ended}
use Rattle.script_seen.specs.declared.tracing.Tracer.{Tracer}

-- ---- an accepted event

pub record Accepted (b : Ledger) (e : Event) (c : Ledger) : Type 0 where
  pub set : c.set ≡ b.set
  pub state : state_of c ≡ (stepped b.set (state_of b) e).to
  pub answer : (ask b e).answer ≡ (stepped b.set (state_of b) e).answer

accepted_by : (b : Ledger) (e : Event) (c : Ledger) (o : Option Refusal) → c ≡ (asked b e (step b.set (runs b.set) (state_of b) e) o).book
    → next c ≡ next b + 1
    → (c.set ≡ b.set) × (state_of c ≡ (step b.set (runs b.set) (state_of b) e).to)
    × ((asked b e (step b.set (runs b.set) (state_of b) e) o).answer ≡ (step b.set (runs b.set) (state_of b) e).answer)
accepted_by b e c None is more = (ap (λ (x : Ledger). x.set) is, ap (λ (x : Ledger). state_of x) is ∙ state_more b e, refl)
accepted_by b e c (Some r) is more =
    let same : next c ≡ next b = ap (λ (x : Ledger). next x) is in
    absurd (omega (arith, same, more))

pub accepted : (b : Ledger) (e : Event) (c : Ledger) → c ≡ (ask b e).book → next c ≡ next b + 1 → Accepted b e c
unfolding ask_by
accepted b e c is more =
    let parts = accepted_by b e c (refusal_by (runs b.set) b e) is more in
    record { set = parts.0; state = parts.1; answer = parts.2 }

-- ---- events that leave timers as they are

abbrev KeepsTimers : Event → Type 0
KeepsTimers e = (d : Draft) (w : Core) → (stepped d w e).to.timers ≡ w.timers

pub offer_keeps : (o : Offer) → KeepsTimers (event.Offer o)
unfolding step
offer_keeps o d w = refl

pub begin_keeps : (n : ℕ) → KeepsTimers (event.Begin n)
unfolding step
begin_keeps n d w = refl

pub skip_keeps : (n : ℕ) → KeepsTimers (event.Skip n)
unfolding step
skip_keeps n d w = refl

pub take_keeps : KeepsTimers event.TakeEnv
unfolding step
take_keeps d w = refl

-- such an event happens to a tracer
pub quiet_step : (old new : Tracer) (e : Event) → KeepsTimers e → new.again ≡ (ask old.again e).book → next new.again ≡ next old.again + 1
    → new.every ≡ old.every → new.wheel ≡ old.wheel → IsStep old e new
quiet_step old new e keeps is more every wheel =
    let a = accepted old.again e new.again is more in
    record {
      set = a.set;
      every = every;
      place = more;
      state = a.state;
      agree = λ agree.
          ap (λ w. timers_of w) wheel
          ∙ (agree ∙ (sym (keeps old.again.set (state_of old.again)) ∙ sym (ap (λ (w : Core). w.timers) a.state)));
    }

-- ---- the end of a turn

delivered_timers : (me : ActorName) (w : Core) (s : Sending) (p : Party) (k : Option InstanceNumber) → (delivered me w s p k).timers ≡ w.timers
delivered_timers me w s Environment k = refl
delivered_timers me w s (Process p) k = refl

laid_timers_one : (n : ℕ) (me : ActorName) (w : Core) (e : Effect) → (laid n me w e).timers ≡ timers_by n w.timers e
laid_timers_one n me w (Output s) = delivered_timers me w s s.receiver.party s.receiver.instance
laid_timers_one n me w (Set t z) = refl
laid_timers_one n me w (Reset t) = refl

laid_timers : (n : ℕ) (me : ActorName) (w : Core) (es : List Effect) → (laid_all n me w es).timers ≡ timers_laid n w.timers es
laid_timers n me w [] = refl
laid_timers n me w (e ∷ es) =
    laid_timers n me (laid n me w e) es ∙ ap (λ ts. timers_laid n ts es) (laid_timers_one n me w e)

finished_timers : (n : ℕ) (me : ActorName) (o : Outcome) (w : Core)
    → (finished n me o w).timers ≡ timers_after o.end (timers_laid n w.timers o.progress.effects) n
unfolding finished
finished_timers n me o w = ap (λ ts. timers_after o.end ts n) (laid_timers n me (started n o w) o.progress.effects)

-- the turn that an actor has under way ends
pub record Finishes (b : Ledger) (n : ℕ) (me : ActorName) (t : Turn) (r : Report) (c : Ledger) : Type 0 where
  pub accepted : Accepted b (event.Finish n) c
  pub report : (o : Outcome) → outcome_of t ≡ Some o → r ≡ report_of n me o (state_of b)
  pub timers : (o : Outcome) → outcome_of t ≡ Some o → (state_of c).timers ≡ timers_after o.end (timers_laid n (state_of b).timers o.progress.effects) n

said_report : (r s : Report) → Says (reply.Finished r) ≡ Says (reply.Finished s) → r ≡ s
said_report r s h = cc

pub finishes : (b : Ledger) (n : ℕ) (me : ActorName) (t : Turn) (r : Report) (c : Ledger) → slice_get (names_in (state_of b).actors) n ≡ Some me
    → turn_out b n ≡ Some t → c ≡ (ask b (event.Finish t.actor)).book → next c ≡ next b + 1
    → (ask b (event.Finish t.actor)).answer ≡ Says (reply.Finished r) → Finishes b n me t r c
finishes b n me t r c called out is more said =
    let own : t.actor ≡ n = ap (λ (x : Turn). x.actor) (is_turn_out b n t out).turn in
    let B : ℕ → Type 0 = λ k. c ≡ (ask b (event.Finish k)).book in
    let S : ℕ → Type 0 = λ k. (ask b (event.Finish k)).answer ≡ Says (reply.Finished r) in
    let a : Accepted b (event.Finish n) c = accepted b (event.Finish n) c (subst B own is) more in
    let answered : (ask b (event.Finish n)).answer ≡ Says (reply.Finished r) = subst S own said in
    record {
      accepted = a;
      report = λ o ran.
          let stepped_is : step b.set (runs b.set) (state_of b) (event.Finish n) ≡ finish_by n me (state_of b) (Some (Ok o)) = ends_with b n me t o called out ran in
          said_report r (report_of n me o (state_of b)) (sym answered ∙ (a.answer ∙ ap (λ (s : Stepped). s.answer) stepped_is));
      timers = λ o ran.
          let stepped_is : step b.set (runs b.set) (state_of b) (event.Finish n) ≡ finish_by n me (state_of b) (Some (Ok o)) = ends_with b n me t o called out ran in
          ap (λ (w : Core). w.timers) (a.state ∙ ap (λ (s : Stepped). s.to) stepped_is) ∙ finished_timers n me o (state_of b);
    }

-- the outcome that has this part
pub record HasPart {A : Type 0} (f : Outcome → A) (x : Option Outcome) (a : A) : Type 0 where
  pub outcome : Outcome
  pub is : x ≡ Some outcome
  pub part : f outcome ≡ a

pub has_part : {A : Type 0} (f : Outcome → A) (x : Option Outcome) (a : A) → option_map f x ≡ Some a → HasPart f x a
has_part f None a h = absurd (cc)
has_part f (Some o) a h = record { outcome = o; is = refl; part = same_Some (f o) a h }

-- the end of the turn in a tracer
pub end_step : (old new : Tracer) (n : ℕ) (me : ActorName) (t : Turn) (r : Report) (es : List Effect) → Finishes old.again n me t r new.again
    → next new.again ≡ next old.again + 1 → new.every ≡ old.every → option_map (λ (o : Outcome). o.progress.effects) (outcome_of t) ≡ Some es
    → timers_of new.wheel ≡ timers_after r.end (timers_laid n (timers_of old.wheel) es) n → IsStep old (event.Finish n) new
end_step old new n me t r es f more every part timers =
    let h = has_part (λ (o : Outcome). o.progress.effects) (outcome_of t) es part in
    let o : Outcome = h.outcome in
    let ended : r.end ≡ o.end = ap (λ (x : Report). x.end) (f.report o h.is) in
    record {
      set = f.accepted.set;
      every = every;
      place = more;
      state = f.accepted.state;
      agree = λ agree.
          timers
          ∙ (ap (λ (e : End). timers_after e (timers_laid n (timers_of old.wheel) es) n) ended
          ∙ (ap (λ (xs : List Effect). timers_after o.end (timers_laid n (timers_of old.wheel) xs) n) (sym h.part)
          ∙ (ap (λ (ts : Timers). timers_after o.end (timers_laid n ts o.progress.effects) n) agree ∙ sym (f.timers o h.is))));
    }

-- ---- ticks

-- the timers after this many ticks
abbrev ticked : ℕ → Timers → Timers
ticked k ts = record { clock = ts.clock + k; deadlines = not_due ts.deadlines (ts.clock + k) }

passed_timers : (d : Draft) (w : Core) (k : ℕ) → (stepped d w (event.Advance k)).to.timers ≡ ticked k w.timers
unfolding step passed
passed_timers d w k = refl

timers_are : (c e : ℕ) (ds es : Deadlines) → c ≡ e → ds ≡ es → (let r : Timers = record { clock = c; deadlines = ds } in r) ≡ record { clock = e; deadlines = es }
timers_are c e ds es p q =
    ap (λ x. let r : Timers = record { clock = x; deadlines = ds } in r) p ∙ ap (λ x. let r : Timers = record { clock = e; deadlines = x } in r) q

pub advance_step : (old new : Tracer) (k : ℕ) → new.again ≡ (ask old.again (event.Advance k)).book → next new.again ≡ next old.again + 1
    → new.every ≡ old.every → new.wheel.clock ≡ old.wheel.clock + k → new.wheel.deadlines ≡ not_due old.wheel.deadlines (old.wheel.clock + k)
    → IsStep old (event.Advance k) new
advance_step old new k is more every clock deadlines =
    let a = accepted old.again (event.Advance k) new.again is more in
    record {
      set = a.set;
      every = every;
      place = more;
      state = a.state;
      agree = λ agree.
          timers_are _ _ _ _ clock deadlines
          ∙ (ap (ticked k) agree ∙ (sym (passed_timers old.again.set (state_of old.again) k) ∙ sym (ap (λ (w : Core). w.timers) a.state)));
    }

pub advance_text : (t : Tracer) (k clock : ℕ) (xs : List Due) → clock ≡ t.wheel.clock + k → xs ≡ due t.wheel.deadlines (t.wheel.clock + k) → Agree t
    → flat_map line_of (map (due_line t.again.set (state_of t.again) clock) xs)
    ≡ flat_map line_of (told t.every t.again.set (state_of t.again) (event.Advance k))
unfolding told
advance_text t k clock xs p q agree =
    let w : Core = state_of t.again in
    let c : clock ≡ w.timers.clock + k = p ∙ ap (λ (ts : Timers). ts.clock + k) agree in
    let d : xs ≡ due_in w k = q ∙ ap (λ (ts : Timers). due ts.deadlines (ts.clock + k)) agree in
    ap (λ n. flat_map line_of (map (due_line t.again.set w n) xs)) c
    ∙ ap (λ ys. flat_map line_of (map (due_line t.again.set w (w.timers.clock + k)) ys)) d

-- ---- a new book, and a restarted journal

pub opened_agree : (d : Draft) (port env journal : ℕ) (b : Ledger) (w : Turning) → b ≡ opened_book d port env journal → w.clock ≡ 0
    → w.deadlines ≡ finite.empty → timers_of w ≡ (state_of b).timers
unfolding opened_book opened
opened_agree d port env journal b w is clock deadlines =
    timers_are w.clock 0 w.deadlines finite.empty clock deadlines ∙ sym (ap (λ (x : Ledger). (state_of x).timers) is)

caught_by : (b : Ledger) (t : Tracer) → b.first ≡ next t.again → IsCaughtUp b t (record { again = rebased t.again; wheel = t.wheel; every = t.every })
unfolding rebased
caught_by b t first = record { set = refl; every = refl; wheel = refl; first = sym first; place = omega arith; state = refl }

pub caught : (b : Ledger) (t : Tracer) (c : Ledger) → c ≡ rebased t.again → b.first ≡ next t.again
    → IsCaughtUp b t (record { again = c; wheel = t.wheel; every = t.every })
caught b t c is first =
    let P : Ledger → Type 0 = λ x. IsCaughtUp b t (record { again = x; wheel = t.wheel; every = t.every }) in subst P (sym is) (caught_by b t first)

pub is_ended : (b : Ledger) (n : ℕ) (e : Ended) (t : Turn) (c : Ledger) (es : List Effect) → e.clock ≡ (state_of b).timers.clock
    → slice_get (names_in (state_of b).actors) n ≡ Some e.me → turn_out b n ≡ Some e.done → Finishes b n e.me t e.report c → t ≡ e.done
    → option_map (λ (o : Outcome). o.progress.effects) (outcome_of e.done) ≡ Some es → IsEnded b n e
unfolding turn_out
is_ended b n e t c es clock named out f same part =
    let h = has_part (λ (o : Outcome). o.progress.effects) (outcome_of e.done) es part in
    record {
      clock = clock;
      named = named;
      turn = out;
      outcome = h.outcome;
      ran = h.is;
      report = f.report h.outcome (ap outcome_of same ∙ h.is);
    }

-- ---- the trace of the end of a turn

pub finish_text : (t : Tracer) (n : ℕ) (e : Ended) (v : List ℕ) (every : Bool) (d : Draft) → IsEnded t.again n e → every ≡ t.every → d ≡ t.again.set
    → ((o : Outcome) → outcome_of e.done ≡ Some o → v ≡ flat_map line_of (turn_lines every d e.clock e.me e.done e.report o))
    → v ≡ flat_map line_of (told t.every t.again.set (state_of t.again) (event.Finish n))
finish_text t n e v every d ended p q h =
    let w : Core = state_of t.again in
    let o : Outcome = ended.outcome in
    h o ended.ran
    ∙ (ap (λ (x : Bool). flat_map line_of (turn_lines x d e.clock e.me e.done e.report o)) p
    ∙ (ap (λ (x : Draft). flat_map line_of (turn_lines t.every x e.clock e.me e.done e.report o)) q
    ∙ (ap (λ (x : ℕ). flat_map line_of (turn_lines t.every t.again.set x e.me e.done e.report o)) ended.clock
    ∙ ap (flat_map line_of) (told_finish t.every t.again.set w n e.me e.done e.report o ended.named ended.turn ended.ran ended.report))))

-- ---- events, one after another

pub followed_begins : (t : Tracer) (from : Option (List ℕ)) → IsFollowed t [] t from from
unfolding told_of
followed_begins t from = record { set = refl; every = refl; place = omega arith; state = refl; agree = λ agree. agree; told = λ agree. Appends-nil from }

told_more : (every : Bool) (d : Draft) (w : Core) (es : List Event) (e : Event)
    → told_of every d w (es ++ e ∷ []) ≡ told_of every d w es ++ told every d (replay d (runs d) w es) e
unfolding told_of
told_more every d w [] e = append-nil (told every d w e)
told_more every d w (x ∷ es) e =
    ap (λ ls. told every d w x ++ ls) (told_more every d (stepped d w x).to es e)
    ∙ sym (append_assoc (told every d w x) (told_of every d (stepped d w x).to es) (told every d (replay d (runs d) (stepped d w x).to es) e))

text_more : (every : Bool) (d : Draft) (w : Core) (es : List Event) (e : Event)
    → told_text every d w (es ++ e ∷ []) ≡ told_text every d w es ++ flat_map line_of (told every d (replay d (runs d) w es) e)
text_more every d w es e =
    ap (flat_map line_of) (told_more every d w es e) ∙ flat_map-append line_of (told_of every d w es) (told every d (replay d (runs d) w es) e)

length_more : {A : Type 0} (xs : List A) (x : A) → length (xs ++ x ∷ []) ≡ length xs + 1
length_more xs x = length-append xs (x ∷ [])

pub followed_more : (t u v : Tracer) (es : List Event) (e : Event) (from mid to : Option (List ℕ)) (text : List ℕ) → IsFollowed t es u from mid → IsStep u e v
    → (Agree u → text ≡ flat_map line_of (told u.every u.again.set (state_of u.again) e)) → Appends mid to text → IsFollowed t (es ++ e ∷ []) v from to
followed_more t u v es e from mid to text f s is grew =
    let d : Draft = t.again.set in
    let w : Core = replay d (runs d) (state_of t.again) es in
    let D : Draft → Type 0 = λ x. state_of v.again ≡ (stepped x (state_of u.again) e).to in
    let W : Core → Type 0 = λ x. state_of v.again ≡ (stepped d x e).to in
    let A : List ℕ → Type 0 = λ x. Appends from to x in
    let B : List ℕ → Type 0 = λ x. Appends mid to x in
    record {
      set = s.set ∙ f.set;
      every = s.every ∙ f.every;
      place = omega (arith, s.place, f.place, length_more es e);
      state = subst W f.state (subst D f.set s.state) ∙ sym (replay_more d (runs d) (state_of t.again) es e);
      agree = λ agree. s.agree (f.agree agree);
      told = λ agree.
          let same : text ≡ flat_map line_of (told t.every d w e) =
          is (f.agree agree)
          ∙ (ap (λ (x : Bool). flat_map line_of (told x u.again.set (state_of u.again) e)) f.every
          ∙ (ap (λ (x : Draft). flat_map line_of (told t.every x (state_of u.again) e)) f.set
          ∙ ap (λ (x : Core). flat_map line_of (told t.every d x e)) f.state)) in
          subst A (sym (text_more t.every d (state_of t.again) es e))
          (Appends-trans from mid to (told_text t.every d (state_of t.again) es) (flat_map line_of (told t.every d w e)) (f.told agree) (subst B same grew));
    }

-- one more event of a list
pub followed_on : (t u v : Tracer) (items : List Event) (i : ℕ) (x : Event) (from mid to : Option (List ℕ)) (text : List ℕ) → i < length items → x ≡ get_or items i x
    → IsFollowed t (take i items) u from mid → IsStep u x v
    → (Agree u → text ≡ flat_map line_of (told u.every u.again.set (state_of u.again) x)) → Appends mid to text
    → IsFollowed t (take (i + 1) items) v from to
followed_on t u v items i x from mid to text within is f s told grew =
    let P : List Event → Type 0 = λ es. IsFollowed t es v from to in
    subst P (sym (take_more items i x within ∙ ap (λ y. take i items ++ y ∷ []) (sym is))) (followed_more t u v (take i items) x from mid to text f s told grew)

-- all events of a list
pub followed_all : (t u : Tracer) (items : List Event) (i : ℕ) (from to : Option (List ℕ)) → length items ≤ i → IsFollowed t (take i items) u from to
    → IsFollowed t items u from to
followed_all t u items i from to over f = let P : List Event → Type 0 = λ es. IsFollowed t es u from to in subst P (take_all i items over) f

-- the events since the journal was restarted
followed_from : (b : Ledger) (t m u : Tracer) (es : List Event) (from to : Option (List ℕ)) → IsCaughtUp b t m → IsFollowed m es u from to → IsFollowed t es u from to
followed_from b t m u es from to k f =
    let agrees : Agree t → Agree m = λ agree. ap (λ w. timers_of w) k.wheel ∙ (agree ∙ ap (λ (w : Core). w.timers) (sym k.state)) in
    let S : Draft → Type 0 = λ d. state_of u.again ≡ replay d (runs d) (state_of t.again) es in
    let W : Core → Type 0 = λ w. state_of u.again ≡ replay m.again.set (runs m.again.set) w es in
    let E : Bool → Type 0 = λ e. Appends from to (told_text e t.again.set (state_of t.again) es) in
    let D : Draft → Type 0 = λ d. Appends from to (told_text m.every d (state_of t.again) es) in
    let V : Core → Type 0 = λ w. Appends from to (told_text m.every m.again.set w es) in
    record {
      set = f.set ∙ k.set;
      every = f.every ∙ k.every;
      place = omega (arith, f.place, k.place);
      state = subst S k.set (subst W k.state f.state);
      agree = λ agree. f.agree (agrees agree);
      told = λ agree. subst E k.every (subst D k.set (subst V k.state (f.told (agrees agree))));
    }

-- the elements after the first k, to the end of the list
pub all_behind : (xs : List Event) (k : ℕ) → take (length xs - k) (drop k xs) ≡ drop k xs
all_behind xs k = take_all (length xs - k) (drop k xs) (omega (arith, length-drop k xs))

pub followed_since : (b : Ledger) (t m u : Tracer) (done : ℕ) (es : List Event) (from to : Option (List ℕ)) → IsCaughtUp b t m → done ≡ length m.again.journal
    → es ≡ drop done b.journal → IsFollowed m es u from to → IsFollowed t (since (next t.again) b) u from to
followed_since b t m u done es from to k e is f =
    let place : done ≡ next t.again - b.first = omega (arith, e, k.first, k.place) in
    let P : List Event → Type 0 = λ xs. IsFollowed t xs u from to in
    subst P (is ∙ ap (λ n. drop n b.journal) place) (followed_from b t m u es from to k f)

pub none_lost : (b : Ledger) (t m : Tracer) → IsCaughtUp b t m → b.first ≤ next t.again
none_lost b t m k = omega (arith, k.first, k.place)
