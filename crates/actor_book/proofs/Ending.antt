-- The turn that an actor has out, and the link after its end.
use Rattle.std.proofs.Common.{◌≡◌, ℕ, ◌+◌, ◌*◌, ◌^◌, ◌≤◌, ◌<◌, Bool, true, cond, get_or, zero, suc, List, [], ◌∷◌, length, Option, Some, None, refl, sym, ap, ◌∙◌, subst, arith}
use Rattle.std.specs.Prelude.{slice_get, option_map, count_by, Result, Ok}
use Rattle.std.proofs.lemmas.List.Sums.{get_or-le-sum_by}
use Rattle.std.proofs.lemmas.Option.{same_Some, slice_get_within, slice_get-map, get_or_from_slice_get}
use Rattle.std.proofs.lemmas.Slice.Zip.{AllZip-long}
use Rattle.turn_code.specs.Outcome.{Outcome, outcome_in, result_in}
use Rattle.turn_code.specs.declared.trouble.Trouble.{Trouble}
use Rattle.turn_code.specs.declared.numbers.ProcessNumber.{ProcessNumber}
use Rattle.turn_code.specs.Run.{Progress, Ran, run, ended, got_stuck, unfinished}
use Rattle.turn_code.specs.Effects.{EffectsLaw, IsRightEffect, AreRightEffects}
use Rattle.turn_code.specs.Rules.{KeepsProcessLimits, KeepsPieceLimits}
use Rattle.turn_code.specs.Safe.{RunLaw, RunsWell}
use Rattle.turn_code.specs.declared.instruction.Instruction.{Instruction}
use Rattle.turn_code.specs.Transitions.{Transition, transition_at, place_at, process_at, start_at, input_at, start_of, input_of}
use Rattle.turn_code.specs.Valid.{IsValid, IsValidTransition}
use Rattle.turn_code.specs.Fits.{HasSort, Fits}
use Rattle.turn_code.specs.declared.value.Value.{Value}
use Rattle.turn_code.specs.declared.effect.Effect.{Effect}
use Rattle.turn_code.specs.declared.effect.Effect.TheVariants.{Output, Set, Reset}
use Rattle.turn_code.specs.declared.machine.End.{End}
use Rattle.turn_code.specs.declared.input.Place.{Place}
use Rattle.turn_code.specs.declared.input.Place.TheVariants.{Start, State}
use Rattle.turn_code.specs.declared.draft.Draft.{Draft}
use Rattle.turn_code.specs.declared.draft.DraftSignal.{DraftSignal}
use Rattle.turn_code.specs.declared.draft.DraftProcess.{DraftProcess}
use Rattle.turn_code.specs.declared.draft.DraftState.{DraftState}
use Rattle.turn_code.specs.declared.draft.DraftInput.{DraftInput}
use Rattle.turn_machine.specs.Turn.{Turn, IsRunnable, turn_of, outcome_of}
use Rattle.actor_state.specs.Outcomes.{outcome_with, HasTimer, HaveTimers}
use Rattle.actor_machine.specs.Names.{actors_of}
use Rattle.actor_machine.specs.declared.name.ActorName.{ActorName}
use Rattle.actor_machine.specs.Core.{Core, is_out, names_in, outs}
use Rattle.actor_machine.specs.Effects.{finished}
use Rattle.actor_machine.specs.Fits.{CoreFits, GivenFits}
use Rattle.actor_machine.specs.Kept.{IsKept}
use Rattle.actor_machine.specs.Laws.{OutLaw, FitsLaw}
use Rattle.actor_book.specs.Accepted.{Takes}
use Rattle.actor_book.specs.Inside.{IsBook}
use Rattle.actor_book.proofs.Taking.{after_step}
use Rattle.actor_machine.specs.Ledger.{Ledger, runs, run_of, state_of, turn_with, turn_given, turn_at, turn_out}
use Rattle.actor_machine.specs.Step.{Stepped, Says, step, finish_by, finish_at, result_given, report_of}
use Rattle.actor_machine.specs.declared.actor.Actor.{Actor}
use Rattle.actor_machine.specs.declared.actor.Given.{Given}
use Rattle.actor_machine.specs.declared.actor.Standing.{Standing}
use Rattle.actor_machine.specs.declared.actor.Standing.TheVariants.{At, Stopped}
use Rattle.actor_machine.specs.declared.event.Event.TheVariants.{Finish}
use Rattle.actor_machine.specs.declared.reply.Reply.TheVariants as reply
use Rattle.turn_check.proofs.Whole.{process_small as process_limits}

-- ---- the outcome of a job's run, from its parts

pub from_parts : (o : Option Outcome) (e : End) (vs : List (Option Value)) (es : List Effect) (count : ℕ)
    → option_map (λ (x : Outcome). x.end) o ≡ Some e → option_map (λ (x : Outcome). x.progress.variables) o ≡ Some vs
    → option_map (λ (x : Outcome). x.progress.effects) o ≡ Some es → option_map (λ (x : Outcome). x.progress.count) o ≡ Some count
    → o ≡ Some (outcome_with e vs es count)
from_parts None e vs es count h k l m = absurd (cc)
from_parts (Some x) e vs es count h k l m =
    let he : x.end ≡ e = cc in
    let hv : x.progress.variables ≡ vs = cc in
    let hs : x.progress.effects ≡ es = cc in
    let hc : x.progress.count ≡ count = cc in
    ap (λ (z : End). Some (outcome_with z x.progress.variables x.progress.effects x.progress.count)) he
    ∙ ap (λ (z : List (Option Value)). Some (outcome_with e z x.progress.effects x.progress.count)) hv
    ∙ ap (λ (z : List Effect). Some (outcome_with e vs z x.progress.count)) hs
    ∙ ap (λ (z : ℕ). Some (outcome_with e vs es z)) hc

-- ---- the turn that is out, and its outcome

ok_of : (r : Ran) (o : Outcome) → outcome_in r ≡ Some o → result_in r ≡ Ok o
ok_of (ended e t) o h = ap (λ (x : Outcome). Ok x) (same_Some _ o h)
ok_of (got_stuck x) o h = absurd (cc)
ok_of unfinished o h = absurd (cc)

with_turn : (n : ℕ) (p : ProcessNumber) (s : Place) (g : Given) (q : Option Transition) (t : Turn) (o : Outcome) → turn_with n p s g q ≡ Some t → outcome_of t ≡ Some o
    → run_of q g.input ≡ Ok o
with_turn n p s g None t o h k = absurd (cc)
with_turn n p s g (Some x) t o h k =
    let same : turn_of n g.turn p s g.number x.piece.code x.piece.certificate g.input ≡ t = cc in
    ok_of (run x.piece.code g.input) o (ap outcome_of same ∙ k)

given_turn : (d : Draft) (n : ℕ) (p : ProcessNumber) (s : Standing) (g : Option Given) (t : Turn) (o : Outcome) → turn_given d n p s g ≡ Some t → outcome_of t ≡ Some o
    → result_given (runs d) p.0 s g ≡ Some (Ok o)
unfolding runs
given_turn d n p (At s) None t o h k = absurd (cc)
given_turn d n p (At s) (Some g) t o h k = ap (λ (r : Result Outcome Trouble). Some r) (with_turn n p s g (transition_at d p.0 s g.number) t o h k)
given_turn d n p Stopped g t o h k = absurd (cc)

turn_finish : (d : Draft) (n : ℕ) (w : Core) (a : Option Actor) (me : ActorName) (t : Turn) (o : Outcome) → option_map (λ (x : Actor). x.name) a ≡ Some me
    → turn_at d n a ≡ Some t → outcome_of t ≡ Some o → finish_at (runs d) n w a ≡ finish_by n me w (Some (Ok o))
turn_finish d n w None me t o called h k = absurd (cc)
turn_finish d n w (Some a) me t o called h k =
    ap (finish_by n a.name w) (given_turn d n a.name.process a.standing a.given t o h k)
    ∙ ap (λ (x : ActorName). finish_by n x w (Some (Ok o))) (same_Some a.name me called)

pub ends_with : (b : Ledger) (n : ℕ) (me : ActorName) (t : Turn) (o : Outcome) → slice_get (names_in (state_of b).actors) n ≡ Some me → turn_out b n ≡ Some t → outcome_of t ≡ Some o
    → step b.set (runs b.set) (state_of b) (Finish n) ≡ finish_by n me (state_of b) (Some (Ok o))
unfolding turn_out step
ends_with b n me t o called h k =
    turn_finish b.set n (state_of b) (slice_get (state_of b).actors n) me t o
    (sym (slice_get-map (λ (x : Actor). x.name) (state_of b).actors n) ∙ called) h k

-- ---- an actor with a turn out

pub record IsOut (b : Ledger) (n : ℕ) (t : Turn) : Type 0 where
  pub actor : Actor
  pub there : slice_get (state_of b).actors n ≡ Some actor
  pub place : Place
  pub standing : actor.standing ≡ At place
  pub given : Given
  pub out : actor.given ≡ Some given
  pub transition : Transition
  pub found : transition_at b.set actor.name.process.0 place given.number ≡ Some transition
  pub turn : t ≡ turn_of n given.turn actor.name.process place given.number transition.piece.code transition.piece.certificate given.input

pub record AreOut (d : Draft) (n : ℕ) (p : ProcessNumber) (s : Standing) (o : Option Given) (t : Turn) : Type 0 where
  pub place : Place
  pub standing : s ≡ At place
  pub given : Given
  pub out : o ≡ Some given
  pub transition : Transition
  pub found : transition_at d p.0 place given.number ≡ Some transition
  pub turn : t ≡ turn_of n given.turn p place given.number transition.piece.code transition.piece.certificate given.input

out_with : (n : ℕ) (p : ProcessNumber) (s : Place) (g : Given) (q : Option Transition) (t : Turn) → turn_with n p s g q ≡ Some t
    → (x : Transition) × (q ≡ Some x) × (t ≡ turn_of n g.turn p s g.number x.piece.code x.piece.certificate g.input)
out_with n p s g None t h = absurd (cc)
out_with n p s g (Some x) t h =
    let same : turn_of n g.turn p s g.number x.piece.code x.piece.certificate g.input ≡ t = cc in
    (x, refl, sym same)

pub out_given : (d : Draft) (n : ℕ) (p : ProcessNumber) (s : Standing) (o : Option Given) (t : Turn) → turn_given d n p s o ≡ Some t → AreOut d n p s o t
out_given d n p (At s) None t h = absurd (cc)
out_given d n p (At s) (Some g) t h =
    let found = out_with n p s g (transition_at d p.0 s g.number) t h in
    record { place = s; standing = refl; given = g; out = refl; transition = found.0; found = found.1; turn = found.2 }
out_given d n p Stopped o t h = absurd (cc)

out_actor : (d : Draft) (n : ℕ) (o : Option Actor) (t : Turn) → turn_at d n o ≡ Some t
    → (a : Actor) × (o ≡ Some a) × AreOut d n a.name.process a.standing a.given t
out_actor d n None t h = absurd (cc)
out_actor d n (Some a) t h = (a, refl, out_given d n a.name.process a.standing a.given t h)

pub is_turn_out : (b : Ledger) (n : ℕ) (t : Turn) → turn_out b n ≡ Some t → IsOut b n t
unfolding turn_out
is_turn_out b n t h =
    let found = out_actor b.set n (slice_get (state_of b).actors n) t h in
    let parts = found.2 in
    record {
      actor = found.0;
      there = found.1;
      place = parts.place;
      standing = parts.standing;
      given = parts.given;
      out = parts.out;
      transition = parts.transition;
      found = parts.found;
      turn = parts.turn;
    }

pub out_inside : (b : Ledger) (n : ℕ) (t : Turn) → turn_out b n ≡ Some t → n < length (state_of b).actors
out_inside b n t h = let o = is_turn_out b n t h in slice_get_within (state_of b).actors n o.actor o.there

-- ---- numbers

abbrev weight : Actor → ℕ
weight a = cond (is_out a) 1 0

one_out : (xs : List Actor) (n : ℕ) (a : Actor) → slice_get xs n ≡ Some a → is_out a ≡ true → 1 ≤ count_by is_out xs
one_out xs n a h k =
    let le : weight (get_or xs n a) ≤ count_by is_out xs = get_or-le-sum_by weight xs n a (slice_get_within xs n a h) in
    let same : weight (get_or xs n a) ≡ weight a = ap weight (get_or_from_slice_get xs n a a h) in
    let one : weight a ≡ 1 = ap (λ (b : Bool). cond b 1 0) k in
    omega arith

pub counts_on : (b : Ledger) (n : ℕ) (t : Turn) → IsKept b → turn_out b n ≡ Some t → (state_of b).finishes < 2 ^ 40
counts_on b n t kept h =
    let o = is_turn_out b n t h in
    let out : is_out o.actor ≡ true = rw o.out refl in
    let some : 1 ≤ outs (state_of b).actors = one_out (state_of b).actors n o.actor o.there out in
    let sum : (state_of b).finishes + outs (state_of b).actors ≡ (state_of b).turns = kept.bounded.finishes in
    let most : (state_of b).turns ≤ 2 ^ 40 = kept.bounded.turns in
    omega arith

-- ---- timers

in_process : (ss : List DraftSignal) (n : ℕ) (p : DraftProcess) (s : Place) (i : ℕ) (t : Transition) → place_at ss n p s i ≡ Some t → t.process ≡ p
in_process ss n p Start i t h = in_start n p i t h
  where
    in_start : (n : ℕ) (p : DraftProcess) (i : ℕ) (t : Transition) → start_at n p i ≡ Some t → t.process ≡ p
    in_start n p zero t h = let same : start_of n p ≡ t = cc in ap (λ (x : Transition). x.process) (sym same)
    in_start n p (suc i) t h = absurd (cc)
in_process ss n p (State q) i t h = in_state ss n p i (slice_get p.states q.0) t h
  where
    in_input : (ss : List DraftSignal) (n : ℕ) (p : DraftProcess) (q : DraftState) (x : Option DraftInput) (t : Transition)
        → option_map (input_of ss n p q) x ≡ Some t → t.process ≡ p
    in_input ss n p q None t h = absurd (cc)
    in_input ss n p q (Some x) t h = let same : input_of ss n p q x ≡ t = cc in ap (λ (x : Transition). x.process) (sym same)

    in_state : (ss : List DraftSignal) (n : ℕ) (p : DraftProcess) (i : ℕ) (q : Option DraftState) (t : Transition)
        → input_at ss n p i q ≡ Some t → t.process ≡ p
    in_state ss n p i None t h = absurd (cc)
    in_state ss n p i (Some q) t h = in_input ss n p q (slice_get q.inputs i) t h

process_found : (ss : List DraftSignal) (n : ℕ) (s : Place) (i : ℕ) (o : Option DraftProcess) (t : Transition) → process_at ss n s i o ≡ Some t
    → (p : DraftProcess) × (o ≡ Some p) × (t.process ≡ p)
process_found ss n s i None t h = absurd (cc)
process_found ss n s i (Some p) t h = (p, refl, in_process ss n p s i t h)

few_timers : (d : Draft) (n : ℕ) (s : Place) (i : ℕ) (t : Transition) → IsValid d → transition_at d n s i ≡ Some t → length t.process.timers ≤ 8
few_timers d n s i t valid h =
    let found = process_found d.signals n s i (slice_get d.processes n) t h in
    let limits : KeepsProcessLimits found.0 = process_limits d n found.0 valid found.1 in
    subst (λ (p : DraftProcess). length p.timers ≤ 8) (sym found.2) limits.timers

has_timer : (d : Draft) (t : Transition) (e : Effect) → length t.process.timers ≤ 8 → IsRightEffect d t e → HasTimer e
has_timer d t (Output s) few h = tt {0}
has_timer d t (Set n z) few h = omega arith
has_timer d t (Reset n) few h = omega arith

have_timers : (d : Draft) (t : Transition) (es : List Effect) → length t.process.timers ≤ 8 → AreRightEffects d t es → HaveTimers es
have_timers d t [] few h = tt {0}
have_timers d t (e ∷ es) few h = (has_timer d t e few h.0, have_timers d t es few h.1)

as_outcome : End → Progress → Outcome
as_outcome e s = record { end = e; progress = s }

ran_so : (r : Ran) (e : End) (s : Progress) → outcome_in r ≡ Some (record { end = e; progress = s }) → r ≡ ended e s
unfolding as_outcome
ran_so (ended f t) e s h =
    let same : as_outcome f t ≡ as_outcome e s = cc in
    ap (λ (o : Outcome). ended o.end o.progress) same
ran_so (got_stuck x) e s h = absurd (cc)
ran_so unfinished e s h = absurd (cc)

given_fits : (d : Draft) (n : ℕ) (s : Standing) (o : Option Given) (p : Place) (g : Given) → s ≡ At p → o ≡ Some g → GivenFits d n s o → Fits d n p g.number g.input
given_fits d n (At q) None p g h k f = absurd (cc)
given_fits d n (At q) (Some x) p g h k f =
    let same : q ≡ p = cc in
    let like : x ≡ g = cc in
    subst (λ (y : Given). Fits d n p y.number y.input) like (subst (λ (z : Place). Fits d n z x.number x.input) same f)
given_fits d n Stopped o p g h k f = absurd (cc)

pub timers_right : EffectsLaw → (b : Ledger) (n : ℕ) (t : Turn) (e : End) (vs : List (Option Value)) (es : List Effect) (count : ℕ)
    → IsKept b → CoreFits b.set (state_of b) → turn_out b n ≡ Some t → outcome_of t ≡ Some (outcome_with e vs es count) → HaveTimers es
timers_right law b n t e vs es count kept core h ran =
    let o = is_turn_out b n t h in
    let actor = core.each n o.actor o.there in
    let p = o.actor.name.process.0 in
    let fits : Fits b.set p o.place o.given.number o.given.input =
    given_fits b.set p o.actor.standing o.actor.given o.place o.given o.standing o.out actor.given in
    let valid : IsValidTransition b.set fits.transition = kept.stands.valid.each p o.place o.given.number fits.transition fits.there in
    let same : o.transition ≡ fits.transition = cc in
    let s : Progress = record { variables = vs; effects = es; count = count } in
    let run_is : outcome_in (run fits.transition.piece.code o.given.input) ≡ Some (outcome_with e vs es count) =
    ap (λ (x : Transition). outcome_in (run x.piece.code o.given.input)) (sym same) ∙ ap outcome_of (sym o.turn) ∙ ran in
    let right : AreRightEffects b.set fits.transition es =
    law b.set fits.transition o.given.input e s valid fits.fits (ran_so (run fits.transition.piece.code o.given.input) e s run_is) in
    have_timers b.set fits.transition es (few_timers b.set p o.place o.given.number fits.transition kept.stands.valid fits.there) right

-- ---- the end of a turn, with the link in memory

pub ends_so : (b : Ledger) (w : Core) (n : ℕ) (me : ActorName) (t : Turn) (o : Outcome) → w ≡ state_of b → slice_get (names_in w.actors) n ≡ Some me
    → turn_out b n ≡ Some t → outcome_of t ≡ Some o → step b.set (runs b.set) w (Finish n) ≡ finish_by n me w (Some (Ok o))
ends_so b w n me t o same called h k =
    subst (λ (x : Core). step b.set (runs b.set) x (Finish n) ≡ finish_by n me x (Some (Ok o))) (sym same)
    (ends_with b n me t o (subst (λ (x : Core). slice_get (names_in x.actors) n ≡ Some me) same called) h k)

pub few_effects : (b : Ledger) (n : ℕ) (t : Turn) → IsKept b → turn_out b n ≡ Some t → t.certificate.effects ≤ 32
few_effects b n t kept h =
    let o = is_turn_out b n t h in
    let valid : IsValidTransition b.set o.transition = kept.stands.valid.each o.actor.name.process.0 o.place o.given.number o.transition o.found in
    let limits : KeepsPieceLimits o.transition.piece = (valid.limit 0).piece refl in
    subst (λ (x : Turn). x.certificate.effects ≤ 32) (sym o.turn) limits.effects

pub still_out : (b old : Ledger) (n : ℕ) (t : Turn) → b ≡ old → turn_out old n ≡ Some t → turn_out b n ≡ Some t
still_out b old n t e h = ap (λ (x : Ledger). turn_out x n) e ∙ h

module _ (b old : Ledger) (w : Core) (n : ℕ) (t : Turn) (view : b ≡ old) where
  module _ (c : ℕ) (inside : IsBook b w c) (h : turn_out old n ≡ Some t) where
    pub out_in : n < length w.actors
    out_in = subst (λ (x : Core). n < length x.actors) (sym inside.state) (out_inside b n t (still_out b old n t view h))

    pub finishes_in : w.finishes < 2 ^ 40
    finishes_in = subst (λ (x : Core). x.finishes < 2 ^ 40) (sym inside.state) (counts_on b n t inside.kept (still_out b old n t view h))

    pub takes_in : OutLaw → Takes old (Finish n)
    takes_in law = law.own old n t (subst (λ (x : Ledger). IsKept x) view inside.kept) h

    pub timers_in : EffectsLaw → FitsLaw → (e : End) (vs : List (Option Value)) (es : List Effect) (count : ℕ)
        → outcome_of t ≡ Some (outcome_with e vs es count) → HaveTimers es
    timers_in law fits e vs es count ran =
        timers_right law b n t e vs es count inside.kept (fits b inside.kept) (still_out b old n t view h) ran

    -- the link's own end of the turn is the machine's step
    pub link_ends : (k : ℕ) (me : ActorName) (o : Outcome) → k ≡ n → slice_get (names_in w.actors) n ≡ Some me → outcome_of t ≡ Some o
        → finished k me o w ≡ after_step b w (Finish n)
    link_ends k me o same called ran =
        ap (λ (j : ℕ). finished j me o w) same ∙ sym (ap (λ (s : Stepped). s.to) (ends_so b w n me t o inside.state called (still_out b old n t view h) ran))

    pub link_reports : (k : ℕ) (me : ActorName) (o : Outcome) → k ≡ n → slice_get (names_in w.actors) n ≡ Some me → outcome_of t ≡ Some o
        → Says (reply.Finished (report_of k me o w)) ≡ (step b.set (runs b.set) w (Finish n)).answer
    link_reports k me o same called ran =
        ap (λ (j : ℕ). Says (reply.Finished (report_of j me o w))) same
        ∙ sym (ap (λ (s : Stepped). s.answer) (ends_so b w n me t o inside.state called (still_out b old n t view h) ran))

-- the actors of a book are those of its set
pub names_known : (b : Ledger) (w : Core) (capacity : ℕ) → FitsLaw → IsBook b w capacity → names_in w.actors ≡ actors_of b.set.processes
names_known b w capacity fits inside = ap (λ (x : Core). names_in x.actors) inside.state ∙ (fits b inside.kept).names

-- ---- how many variables a turn leaves

run_outcome : (r : Ran) (e : End) (s : Progress) → r ≡ ended e s → outcome_in r ≡ Some (as_outcome e s)
unfolding as_outcome
run_outcome r e s h = ap outcome_in h

variables_in : (e : End) (s : Progress) (o : Option Outcome) (vs : List (Option Value)) → o ≡ Some (as_outcome e s)
    → option_map (λ (x : Outcome). x.progress.variables) o ≡ Some vs → s.variables ≡ vs
unfolding as_outcome
variables_in e s None vs h k = absurd (cc)
variables_in e s (Some x) vs h k =
    let same : x ≡ record { end = e; progress = s } = cc in
    let is : x.progress.variables ≡ vs = cc in
    ap (λ (y : Outcome). y.progress.variables) (sym same) ∙ is

pub few_variables : RunLaw → (t : Turn) (vs : List (Option Value)) → IsRunnable t → option_map (λ (o : Outcome). o.progress.variables) (outcome_of t) ≡ Some vs
    → length t.input.variables.items ≤ 32 → length vs ≤ 32
few_variables law t vs able h few =
    let well : RunsWell able.transition t.input = law able.draft able.transition t.input able.valid able.fits in
    let ran : outcome_of t ≡ Some (as_outcome well.end well.progress) =
    ap (λ (c : List Instruction). outcome_in (run c t.input)) (sym able.code) ∙ run_outcome (run able.transition.piece.code t.input) well.end well.progress well.ran in
    let same : well.progress.variables ≡ vs =
    variables_in well.end well.progress (outcome_of t) vs ran h in
    let one : length well.progress.variables ≡ length able.transition.process.variables =
    AllZip-long HasSort able.transition.process.variables well.progress.variables well.well.variables in
    let two : length t.input.variables.items ≡ length able.transition.process.variables =
    AllZip-long HasSort able.transition.process.variables t.input.variables.items able.fits.variables in
    let three : length well.progress.variables ≡ length vs = ap length same in
    omega arith

-- ---- a job that is made once more

pub own_actor : (b : Ledger) (n : ℕ) (t r : Turn) → turn_out b n ≡ Some t → r ≡ t → r.actor ≡ n
own_actor b n t r h same =
    let o = is_turn_out b n t h in
    ap (λ (x : Turn). x.actor) same ∙ ap (λ (x : Turn). x.actor) o.turn

pub still_own : (b : Ledger) (n : ℕ) (t r : Turn) → turn_out b n ≡ Some t → r ≡ t → turn_out b r.actor ≡ Some r
still_own b n t r h same = ap (λ (k : ℕ). turn_out b k) (own_actor b n t r h same) ∙ h ∙ ap (λ (x : Turn). Some x) (sym same)

pub no_turn : (o : Option Turn) → ((t : Turn) → o ≡ Some t → ⊥) → o ≡ None
no_turn None h = refl
no_turn (Some t) h = absurd (h t refl)
