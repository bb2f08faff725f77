-- Each output of a turn that is out has a receiver.
use Rattle.std.proofs.Common.{◌≡◌, ◌⊎◌, inl, inr, ⊎_elim, ℕ, zero, suc, ◌+◌, ◌≤◌, ◌<◌, arith, List, [], ◌∷◌, ◌++◌, length, take, reverse, Option, Some, None, refl, sym, ap, ◌∙◌, subst}
use Rattle.std.specs.Prelude.{slice_get, IfSome}
use Rattle.std.specs.List.{AllByRecursion}
use Rattle.std.proofs.lemmas.Option.{same_Some, none-some}
use Rattle.plain_laws.proofs.Lists.{each_push as all_push}
use Rattle.turn_code.proofs.RightEffects.{EffectsAre, Adds, act_keeps}
use Rattle.turn_code.specs.Effects.{EffectsLaw, IsRightEffect, AreRightEffects}
use Rattle.turn_code.specs.Fits.{FitsTransition}
use Rattle.turn_code.specs.Outcome.{Outcome, outcome_in}
use Rattle.turn_code.specs.Routes.{IsPartyOf}
use Rattle.turn_code.specs.Rules.{KeepsProcessLimits}
use Rattle.turn_code.specs.Run.{Progress, After, goes, ends, stuck, tick, of_party, address_of as address_for, sending, act, act_if, Ran, ended, got_stuck, unfinished, go_on, exec, run, begun}
use Rattle.turn_code.specs.Transitions.{Transition, transition_at, process_at, start_of}
use Rattle.turn_code.specs.Valid.{IsValid}
use Rattle.turn_code.specs.declared.draft.Draft.{Draft}
use Rattle.turn_code.specs.declared.effect.Effect.{Effect}
use Rattle.turn_code.specs.declared.effect.Effect.TheVariants as effect
use Rattle.turn_code.specs.declared.input.Address.{Address}
use Rattle.turn_code.specs.declared.input.Input.{Input}
use Rattle.turn_code.specs.declared.input.Party.{Party}
use Rattle.turn_code.specs.declared.input.Party.TheVariants.{Environment, Process}
use Rattle.turn_code.specs.declared.input.Place.{Place}
use Rattle.turn_code.specs.declared.input.Place.TheVariants.{Start}
use Rattle.turn_code.specs.declared.instruction.Instruction.{Instruction}
use Rattle.turn_code.specs.declared.instruction.Instruction.TheVariants.{Output, Set, Reset}
use Rattle.turn_code.specs.declared.instruction.Receiver.{Receiver}
use Rattle.turn_code.specs.declared.instruction.Receiver.TheVariants.{Party as ToParty, Sender as ToSender}
use Rattle.turn_code.specs.declared.machine.End.{End}
use Rattle.turn_code.specs.declared.numbers.InstanceNumber.{InstanceNumber}
use Rattle.turn_code.specs.declared.numbers.ProcessNumber.{ProcessNumber}
use Rattle.turn_code.specs.declared.value.Value.{Value}
use Rattle.turn_machine.specs.Turn.{Turn, turn_of, outcome_of}
use Rattle.actor_machine.specs.Names.{actors_of, place_of, number_for, first_some}
use Rattle.actor_machine.specs.Fits.{IsActor, IsSender, GivenFits, GivenBy, ActorFits}
use Rattle.actor_machine.specs.Ledger.{turn_with, turn_given, turn_at}
use Rattle.actor_machine.specs.Receivers.{IsGot, HasReceiver, IsReceived, AreReceived}
use Rattle.actor_machine.specs.declared.actor.Actor.{Actor}
use Rattle.actor_machine.specs.declared.actor.Given.{Given}
use Rattle.actor_machine.specs.declared.actor.Standing.{Standing}
use Rattle.actor_machine.specs.declared.actor.Standing.TheVariants.{At, Stopped}
use Rattle.actor_machine.specs.declared.name.ActorName.{ActorName}
use Rattle.actor_machine.proofs.NameStanding.{IsOfProcess, right_process}
use Rattle.actor_machine.proofs.Numbering.{there, actors_law}

-- ---- the address of an output: a party without an instance, or the sender of the turn's signal

abbrev IsAddressed : Option Address → Effect → Type 0
IsAddressed sender (effect.Output s) = (s.receiver.instance ≡ None) ⊎ (sender ≡ Some s.receiver)
IsAddressed sender (effect.Set t z) = Unit {0}
IsAddressed sender (effect.Reset t) = Unit {0}

abbrev AreAddressed : Option Address → List Effect → Type 0
AreAddressed sender es = AllByRecursion (IsAddressed sender) es

-- an effect that an instruction adds is addressed in this way
adds : (i : Instruction) (x : Input) (os : List Value) (es : List Effect) → AreAddressed x.sender es → Adds (AreAddressed x.sender) i x os es
adds (Output n r c) x os es h = by r
  where
    by : (r : Receiver) (p : Address) → address_for r x.sender ≡ Some p → AreAddressed x.sender (es ++ sending n p (reverse (take c os)) ∷ [])
    by (ToParty q) p e =
        all_push (IsAddressed x.sender) es (sending n p (reverse (take c os))) h
        (inl (ap (λ (a : Address). a.instance) (sym (same_Some (of_party q) p e))))
    by ToSender p e = all_push (IsAddressed x.sender) es (sending n p (reverse (take c os))) h (inr e)
adds (Set t) x os es h = λ z. all_push (IsAddressed x.sender) es (effect.Set t z) h tt
adds (Reset t) x os es h = all_push (IsAddressed x.sender) es (effect.Reset t) h tt
adds _ x os es h = tt

abbrev GaveAddressed : Option Address → Ran → Type 0
GaveAddressed sender (ended e s) = AreAddressed sender s.effects
GaveAddressed sender (got_stuck z) = Unit {0}
GaveAddressed sender unfinished = Unit {0}

-- the effects of a run of n instructions are addressed in this way, from any place on
abbrev Goes : List Instruction → Input → ℕ → Type 0
Goes code x n = (k : ℕ) (os : List Value) (s : Progress) → AreAddressed x.sender s.effects → GaveAddressed x.sender (exec code x n k os s)

runs_addressed : (code : List Instruction) (x : Input) (n k : ℕ) (os : List Value) (s : Progress) → AreAddressed x.sender s.effects
    → GaveAddressed x.sender (exec code x n k os s)
runs_addressed code x zero k os s h = tt
runs_addressed code x (suc n) k os s h = by (λ j os' s' right. runs_addressed code x n j os' s' right) (slice_get code k)
  where
    on : Goes code x n → (a : After) → EffectsAre (AreAddressed x.sender) a → GaveAddressed x.sender (go_on (exec code x n) a)
    on rest (goes j os' s') right = rest j os' s' right
    on rest (ends e s') right = right
    on rest (stuck z) right = tt

    by : Goes code x n → (o : Option Instruction) → GaveAddressed x.sender (go_on (exec code x n) (act_if o x (k + 1) os (tick s)))
    by rest None = tt
    by rest (Some i) = on rest (act i x (k + 1) os (tick s)) (act_keeps (AreAddressed x.sender) i x (k + 1) os (tick s) h (adds i x os s.effects h))

all_addressed : (code : List Instruction) (x : Input) (e : End) (s : Progress) → run code x ≡ ended e s → AreAddressed x.sender s.effects
unfolding run
all_addressed code x e s is = subst (GaveAddressed x.sender) is (runs_addressed code x 512 0 [] (begun x) tt)

-- ---- an actor receives it

got : (names : List ActorName) (me : ActorName) (p : ProcessNumber) (k : Option InstanceNumber) (n : ℕ) → number_for names me p k ≡ Some n → IsGot names me p k
got names me p k n found =
    let of : IsOfProcess names p n = right_process names me p k n found in
    record { number = n; found = found; name = of.name; there = of.there; process = of.process }

-- a declared process has a first instance
first_instance : (d : Draft) → IsValid d → (p : ProcessNumber) → p.0 < length d.processes
    → (n : ℕ) × (place_of (record { process = p; instance = record { 0 = 1 } }) (actors_of d.processes) ≡ Some n)
first_instance d valid p few =
    let x = there d.processes p.0 few in
    let keeps = valid.each p.0 Start 0 (start_of p.0 x.0) (ap (process_at d.signals p.0 Start 0) x.1) in
    let limits : KeepsProcessLimits x.0 = (keeps.limit 0).process refl refl in
    let some : 1 ≤ x.0.instances = limits.some in
    let at = actors_law.placed d.processes p.0 0 x.0 x.1 (omega (arith, some)) in
    (_, (actors_law.numbers d.processes _ (record { process = p; instance = record { 0 = 1 } })).0 at)

-- if no instance is named, the instance with the sender's number receives it, or the first one
some_instance : (d : Draft) → IsValid d → (me : ActorName) (p : ProcessNumber) → p.0 < length d.processes → IsGot (actors_of d.processes) me p None
some_instance d valid me p few =
    by (place_of (record { process = p; instance = me.instance }) (actors_of d.processes)) refl
  where
    by : (o : Option ℕ) → place_of (record { process = p; instance = me.instance }) (actors_of d.processes) ≡ o → IsGot (actors_of d.processes) me p None
    by None e =
        let one = first_instance d valid p few in
        got (actors_of d.processes) me p None one.0
        (ap (λ (o : Option ℕ). first_some o (place_of (record { process = p; instance = record { 0 = 1 } }) (actors_of d.processes))) e ∙ one.1)
    by (Some m) e =
        got (actors_of d.processes) me p None m
        (ap (λ (o : Option ℕ). first_some o (place_of (record { process = p; instance = record { 0 = 1 } }) (actors_of d.processes))) e)

-- an actor of the set receives what is sent to its address
actor_gets : (d : Draft) (me : ActorName) (x : Address) → IsActor d x → HasReceiver (actors_of d.processes) me x.party x.instance
actor_gets d me x h =
    subst (λ (y : Address). HasReceiver (actors_of d.processes) me y.party y.instance) (sym h.is)
    (got (actors_of d.processes) me h.name.process (Some h.name.instance) h.number ((actors_law.numbers d.processes h.number h.name).0 h.called))

sender_gets : (d : Draft) (me : ActorName) (x : Address) → IsSender d x → HasReceiver (actors_of d.processes) me x.party x.instance
sender_gets d me x h =
    ⊎_elim
    (λ (e : x ≡ of_party Environment). subst (λ (y : Address). HasReceiver (actors_of d.processes) me y.party y.instance) (sym e) tt)
    (λ (a : IsActor d x). actor_gets d me x a) h

party_gets : (d : Draft) → IsValid d → (me : ActorName) (p : Party) (k : Option InstanceNumber) → IsPartyOf d.processes p → k ≡ None
    → HasReceiver (actors_of d.processes) me p k
party_gets d valid me Environment k few none = tt
party_gets d valid me (Process p) k few none = subst (IsGot (actors_of d.processes) me p) (sym none) (some_instance d valid me p few)

-- ---- each effect

sent_by : (d : Draft) (x : Address) (o : Option Address) → IfSome o (IsSender d) → o ≡ Some x → IsSender d x
sent_by d x None h e = absurd (none-some x e)
sent_by d x (Some y) h e = subst (IsSender d) (same_Some y x e) h

one_received : (d : Draft) → IsValid d → (me : ActorName) (t : Transition) (sender : Option Address) → IfSome sender (IsSender d) → (e : Effect) → IsRightEffect d t e
    → IsAddressed sender e → IsReceived (actors_of d.processes) me e
one_received d valid me t sender by (effect.Output s) right to =
    ⊎_elim
    (λ (none : s.receiver.instance ≡ None). party_gets d valid me s.receiver.party s.receiver.instance right.receiver none)
    (λ (back : sender ≡ Some s.receiver). sender_gets d me s.receiver (sent_by d s.receiver sender by back)) to
one_received d valid me t sender by (effect.Set n z) right to = tt
one_received d valid me t sender by (effect.Reset n) right to = tt

all_received : (d : Draft) → IsValid d → (me : ActorName) (t : Transition) (sender : Option Address) → IfSome sender (IsSender d) → (es : List Effect) → AreRightEffects d t es
    → AreAddressed sender es → AreReceived (actors_of d.processes) me es
all_received d valid me t sender by [] right to = tt
all_received d valid me t sender by (e ∷ es) right to =
    (one_received d valid me t sender by e right.0 to.0, all_received d valid me t sender by es right.1 to.1)

-- ---- a turn that is out

ran_so : (r : Ran) (o : Outcome) → outcome_in r ≡ Some o → r ≡ ended o.end o.progress
ran_so (ended e s) o h = ap (λ (x : Outcome). ended x.end x.progress) (same_Some _ o h)
ran_so (got_stuck x) o h = absurd (none-some o h)
ran_so unfinished o h = absurd (none-some o h)

module _ (gives_right : EffectsLaw) (d : Draft) (valid : IsValid d) (n : ℕ) (t : Turn) (o : Outcome) (ran : outcome_of t ≡ Some o) (me : ActorName) where
  run_received : (p : ProcessNumber) (s : Place) (g : Given) (x : Transition) (q : Option Transition) → transition_at d p.0 s g.number ≡ Some x → FitsTransition d x g.input
      → IfSome g.input.sender (IsSender d) → q ≡ Some x → turn_with n p s g q ≡ Some t → AreReceived (actors_of d.processes) me o.progress.effects
  run_received p s g x q at fits by same h =
      let made : Turn = turn_of n g.turn p s g.number x.piece.code x.piece.certificate g.input in
      let is : made ≡ t = same_Some made t (ap (λ (u : Option Transition). turn_with n p s g u) (sym same) ∙ h) in
      let ends_so : run x.piece.code g.input ≡ ended o.end o.progress = ran_so (run x.piece.code g.input) o (ap outcome_of is ∙ ran) in
      all_received d valid me x g.input.sender by o.progress.effects
      (gives_right d x g.input o.end o.progress (valid.each p.0 s g.number x at) fits ends_so)
      (all_addressed x.piece.code g.input o.end o.progress ends_so)

  given_received : (p : ProcessNumber) (s : Standing) (g : Option Given) → GivenFits d p.0 s g → GivenBy d g → turn_given d n p s g ≡ Some t
      → AreReceived (actors_of d.processes) me o.progress.effects
  given_received p (At s) None f by h = absurd (none-some t h)
  given_received p (At s) (Some g) f by h = run_received p s g f.transition (transition_at d p.0 s g.number) f.there f.fits by f.there h
  given_received p Stopped g f by h = absurd (none-some t h)

  pub turn_received : (a : Option Actor) → ((x : Actor) → a ≡ Some x → ActorFits d x) → turn_at d n a ≡ Some t → AreReceived (actors_of d.processes) me o.progress.effects
  turn_received None fits h = absurd (none-some t h)
  turn_received (Some a) fits h = given_received a.name.process a.standing a.given (fits a refl).given (fits a refl).sender h
