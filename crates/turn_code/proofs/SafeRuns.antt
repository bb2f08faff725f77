-- A valid transition never gets stuck on an input that fits it.
use Rattle.std.proofs.Common.{◌≡◌, ℕ, zero, suc, ◌+◌, ◌<◌, ◌≤◌, inl, inr, List, [], length, map, Option, Some, None, refl, sym, ap, ◌∙◌, subst, arith}
use Rattle.std.specs.Prelude.{slice_get, Contains}
use Rattle.turn_code.proofs.Lists.{within, map_length, first_of, in_first, in_second}
use Rattle.turn_code.proofs.Greatest.{all_contains, greatest_has, greatest_in}
use Rattle.turn_code.proofs.Stands.{IsSent, Before, IsWay, Goes, IsIn, IsFine, act_fine}
use Rattle.turn_code.specs.Values.{sort_of}
use Rattle.turn_code.specs.Sets.{IsWithin}
use Rattle.turn_code.specs.Run.{Progress, After, goes, ends, stuck, of_party, address_of, act, act_if, tick, begun}
use Rattle.turn_code.specs.Code.{takes, set_after, states_in, jumps, behind, successors, effects_of, sends}
use Rattle.turn_code.specs.Transitions.{Transition}
use Rattle.turn_code.specs.Rules.{Agree, KeepsOutput, KeepsPieceLimits, KeepsSetLimits, ReachesReceiver, greatest, count_in, effects_in, counts_at, effects_at, depths}
use Rattle.turn_code.specs.Valid.{IsValidTransition}
use Rattle.turn_code.specs.At.{IsAt}
use Rattle.turn_code.specs.Fits.{AreSet, IsBrought, FitsTransition}
use Rattle.turn_code.specs.Safe.{EndIsReady, IsSafeAfter, IsSafe, SendsFew}
use Rattle.turn_code.specs.declared.value.Sort.{Sort}
use Rattle.turn_code.specs.declared.value.Value.{Value}
use Rattle.turn_code.specs.declared.instruction.Receiver.{Receiver}
use Rattle.turn_code.specs.declared.instruction.Receiver.TheVariants.{Party as ToParty, Sender as ToSender}
use Rattle.turn_code.specs.declared.instruction.Instruction.{Instruction}
use Rattle.turn_code.specs.declared.instruction.Instruction.TheVariants.{Output}
use Rattle.turn_code.specs.declared.numbers.SignalNumber.{SignalNumber}
use Rattle.turn_code.specs.declared.input.Input.{Input}
use Rattle.turn_code.specs.declared.input.Address.{Address}
use Rattle.turn_code.specs.declared.machine.End.{End}
use Rattle.turn_code.specs.declared.machine.End.TheVariants.{State, Stop}
use Rattle.turn_code.specs.declared.draft.Draft.{Draft}
use Rattle.turn_code.specs.declared.draft.DraftSignal.{DraftSignal}
use Rattle.turn_code.specs.declared.draft.PlaceFacts.{PlaceFacts}
use Rattle.turn_code.specs.declared.draft.Trigger.{Trigger}
use Rattle.turn_code.specs.declared.draft.Trigger.TheVariants.{Signal, Timer}
use Rattle.plain_laws.proofs.Places.{there_is as there, among_at as at_place}

-- the facts of place k hold of these operands and of this progress, its count is at most n, and its effects are within
-- the certificate
pub record Stands (t : Transition) (k : ℕ) (os : List Value) (s : Progress) (n : ℕ) : Type 0 where
  pub at : IsAt t k os s.variables
  pub count : at.facts.count ≤ n
  pub effects : length s.effects + at.facts.effects ≤ t.piece.certificate.effects

-- an output of a transition has a receiver, on an input that fits the transition
receiver_there : (d : Draft) (t : Transition) (x : Input) (n : SignalNumber) (r : Receiver) → IsBrought d t.number t.trigger x.sender
    → ReachesReceiver d t.number n t.trigger r → (p : Address) × (address_of r x.sender ≡ Some p)
receiver_there d t x n (ToParty p) brought reaches = (of_party p, refl)
receiver_there d t x n ToSender brought reaches = by t.trigger x.sender brought reaches
  where
    by : (trigger : Option Trigger) (sender : Option Address) → IsBrought d t.number trigger sender → ReachesReceiver d t.number n trigger ToSender
        → (p : Address) × (address_of ToSender sender ≡ Some p)
    by None sender b h = absurd h
    by (Some (Timer m)) sender b h = absurd h
    by (Some (Signal m)) None b h = absurd b
    by (Some (Signal m)) (Some p) b h = (p, refl)

module _ (d : Draft) (t : Transition) (valid : IsValidTransition d t) where
  as_long : length t.piece.facts ≡ length t.piece.code
  as_long = (valid.shape 0).facts refl

  pub facts_at : (k : ℕ) → k < length t.piece.code → (f : PlaceFacts) × (slice_get t.piece.facts k ≡ Some f)
  facts_at k h = there t.piece.facts k (subst (λ n. k < n) (sym as_long) h)

  pub code_at : (k : ℕ) (f : PlaceFacts) → slice_get t.piece.facts k ≡ Some f → (i : Instruction) × (slice_get t.piece.code k ≡ Some i)
  code_at k f e = there t.piece.code k (subst (λ n. k < n) as_long (within t.piece.facts k f e))

  pub next_at : (k : ℕ) (f : PlaceFacts) (i : Instruction) → slice_get t.piece.facts k ≡ Some f → slice_get t.piece.code k ≡ Some i
      → (j : ℕ) → Contains (successors i k) j → (g : PlaceFacts) × (slice_get t.piece.facts j ≡ Some g)
  next_at k f i fe ie j c =
      facts_at j (all_contains (λ j. j < length t.piece.code) (successors i k) j ((valid.jump k).each i ie) c)

  -- the count of a place is above that of each place where the code goes on
  pub count_above : (k : ℕ) (f : PlaceFacts) (i : Instruction) → slice_get t.piece.facts k ≡ Some f → slice_get t.piece.code k ≡ Some i
      → (j : ℕ) (g : PlaceFacts) → Contains (successors i k) j → slice_get t.piece.facts j ≡ Some g → suc g.count ≤ f.count
  count_above k f i fe ie j g c ge =
      let own : f.count ≡ 1 + greatest (counts_at t.piece (successors i k)) = (valid.budget k).counts i f ie fe in
      let some : count_in (slice_get t.piece.facts j) ≤ greatest (counts_at t.piece (successors i k)) =
      greatest_has (λ j. count_in (slice_get t.piece.facts j)) (successors i k) j c in
      let some' : g.count ≤ greatest (counts_at t.piece (successors i k)) = rw ge at some in
      omega arith

  -- the effects of a place are at least those of its instruction and those of each place where the code goes on, added
  pub effects_above : (k : ℕ) (f : PlaceFacts) (i : Instruction) → slice_get t.piece.facts k ≡ Some f → slice_get t.piece.code k ≡ Some i
      → (j : ℕ) (g : PlaceFacts) → Contains (successors i k) j → slice_get t.piece.facts j ≡ Some g → effects_of i + g.effects ≤ f.effects
  effects_above k f i fe ie j g c ge =
      let own : f.effects ≡ effects_of i + greatest (effects_at t.piece (successors i k)) = (valid.budget k).effects i f ie fe in
      let some : effects_in (slice_get t.piece.facts j) ≤ greatest (effects_at t.piece (successors i k)) =
      greatest_has (λ j. effects_in (slice_get t.piece.facts j)) (successors i k) j c in
      let some' : g.effects ≤ greatest (effects_at t.piece (successors i k)) = rw ge at some in
      omega arith

  effects_own : (k : ℕ) (f : PlaceFacts) (i : Instruction) → slice_get t.piece.facts k ≡ Some f → slice_get t.piece.code k ≡ Some i → effects_of i ≤ f.effects
  effects_own k f i fe ie =
      let own : f.effects ≡ effects_of i + greatest (effects_at t.piece (successors i k)) = (valid.budget k).effects i f ie fe in
      omega arith

  pub deep : (k : ℕ) (os : List Value) (vs : List (Option Value)) → IsAt t k os vs → length os ≤ t.piece.certificate.depth
  deep k os vs h =
      let here : length h.facts.shape ≤ greatest (depths t.piece.facts) = greatest_in (λ (f : PlaceFacts). length f.shape) t.piece.facts k h.facts h.is in
      let depth : t.piece.certificate.depth ≡ greatest (depths t.piece.facts) = ((valid.budget 0).certificate refl).depth in
      let long : length os ≡ length h.facts.shape = sym (map_length sort_of os) ∙ ap length h.shape in
      omega arith

  pub limits : KeepsPieceLimits t.piece
  limits = (valid.limit 0).piece refl

  pub sends_few : KeepsSetLimits d → SendsFew t.piece.code
  sends_few set k i ie = by i ((valid.number k).outputs i ie)
    where
      by : (i : Instruction) → KeepsOutput d t i → sends i ≤ 4
      by (Output n r c) h =
          let s = there d.signals n.0 h.signal in
          let few : length s.0.parameters ≤ 4 = all_contains (λ (s : DraftSignal). length s.parameters ≤ 4) d.signals s.0 set.parameters (at_place d.signals n.0 s.0 s.1) in
          let count : c ≡ length s.0.parameters = rw s.1 at h.parameters in
          omega arith
      by _ h = omega arith

  -- an output has a receiver, if a route brought the signal of the transition
  pub sent_at : (x : Input) → IsBrought d t.number t.trigger x.sender → (i : Instruction) → KeepsOutput d t i → IsSent d.signals x i
  sent_at x brought (Output n r c) h =
      let to = receiver_there d t x n r brought h.receiver in
      (h.parameters, to.0, to.1)
  sent_at x brought _ h = tt

  -- what is known as the instruction at a place begins, if the facts of the place hold
  pub before_at : (x : Input) → map sort_of x.parameters.items ≡ t.parameters → IsBrought d t.number t.trigger x.sender
      → (k : ℕ) (os : List Value) (vs : List (Option Value)) (h : IsAt t k os vs) (i : Instruction) → slice_get t.piece.code k ≡ Some i
      → Before d.signals t.process.variables t.parameters h.facts.set i x os vs
  before_at x parameters brought k os vs h i ie = record {
    sorts = parameters;
    variables = h.variables;
    set = h.set;
    under = subst (λ u. length (takes d.signals t.process.variables i) ≤ length u) (sym h.shape) (valid.under k i h.facts ie h.is);
    agree = subst (λ u. Agree (takes d.signals t.process.variables i) u) (sym h.shape) ((valid.sort k).each i h.facts ie h.is);
    reads_set = (valid.unset k).reads_set i h.facts ie h.is;
    reads_there = (valid.number k).reads_there i ie;
    sets_there = (valid.number k).sets_there i ie;
    parameters = (valid.number k).parameters i ie;
    divisors = (valid.number k).divisors i ie;
    sent = sent_at x brought i ((valid.number k).outputs i ie);
  }

  on_way : (k : ℕ) (i : Instruction) (f : PlaceFacts) → slice_get t.piece.code k ≡ Some i → slice_get t.piece.facts k ≡ Some f
      → (j : ℕ) (left : List Sort) → IsWay d.signals t.process.variables t.parameters i k f.shape j left
      → Contains (successors i k) j × ((g : PlaceFacts) → slice_get t.piece.facts j ≡ Some g → left ≡ g.shape)
  on_way k i f ie fe j left (inl (next, e)) =
      (in_second (jumps i) (behind i k) j next, λ g ge. e ∙ sym ((valid.shape k).each i f ie fe j g next ge))
  on_way k i f ie fe j left (inr (next, e)) =
      (in_first (jumps i) (behind i k) j next, λ g ge. e ∙ sym ((valid.shape k).jumped i f ie fe j g next ge))

  -- if the instruction at a place goes on, the facts of the place where it goes on hold too
  pub way_to : (k : ℕ) (os : List Value) (vs : List (Option Value)) (h : IsAt t k os vs) (i : Instruction) → slice_get t.piece.code k ≡ Some i
      → (j : ℕ) (os' : List Value) (s s' : Progress) → Goes d.signals t.process.variables t.parameters h.facts.set i k os j os' s s'
      → Contains (successors i k) j × IsAt t j os' s'.variables
  way_to k os vs h i ie j os' s s' w =
      let way = on_way k i h.facts ie h.is j (map sort_of os')
      (subst (λ u. IsWay d.signals t.process.variables t.parameters i k u j (map sort_of os')) h.shape w.way) in
      let g = next_at k h.facts i h.is ie j way.0 in
      let inside : IsWithin g.0.set (set_after i h.facts.set) = (valid.unset k).each i h.facts ie h.is j g.0 way.0 g.1 in
      let here : IsAt t j os' s'.variables =
      record { facts = g.0; is = g.1; shape = way.1 g.0 g.1; variables = w.variables; set = λ v has. w.set v (inside v has) } in
      (way.0, here)

  module _ (x : Input) (fits : FitsTransition d t x) where
    pub before : (k : ℕ) (os : List Value) (s : Progress) (n : ℕ) (h : Stands t k os s n) (i : Instruction) → slice_get t.piece.code k ≡ Some i
        → Before d.signals t.process.variables t.parameters h.at.facts.set i x os s.variables
    before k os s n h i ie = before_at x fits.parameters fits.brought k os s.variables h.at i ie

    pub goes_on : (k : ℕ) (os : List Value) (s : Progress) (m : ℕ) (h : Stands t k os s (suc m)) (i : Instruction) → slice_get t.piece.code k ≡ Some i
        → (j : ℕ) (os' : List Value) (s' : Progress) → Goes d.signals t.process.variables t.parameters h.at.facts.set i k os j os' (tick s) s' → Stands t j os' s' m
    goes_on k os s m h i ie j os' s' w =
        let way : Contains (successors i k) j × IsAt t j os' s'.variables = way_to k os s.variables h.at i ie j os' (tick s) s' w in
        let at : IsAt t j os' s'.variables = way.1 in
        let above : suc at.facts.count ≤ h.at.facts.count = count_above k h.at.facts i h.at.is ie j at.facts way.0 at.is in
        let richer : effects_of i + at.facts.effects ≤ h.at.facts.effects = effects_above k h.at.facts i h.at.is ie j at.facts way.0 at.is in
        let most : h.at.facts.count ≤ suc m = h.count in
        let rich : length s.effects + h.at.facts.effects ≤ t.piece.certificate.effects = h.effects in
        let more : length s'.effects ≡ length s.effects + effects_of i = w.effects in
        let least : at.facts.count ≤ m = omega arith in
        let few : length s'.effects + at.facts.effects ≤ t.piece.certificate.effects = omega arith in
        record { at = at; count = least; effects = few }

    ready : (k : ℕ) (f : PlaceFacts) (i : Instruction) → slice_get t.piece.facts k ≡ Some f → slice_get t.piece.code k ≡ Some i
        → (e : End) (vs : List (Option Value)) → IsIn i e → AreSet (set_after i f.set) vs → EndIsReady t e vs
    ready k f i fe ie (State q) vs named set =
        let q_there = there t.process.states q.0
        (all_contains (λ q. q < length t.process.states) (states_in i) q.0 (valid.state k i ie) named) in
        let inside = (valid.unset k).states i f ie fe q.0 q_there.0 named q_there.1 in
        record { state = q_there.0; there = q_there.1; set = λ v has. set v (inside v has) }
    ready k f i fe ie Stop vs named set = tt

    after_safe : (k : ℕ) (os : List Value) (s : Progress) (m : ℕ) (h : Stands t k os s (suc m)) (i : Instruction) → slice_get t.piece.code k ≡ Some i
        → ((j : ℕ) (os' : List Value) (s' : Progress) → Stands t j os' s' m → IsSafe t x m j os' s')
        → (a : After) → IsFine d.signals t.process.variables t.parameters h.at.facts.set i k os (tick s) a → IsSafeAfter t (IsSafe t x m) a
    after_safe k os s m h i ie rest (goes j os' s') w = rest j os' s' (goes_on k os s m h i ie j os' s' w)
    after_safe k os s m h i ie rest (ends e s') w =
        let own = effects_own k h.at.facts i h.at.is ie in
        let rich : length s.effects + h.at.facts.effects ≤ t.piece.certificate.effects = h.effects in
        let more : length s'.effects ≡ length s.effects + effects_of i = w.effects in
        record { variables = w.variables; ready = ready k h.at.facts i h.at.is ie e s'.variables w.named w.set; effects = omega arith }
    after_safe k os s m h i ie rest (stuck z) w = absurd w

    pub safe : (n k : ℕ) (os : List Value) (s : Progress) → Stands t k os s n → IsSafe t x n k os s
    safe zero k os s h =
        let i = code_at k h.at.facts h.at.is in
        let own : h.at.facts.count ≡ 1 + greatest (counts_at t.piece (successors i.0 k)) = (valid.budget k).counts i.0 h.at.facts i.1 h.at.is in
        let most : h.at.facts.count ≤ 0 = h.count in
        absurd (omega arith)
    safe (suc m) k os s h =
        let i = code_at k h.at.facts h.at.is in
        let fine = act_fine d.signals t.process.variables t.parameters h.at.facts.set x k i.0 os (tick s) (before k os s (suc m) h i.0 i.1) in
        let over = after_safe k os s m h i.0 i.1 (λ j os' s' n. safe m j os' s' n) (act i.0 x (k + 1) os (tick s)) fine in
        let rich : length s.effects + h.at.facts.effects ≤ t.piece.certificate.effects = h.effects in
        (deep k os s.variables h.at, omega arith, subst (λ o. IsSafeAfter t (IsSafe t x m) (act_if o x (k + 1) os (tick s))) (sym i.1) over)

    pub stands_at_start : Stands t 0 [] (begun x) t.piece.certificate.budget
    stands_at_start =
        let f = facts_at 0 ((valid.jump 0).entry refl) in
        let empty : f.0.shape ≡ [] = (valid.shape 0).entry refl 0 f.0 (first_of 0 []) f.1 in
        let same : f.0.set ≡ t.entry = (valid.unset 0).entry refl 0 f.0 (first_of 0 []) f.1 in
        let budget : t.piece.certificate.budget ≡ count_in (slice_get t.piece.facts 0) = ((valid.budget 0).certificate refl).budget in
        let budget' : t.piece.certificate.budget ≡ f.0.count = rw f.1 at budget in
        let effects : t.piece.certificate.effects ≡ effects_in (slice_get t.piece.facts 0) = ((valid.budget 0).certificate refl).effects in
        let effects' : t.piece.certificate.effects ≡ f.0.effects = rw f.1 at effects in
        let here : IsAt t 0 [] x.variables.items =
        record {
          facts = f.0;
          is = f.1;
          shape = sym empty;
          variables = fits.variables;
          set = subst (λ m. AreSet m x.variables.items) (sym same) fits.set;
        } in
        let most : f.0.count ≤ t.piece.certificate.budget = omega arith in
        let few : 0 + f.0.effects ≤ t.piece.certificate.effects = omega arith in
        record { at = here; count = most; effects = few }

    pub safe_at_start : IsSafe t x t.piece.certificate.budget 0 [] (begun x)
    safe_at_start = safe t.piece.certificate.budget 0 [] (begun x) stands_at_start
