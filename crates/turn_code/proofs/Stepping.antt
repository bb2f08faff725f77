-- A step on words agrees with the step on the values that they represent.
use Rattle.std.proofs.Common.{◌≡◌, ℕ, ◌+◌, ◌<◌, ◌≤◌, List, length, get_or, Option, Some, refl, sym, ap, ◌∙◌, subst, arith}
use Rattle.std.specs.Prelude.{slice_get}
use Rattle.std.proofs.lemmas.Option.{get_or_from_slice_get}
use Rattle.turn_code.proofs.Lists.{within}
use Rattle.turn_code.proofs.Stands.{Before, IsFine, act_fine}
use Rattle.turn_code.proofs.SafeRuns.{code_at, deep, sends_few, before_at, way_to}
use Rattle.turn_code.specs.Code.{sends}
use Rattle.turn_code.specs.Run.{Progress, After as Tagged, goes, ends, stuck, act, act_if, tick, step}
use Rattle.turn_code.specs.Transitions.{Transition}
use Rattle.turn_code.specs.At.{IsAt}
use Rattle.turn_code.specs.declared.value.Value.{Value}
use Rattle.turn_code.specs.declared.input.Input.{Input}
use Rattle.turn_code.specs.declared.draft.Draft.{Draft}
use Rattle.turn_code.specs.declared.instruction.Instruction.{Instruction}
use Rattle.turn_code.specs.declared.machine.End.{End}
use Rattle.turn_code.specs.declared.words.Words.{Words}
use Rattle.turn_code.specs.declared.after.BareAfter.{BareAfter}
use Rattle.turn_code.specs.declared.after.BareEffect.{BareEffect}
use Rattle.turn_code.specs.declared.after.Next.{Next as Onward}
use Rattle.turn_code.specs.declared.after.Next.TheVariants.{Goes, Ends}
use Rattle.turn_code.specs.Bare.{Bare, bare_of, did, did_next, bare_act, HasWords, HasOperandsFor}
use Rattle.turn_code.specs.Meant.{AreWordsOf, Grow}
use Rattle.turn_code.specs.Pieces.{PlainPiece, IsOfTransition, CanStep}
use Rattle.turn_code.specs.Steps.{Stand, Follows}
use Rattle.turn_code.proofs.Wanting.{grown_room, has_operands, words_for}
use Rattle.turn_code.proofs.Following.{Meets, act_meets}

-- ---- the place where the code goes on, or the end
went_so : (x : Input) (s : Progress) (n : Onward) (o : Option BareEffect) (b : Bare) (j : ℕ) (os : List Value) (s' : Progress)
    → Meets x s (did_next n o b) (goes j os s') → (n ≡ Goes j) × Grow x.sender o s.effects s'.effects × AreWordsOf b os s'.variables x.parameters.items
went_so x s (Goes k) o b j os s' m = (ap (λ u. Goes u) m.0, m.1, m.2)
went_so x s (Ends e) o b j os s' m = absurd m

over_so : (x : Input) (s : Progress) (n : Onward) (o : Option BareEffect) (b : Bare) (e : End) (s' : Progress)
    → Meets x s (did_next n o b) (ends e s')
    → (n ≡ Ends e) × Grow x.sender o s.effects s'.effects × ((os : List Value) × AreWordsOf b os s'.variables x.parameters.items)
over_so x s (Goes k) o b e s' m = absurd m
over_so x s (Ends q) o b e s' m = (ap (λ u. Ends u) m.0, m.1, m.2)

module _ (d : Draft) (t : Transition) (p : PlainPiece) (k : ℕ) (old : Words) (x : Input) (os : List Value) (s : Progress) (h : Stand d t p k old x os s) where
  -- the code has an instruction at place k
  pub stands_on : (i : Instruction) × (slice_get p.code k ≡ Some i)
  stands_on =
      let i = code_at d t h.valid k h.at.facts h.at.is in
      (i.0, subst (λ u. slice_get u k ≡ Some i.0) h.code i.1)

  pub inside : k < length p.code
  inside = within p.code k stands_on.0 stands_on.1

  own_code : (i : Instruction) → slice_get p.code k ≡ Some i → slice_get t.piece.code k ≡ Some i
  own_code i ie = subst (λ u. slice_get u k ≡ Some i) (sym h.code) ie

  known : (i : Instruction) → slice_get p.code k ≡ Some i → Before d.signals t.process.variables t.parameters h.at.facts.set i x os s.variables
  known i ie = before_at d t h.valid x h.parameters h.brought k os s.variables h.at i (own_code i ie)

  abbrev Fine : Instruction → Tagged → Type 0
  Fine i a = IsFine d.signals t.process.variables t.parameters h.at.facts.set i k os (tick s) a

  fine : (i : Instruction) → slice_get p.code k ≡ Some i → Fine i (act i x (k + 1) os (tick s))
  fine i ie = act_fine d.signals t.process.variables t.parameters h.at.facts.set x k i os (tick s) (known i ie)

  at_next : (i : Instruction) → slice_get p.code k ≡ Some i → (j : ℕ) (os' : List Value) (s' : Progress) → Fine i (goes j os' s') → IsAt t j os' s'.variables
  at_next i ie j os' s' w = (way_to d t h.valid k os s.variables h.at i (own_code i ie) j os' (tick s) s' w).1

  small : (j : ℕ) (os' : List Value) (s' : Progress) → IsAt t j os' s'.variables → length os' ≤ 16
  small j os' s' at =
      let low = deep d t h.valid j os' s'.variables at in
      let most : t.piece.certificate.depth ≤ 16 = ((h.valid.limit 0).piece refl).depth in
      omega arith

  few : (i : Instruction) → slice_get p.code k ≡ Some i → sends i ≤ 4
  few i ie = sends_few d t h.valid h.limits k i (own_code i ie)

  -- the words have the operands for the instruction at k
  wanted : (i : Instruction) → slice_get p.code k ≡ Some i → HasOperandsFor i (bare_of old)
  wanted i ie =
      has_operands d.signals t.process.variables t.parameters h.at.facts.set x (bare_of old) os s.variables h.words (small k os s h.at)
      i (known i ie)
      (λ g. grown_room (Fine i) (λ j os' s' w. small j os' s' (at_next i ie j os' s' w)) (λ z w. w) i x (k + 1) os (tick s) (fine i ie) g)

  follow : (new : Words) (a : BareAfter) (i : Instruction) → slice_get p.code k ≡ Some i → (g : Tagged) → Meets x (tick s) (did a new) g → Fine i g
      → Follows d t p x s a new g
  follow new a i ie (goes j os' s') m w =
      let so = went_so x (tick s) a.next a.effect (bare_of new) j os' s' m in
      let onward : Stand d t p j new x os' s' = record {
        limits = h.limits;
        variables = h.variables;
        valid = h.valid;
        code = h.code;
        sorts = h.sorts;
        sender = h.sender;
        brought = h.brought;
        parameters = h.parameters;
        at = at_next i ie j os' s' w;
        words = so.2;
      } in
      (so.0, so.1, onward)
  follow new a i ie (ends e s') m w = over_so x (tick s) a.next a.effect (bare_of new) e s' m
  follow new a i ie (stuck z) m w = absurd w

  pub followed : (new : Words) (a : BareAfter) (i : Instruction) → slice_get p.code k ≡ Some i → length old.variables ≡ 32
      → did a new ≡ bare_act i (k + 1) (bare_of old) → Follows d t p x s a new (step t.piece.code x k os s)
  followed new a i ie wide e =
      let most : length t.process.variables ≤ 32 = h.variables in
      let room : length t.process.variables ≤ length old.variables = omega arith in
      let meets : Meets x (tick s) (bare_act i (k + 1) (bare_of old)) (act i x (k + 1) os (tick s)) =
      act_meets d.signals t.process.variables t.parameters h.at.facts.set x (k + 1) i (bare_of old) os (tick s) (known i ie) room (few i ie) h.words in
      let own : Follows d t p x s a new (act i x (k + 1) os (tick s)) =
      follow new a i ie (act i x (k + 1) os (tick s)) (subst (λ u. Meets x (tick s) u (act i x (k + 1) os (tick s))) (sym e) meets) (fine i ie) in
      subst (λ o. Follows d t p x s a new (act_if o x (k + 1) os (tick s))) (sym (own_code i ie)) own

  -- so they are enough for the instruction there
  pub ready : CanStep p k old
  ready =
      let i = stands_on in
      record { instruction = i.0; there = i.1; operands = wanted i.0 i.1 }

  -- for the element that the code reads at k, which takes any default for a missing one
  pub followed_here : (e : Instruction) (new : Words) (a : BareAfter) → length old.variables ≡ 32 → did a new ≡ bare_act (get_or p.code k e) (k + 1) (bare_of old)
      → Follows d t p x s a new (step t.piece.code x k os s)
  followed_here e new a wide is =
      let i = stands_on in
      followed new a i.0 i.1 wide (is ∙ ap (λ u. bare_act u (k + 1) (bare_of old)) (get_or_from_slice_get p.code k i.0 e i.1))

-- ---- a piece, and words that have the operands for its instruction at a place
module _ (p : PlainPiece) (k : ℕ) (old : Words) (of : IsOfTransition p) (h : CanStep p k old) where
  pub inside_it : k < length p.code
  inside_it = within p.code k h.instruction h.there

  -- the code has at most 512 instructions
  pub short : length p.code ≤ 512
  short = subst (λ u. length u ≤ 512) of.code ((of.valid.limit 0).piece refl).size

  own_instruction : slice_get of.transition.piece.code k ≡ Some h.instruction
  own_instruction = subst (λ u. slice_get u k ≡ Some h.instruction) (sym of.code) h.there

  -- the words meet the requirements of the element that the code reads at k, which takes any default for a missing one
  pub wanted_here : (e : Instruction) → HasWords (get_or p.code k e) (bare_of old)
  wanted_here e =
      let n = of.valid.number k in
      let i = h.instruction in
      subst (λ u. HasWords u (bare_of old)) (sym (get_or_from_slice_get p.code k i e h.there)) (
      words_for of.transition.process.variables of.transition.parameters (bare_of old) of.variables of.parameters i h.operands
      (n.reads_there i own_instruction) (n.sets_there i own_instruction) (n.parameters i own_instruction) (n.divisors i own_instruction)
      (sends_few of.draft of.transition of.valid of.limits k i own_instruction))
