-- A transition keeps all rules exactly if all entries and all parts hold.
use Rattle.std.proofs.Common.{◌≡◌, ℕ, zero, suc, ◌*◌, ◌<◌, ◌≤◌, List, [], ◌∷◌, length, Some, None, sym, ap, ◌∙◌, arith, inl, inr}
use Rattle.std.specs.Prelude.{slice_get, Contains}
use Rattle.std.proofs.lemmas.Option.{slice_get_within, slice_get_cases}
use Rattle.turn_code.specs.Transitions.{Transition}
use Rattle.turn_code.specs.Valid.{Keeps, IsValidTransition}
use Rattle.turn_code.specs.declared.instruction.Instruction.{Instruction}
use Rattle.turn_code.specs.declared.draft.Draft.{Draft}
use Rattle.turn_code.specs.declared.draft.PlaceFacts.{PlaceFacts}
use Rattle.turn_code.specs.declared.rule.Rule.{Rule}
use Rattle.turn_code.specs.declared.rule.Rule.TheVariants.{Jump, Shape, Under, Sort, Unset, State, Number, Limit, Budget}
use Rattle.turn_rules.specs.Parts.{Part, AllParts, AllEntries, HasParts}

only_zero : (j : ℕ) → Contains {X = ℕ} (0 ∷ []) j → 0 ≡ j
only_zero j (zero, low, e) = e
only_zero j (suc n, low, e) = absurd (omega arith)

first_facts : (facts : List PlaceFacts) (j : ℕ) (f : PlaceFacts) → Contains {X = ℕ} (0 ∷ []) j → slice_get facts j ≡ Some f → slice_get facts 0 ≡ Some f
first_facts facts j f c e = ap (slice_get facts) (only_zero j c) ∙ e

-- if each place has facts, a rule needs only its part at the instruction there
part_there : (d : Draft) (t : Transition) (rule : Rule) (k : ℕ) → length t.piece.facts ≡ length t.piece.code
    → ((i : Instruction) (f : PlaceFacts) → slice_get t.piece.code k ≡ Some i → slice_get t.piece.facts k ≡ Some f → Part rule d t k i f)
    → (i : Instruction) → slice_get t.piece.code k ≡ Some i → (f : PlaceFacts) × Part rule d t k i f
part_there d t rule k long part i ie =
    elim (slice_get_cases t.piece.facts k).1 [
      | inl f ↦ (f.0, part i f.0 ie f.2)
      | inr past ↦ let inside = slice_get_within t.piece.code k i ie in absurd (omega (arith, past.0, long))
    ]

-- a rule holds at a place if all entries hold, and its part holds of the instruction there
pub keeps_from : (d : Draft) (t : Transition) (k : ℕ) → AllEntries d t → (rule : Rule)
    → ((i : Instruction) (f : PlaceFacts) → slice_get t.piece.code k ≡ Some i → slice_get t.piece.facts k ≡ Some f → Part rule d t k i f) → Keeps rule d t k
keeps_from d t k a Jump part = record { entry = λ e. a.jump; each = λ i ie. (part_there d t Jump k a.shape.facts part i ie).1 }
keeps_from d t k a Shape part = record {
  facts = λ e. a.shape.facts;
  entry = λ e j f c fe. a.shape.empty f (first_facts t.piece.facts j f c fe);
  each = λ i f ie fe. (part i f ie fe).each;
  jumped = λ i f ie fe. (part i f ie fe).jumped;
}
keeps_from d t k a Under part = part
keeps_from d t k a Sort part = record { initial = λ e none. a.sort none; each = part }
keeps_from d t k a Unset part = record {
  entry = λ e j f c fe. a.unset f (first_facts t.piece.facts j f c fe);
  reads_set = λ i f ie fe. (part i f ie fe).reads_set;
  each = λ i f ie fe. (part i f ie fe).each;
  states = λ i f ie fe. (part i f ie fe).states;
}
keeps_from d t k a State part = λ i ie. (part_there d t State k a.shape.facts part i ie).1
keeps_from d t k a Number part =
    let here = part_there d t Number k a.shape.facts part in
    record {
      trigger = λ e. a.number.trigger;
      saves = λ e none. a.number.saves none;
      reads_there = λ i ie. (here i ie).1.reads_there;
      sets_there = λ i ie. (here i ie).1.sets_there;
      parameters = λ i ie. (here i ie).1.parameters;
      timers = λ i ie. (here i ie).1.timers;
      divisors = λ i ie. (here i ie).1.divisors;
      outputs = λ i ie. (here i ie).1.outputs;
    }
keeps_from d t k a Limit part = record { process = λ e none. a.limit.process none; piece = λ e. a.limit.piece }
keeps_from d t k a Budget part = record {
  certificate = λ e. a.budget;
  counts = λ i f ie fe. (part i f ie fe).counts;
  effects = λ i f ie fe. (part i f ie fe).effects;
}

pub valid_from : (d : Draft) (t : Transition) → AllEntries d t
    → ((k : ℕ) (i : Instruction) (f : PlaceFacts) → slice_get t.piece.code k ≡ Some i → slice_get t.piece.facts k ≡ Some f → AllParts d t k i f)
    → IsValidTransition d t
valid_from d t a parts = record {
  jump = λ k. keeps_from d t k a Jump (λ i f ie fe. (parts k i f ie fe).jump);
  shape = λ k. keeps_from d t k a Shape (λ i f ie fe. (parts k i f ie fe).shape);
  under = λ k. keeps_from d t k a Under (λ i f ie fe. (parts k i f ie fe).under);
  sort = λ k. keeps_from d t k a Sort (λ i f ie fe. (parts k i f ie fe).sort);
  unset = λ k. keeps_from d t k a Unset (λ i f ie fe. (parts k i f ie fe).unset);
  state = λ k. keeps_from d t k a State (λ i f ie fe. (parts k i f ie fe).state);
  number = λ k. keeps_from d t k a Number (λ i f ie fe. (parts k i f ie fe).number);
  limit = λ k. keeps_from d t k a Limit (λ i f ie fe. tt);
  budget = λ k. keeps_from d t k a Budget (λ i f ie fe. (parts k i f ie fe).budget);
}

pub keeps_part : (rule : Rule) (d : Draft) (t : Transition) (k : ℕ) (i : Instruction) (f : PlaceFacts)
    → slice_get t.piece.code k ≡ Some i → slice_get t.piece.facts k ≡ Some f → Keeps rule d t k → Part rule d t k i f
keeps_part Jump d t k i f ie fe h = h.each i ie
keeps_part Shape d t k i f ie fe h = record { each = h.each i f ie fe; jumped = h.jumped i f ie fe }
keeps_part Under d t k i f ie fe h = h i f ie fe
keeps_part Sort d t k i f ie fe h = h.each i f ie fe
keeps_part Unset d t k i f ie fe h = record { reads_set = h.reads_set i f ie fe; each = h.each i f ie fe; states = h.states i f ie fe }
keeps_part State d t k i f ie fe h = h i ie
keeps_part Number d t k i f ie fe h = record {
  reads_there = h.reads_there i ie;
  sets_there = h.sets_there i ie;
  parameters = h.parameters i ie;
  timers = h.timers i ie;
  divisors = h.divisors i ie;
  outputs = h.outputs i ie;
}
keeps_part Limit d t k i f ie fe h = tt
keeps_part Budget d t k i f ie fe h = record { counts = h.counts i f ie fe; effects = h.effects i f ie fe }

-- ---- from all places below the end to all places
pub valid_below : (d : Draft) (t : Transition) → AllEntries d t → (n : ℕ) → length t.piece.code ≤ n
    → ((k : ℕ) → k < n → HasParts d t k) → IsValidTransition d t
valid_below d t a n long below =
    valid_from d t a (λ k i f ie fe. let inside = slice_get_within t.piece.code k i ie in (below k (omega arith)).each i f ie fe)

-- ---- a place without an instruction or without facts
pub no_parts_code : (d : Draft) (t : Transition) (k : ℕ) → slice_get t.piece.code k ≡ None → HasParts d t k
no_parts_code d t k none = record { each = λ i f ie fe. let no : None ≡ Some i = sym none ∙ ie in cc }

pub no_parts_facts : (d : Draft) (t : Transition) (k : ℕ) → slice_get t.piece.facts k ≡ None → HasParts d t k
no_parts_facts d t k none = record { each = λ i f ie fe. let no : None ≡ Some f = sym none ∙ fe in cc }
