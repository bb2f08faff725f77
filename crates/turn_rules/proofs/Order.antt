-- All rules that are checked before a given rule hold.
use Rattle.std.proofs.Common.{◌≡◌, ℕ, ◌<◌, Some, sym, ◌∙◌, subst}
use Rattle.std.specs.Prelude.{slice_get}
use Rattle.turn_code.specs.Transitions.{Transition}
use Rattle.turn_code.specs.Valid.{Keeps}
use Rattle.turn_code.specs.declared.instruction.Instruction.{Instruction}
use Rattle.turn_code.specs.declared.draft.Draft.{Draft}
use Rattle.turn_code.specs.declared.draft.PlaceFacts.{PlaceFacts}
use Rattle.turn_code.specs.declared.rule.Rule.{Rule}
use Rattle.turn_code.specs.declared.rule.Rule.TheVariants.{Jump, Shape, Under, Sort, Unset, State, Number, Limit, Budget}
use Rattle.turn_rules.specs.First.{EachBefore, NoneBefore}
use Rattle.turn_rules.specs.Parts.{Part, AllParts, Entry, AllEntries, HasParts}
use Rattle.turn_rules.proofs.Whole.{keeps_from}

pub each_weaker : (P Q : Rule → Type 0) → ((r : Rule) → P r → Q r) → (rule : Rule) → EachBefore P rule → EachBefore Q rule
each_weaker P Q f Limit h = tt
each_weaker P Q f Number h = f Limit h
each_weaker P Q f State h = (f Limit h.0, f Number h.1)
each_weaker P Q f Under h = (f Limit h.0, f Number h.1, f State h.2)
each_weaker P Q f Sort h = (f Limit h.0, f Number h.1, f State h.2, f Under h.3)
each_weaker P Q f Jump h = (f Limit h.0, f Number h.1, f State h.2, f Under h.3, f Sort h.4)
each_weaker P Q f Shape h = (f Limit h.0, f Number h.1, f State h.2, f Under h.3, f Sort h.4, f Jump h.5)
each_weaker P Q f Unset h = (f Limit h.0, f Number h.1, f State h.2, f Under h.3, f Sort h.4, f Jump h.5, f Shape h.6)
each_weaker P Q f Budget h =
    (f Limit h.0, f Number h.1, f State h.2, f Under h.3, f Sort h.4, f Jump h.5, f Shape h.6, f Unset h.7)

pub each_before : (P : Rule → Type 0) → ((r : Rule) → P r) → (rule : Rule) → EachBefore P rule
each_before P f Limit = tt
each_before P f Number = f Limit
each_before P f State = (f Limit, f Number)
each_before P f Under = (f Limit, f Number, f State)
each_before P f Sort = (f Limit, f Number, f State, f Under)
each_before P f Jump = (f Limit, f Number, f State, f Under, f Sort)
each_before P f Shape = (f Limit, f Number, f State, f Under, f Sort, f Jump)
each_before P f Unset = (f Limit, f Number, f State, f Under, f Sort, f Jump, f Shape)
each_before P f Budget = (f Limit, f Number, f State, f Under, f Sort, f Jump, f Shape, f Unset)

pub each_entry : (d : Draft) (t : Transition) → AllEntries d t → (rule : Rule) → Entry rule d t
each_entry d t a Jump = a.jump
each_entry d t a Shape = a.shape
each_entry d t a Under = tt
each_entry d t a Sort = a.sort
each_entry d t a Unset = a.unset
each_entry d t a State = tt
each_entry d t a Number = a.number
each_entry d t a Limit = a.limit
each_entry d t a Budget = a.budget

part_of : (d : Draft) (t : Transition) (k : ℕ) (i : Instruction) (f : PlaceFacts) → AllParts d t k i f → (rule : Rule) → Part rule d t k i f
part_of d t k i f a Jump = a.jump
part_of d t k i f a Shape = a.shape
part_of d t k i f a Under = a.under
part_of d t k i f a Sort = a.sort
part_of d t k i f a Unset = a.unset
part_of d t k i f a State = a.state
part_of d t k i f a Number = a.number
part_of d t k i f a Limit = tt
part_of d t k i f a Budget = a.budget

-- a rule holds at place k if its part holds of the instruction and of the facts there
pub keeps_here : (d : Draft) (t : Transition) (k : ℕ) (i : Instruction) (f : PlaceFacts) → slice_get t.piece.code k ≡ Some i
    → slice_get t.piece.facts k ≡ Some f → AllEntries d t → (rule : Rule) → Part rule d t k i f → Keeps rule d t k
keeps_here d t k i f ie fe a rule part =
    keeps_from d t k a rule
    (λ i' f' ie' fe'.
    let same : Some i ≡ Some i' = sym ie ∙ ie' in
    let others : Some f ≡ Some f' = sym fe ∙ fe' in
    let one : i ≡ i' = cc in
    let other : f ≡ f' = cc in
    subst (λ x. Part rule d t k x f') one (subst (λ y. Part rule d t k i y) other part))

-- nothing is broken before a rule at place k, if the whole and all earlier places keep all rules
pub none_before_part : (d : Draft) (t : Transition) (rule : Rule) (k : ℕ) → AllEntries d t → ((j : ℕ) → j < k → HasParts d t j)
    → EachBefore (λ r. Keeps r d t k) rule → NoneBefore d t rule k
none_before_part d t rule k a below here = record {
  places = λ j r low. keeps_from d t j a r (λ i f ie fe. part_of d t j i f ((below j low).each i f ie fe) r);
  whole = each_before (λ r. Entry r d t) (each_entry d t a) rule;
  entries = λ e. each_entry d t a;
  here = λ e. here;
}
