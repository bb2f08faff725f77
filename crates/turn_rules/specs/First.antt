-- The order in which the rules are checked, and the first that a transition breaks.
use Rattle.std.specs.Prelude.{ℕ, ◌<◌}
use Rattle.turn_code.specs.Transitions.{Transition}
use Rattle.turn_code.specs.Valid.{Keeps}
use Rattle.turn_code.specs.declared.draft.Draft.{Draft}
use Rattle.turn_code.specs.declared.rule.Rule.{Rule}
use Rattle.turn_code.specs.declared.rule.Rule.TheVariants.{Jump, Shape, Under, Sort, Unset, State}
use Rattle.turn_code.specs.declared.rule.Rule.TheVariants.{Number, Limit, Budget}
use Rattle.turn_rules.specs.Parts.{Entry}

-- P holds of each rule that is checked before this one. The order is: limits, names, the state
-- where the code ends, operands, their sorts, places where the code goes on, shapes there, set
-- variables, and counts.
abbrev pub EachBefore : (Rule → Type 0) → Rule → Type 0
EachBefore P Limit = Unit {0}
EachBefore P Number = P Limit
EachBefore P State = P Limit × P Number
EachBefore P Under = P Limit × P Number × P State
EachBefore P Sort = P Limit × P Number × P State × P Under
EachBefore P Jump = P Limit × P Number × P State × P Under × P Sort
EachBefore P Shape = P Limit × P Number × P State × P Under × P Sort × P Jump
EachBefore P Unset = P Limit × P Number × P State × P Under × P Sort × P Jump × P Shape
EachBefore P Budget =
    P Limit × P Number × P State × P Under × P Sort × P Jump × P Shape × P Unset

-- Nothing is broken before that rule at place k. No earlier place breaks a rule. The whole breaks
-- no rule that comes earlier in the order; if it doesn't break that rule itself, it breaks none,
-- and no rule earlier in the order is broken at k.
pub record NoneBefore (d : Draft) (t : Transition) (rule : Rule) (k : ℕ) : Type 0 where
  pub places : (j : ℕ) (r : Rule) → j < k → Keeps r d t j
  pub whole : EachBefore (λ r. Entry r d t) rule
  pub entries : Entry rule d t → (r : Rule) → Entry r d t
  pub here : Entry rule d t → EachBefore (λ r. Keeps r d t k) rule
