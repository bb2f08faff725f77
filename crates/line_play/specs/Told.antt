-- The answers of a terminal as they are reported.
use Rattle.std.specs.Prelude.{◌≡◌, ℕ, Bool, true, false, List, ◌∷◌, ◌++◌, codes, string_bytes}
use Rattle.line_filter.specs.declared.terminal.Answer.{Answer}
use Rattle.line_filter.specs.declared.terminal.Answer.TheVariants as answer

-- The answer for the line that a script prints for an order: a refusal, the answer to a question,
-- or that the order was obeyed.
abbrev pub IsAnswerOf : Bool → List ℕ → List ℕ → Answer → Type 0
IsAnswerOf question order line (answer.Refused why) = line ≡ codes "refused " ++ string_bytes why
IsAnswerOf false order line answer.Done = line ≡ codes "ok"
IsAnswerOf true order line answer.Done = ⊥
IsAnswerOf true order line (answer.Said text) =
    (string_bytes text ≡ order ++ 32 ∷ line) × ((why : List ℕ) → line ≡ codes "refused " ++ why → ⊥)
IsAnswerOf false order line (answer.Said text) = ⊥
IsAnswerOf question order line (answer.Listed lines) = ⊥

-- the answer to a line that is no order
abbrev pub IsBadLine : Answer → Type 0
IsBadLine answer.Done = ⊥
IsBadLine (answer.Said text) = ⊥
IsBadLine (answer.Listed lines) = ⊥
IsBadLine (answer.Refused why) = string_bytes why ≡ codes "X1 BadLine"
