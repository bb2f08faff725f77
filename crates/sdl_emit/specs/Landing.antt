-- The places where the bodies of a DECISION begin and those of the jumps at their ends; and what
-- fills the places kept for instructions that are known only later.
use Rattle.std.specs.Prelude.{ℕ, ◌+◌, Bool, true, false, List, [], ◌∷◌, ◌++◌, length, if◌then◌else◌}
use Rattle.std.specs.Prelude.{slice_set}
use Rattle.std.specs.List.{list_any}
use Rattle.sdl_ast.specs.Plain.{Text, Choice, nothing_else, otherwise, answer}
use Rattle.turn_code.specs.declared.numbers.CodePlace.{CodePlace}
use Rattle.turn_code.specs.declared.instruction.Instruction.{Instruction}
use Rattle.turn_code.specs.declared.instruction.Instruction.TheVariants as i
use Rattle.sdl_sound.specs.Going.{goes_on}
use Rattle.sdl_meaning.specs.Outcomes.{Scope}
use Rattle.sdl_meaning.specs.Code.{jump, body_size, text_code, names_truth, ranges_code}

abbrev pub code_place : ℕ → CodePlace
code_place n = record { 0 = n }

-- The places where the bodies of answers begin, which follow one another from place n on.
abbrev pub starts_from : Scope → ℕ → Choice → List CodePlace
starts_from c n nothing_else = []
starts_from c n (otherwise body) = []
starts_from c n (answer at rs body others) =
    code_place n ∷ starts_from c (n + body_size c body) others

-- The jump that ends a body which goes on, and its place.
abbrev pub left_jump : Bool → List Instruction
left_jump goes = if goes then jump 0 ∷ [] else []

abbrev pub left_place : Bool → ℕ → List ℕ
left_place goes n = if goes then n ∷ [] else []

-- The place of the jump that ends a body, if the body goes on.
abbrev pub leave_place : Scope → (ℕ → ℕ) → ℕ → Text → List ℕ
leave_place c to n body = if goes_on body then (n + length (text_code c to n body)) ∷ [] else []

abbrev pub answers_leave : Scope → (ℕ → ℕ) → ℕ → Choice → List ℕ
answers_leave c to n nothing_else = []
answers_leave c to n (otherwise body) = []
answers_leave c to n (answer at rs body others) =
    leave_place c to n body ++ answers_leave c to (n + body_size c body) others

abbrev pub else_leave : Scope → (ℕ → ℕ) → ℕ → Choice → List ℕ
else_leave c to n nothing_else = []
else_leave c to n (otherwise body) = leave_place c to n body
else_leave c to n (answer at rs body others) = else_leave c to n others

-- Whether there are any places.
abbrev pub has_any : List ℕ → Bool
has_any [] = false
has_any (p ∷ ps) = true

-- Code whose jumps at these places lead to `after`.
abbrev pub landed : CodePlace → List Instruction → List ℕ → List Instruction
landed after code [] = code
landed after code (p ∷ ps) = landed after (slice_set code p (i.Jump after)) ps

-- Code with these instructions from place n on.
abbrev pub filled : List Instruction → ℕ → List Instruction → List Instruction
filled code n [] = code
filled code n (x ∷ xs) = filled (slice_set code n x) (n + 1) xs

-- The first of these places, or else p.
abbrev pub first_or : CodePlace → List CodePlace → CodePlace
first_or p [] = p
first_or p (q ∷ qs) = q

abbrev pub behind_first : List CodePlace → List CodePlace
behind_first [] = []
behind_first (q ∷ qs) = qs

-- The place of the body for a truth value, if the bodies of the answers begin at these places and
-- that of ELSE at p.
abbrev pub picked_by : CodePlace → List CodePlace → Choice → Bool → CodePlace
picked_by p starts nothing_else b = p
picked_by p starts (otherwise body) b = p
picked_by p starts (answer at rs body others) b =
    if list_any (names_truth b) rs then first_or p starts
    else picked_by p (behind_first starts) others b

-- The tests of an Integer DECISION, if the bodies of the answers begin at these places.
abbrev pub tests_by : List CodePlace → Choice → List Instruction
tests_by starts nothing_else = []
tests_by starts (otherwise body) = i.Drop ∷ []
tests_by starts (answer at rs body others) =
    ranges_code (first_or (code_place 0) starts).0 rs ++ tests_by (behind_first starts) others
