-- A part that was read, or the place of the first action, DECISION or synonym in it that is too
-- high.
use Rattle.std.specs.Prelude.{ℕ, min, List, [], ◌∷◌, ◌++◌, Option, Some, None}
use Rattle.sdl_ast.specs.Plain.{PlainAnswer, Choice, PlainStatement, decide, all_answers}
use Rattle.sdl_ast.specs.Plain.{PlainQuestion, PlainStart, PlainDeclaration, PlainState}
use Rattle.sdl_ast.specs.Plain.{PlainConnection, PlainProcessHead, PlainProcess}
use Rattle.sdl_ast.specs.Heights.{high_in_statement}

pub data Marked (A : Type 0) : Type 0 where
  kept : A → Marked A
  too_high : ℕ → Marked A

abbrev pub by_place : {A : Type 0} → Option ℕ → A → Marked A
by_place None x = kept x
by_place (Some at) x = too_high at

-- the part, or its mark if something in it is too high
abbrev pub marked : {A : Type 0} → (A → Option ℕ) → A → Marked A
marked high x = by_place (high x) x

abbrev pub map_marked : {A B : Type 0} → (A → B) → Marked A → Marked B
map_marked f (kept x) = kept (f x)
map_marked f (too_high at) = too_high at

-- appends a part to others; the first mark stays
abbrev pub more : {A : Type 0} → Marked (List A) → Marked A → Marked (List A)
more (kept xs) m = map_marked (λ x. xs ++ x ∷ []) m
more (too_high at) m = too_high at

-- prepends a part to others, and combines several parts; the first mark stays
abbrev pub in_front : {A : Type 0} → Marked A → Marked (List A) → Marked (List A)
in_front (kept x) ms = map_marked (λ xs. x ∷ xs) ms
in_front (too_high at) ms = too_high at

abbrev pub gathered : {A : Type 0} → List (Marked A) → Marked (List A)
gathered [] = kept []
gathered (m ∷ ms) = in_front m (gathered ms)

-- A DECISION is marked at its own place if a part of it is marked or if it is too high.
abbrev pub decided :
    PlainQuestion → Marked (List PlainAnswer) → Marked Choice → Marked PlainStatement
decided asked (kept answers) (kept others) =
    marked high_in_statement (decide asked.at asked.question (all_answers answers others))
decided asked (kept answers) (too_high at) = too_high asked.at
decided asked (too_high at) others = too_high asked.at

abbrev pub process_with :
    PlainProcessHead → List PlainDeclaration → PlainStart → List PlainState → List PlainConnection
    → PlainProcess
process_with head declarations start states connections =
    record {
      name = head.name;
      instances = head.instances;
      declarations = declarations;
      start = start;
      states = states;
      connections = connections;
    }

-- STATE parts and CONNECTIONs are mixed in the text, so the lesser of two marks is the first.
abbrev pub body_marked :
    PlainProcessHead → List PlainDeclaration → PlainStart → Marked (List PlainState)
    → Marked (List PlainConnection) → Marked PlainProcess
body_marked head declarations start (kept states) (kept connections) =
    kept (process_with head declarations start states connections)
body_marked head declarations start (kept states) (too_high at) = too_high at
body_marked head declarations start (too_high at) (kept connections) = too_high at
body_marked head declarations start (too_high at) (too_high other) = too_high (min at other)

abbrev pub start_marked :
    PlainProcessHead → List PlainDeclaration → Marked PlainStart → Marked (List PlainState)
    → Marked (List PlainConnection) → Marked PlainProcess
start_marked head declarations (kept start) states connections =
    body_marked head declarations start states connections
start_marked head declarations (too_high at) states connections = too_high at

abbrev pub process_marked :
    PlainProcessHead → Marked (List PlainDeclaration) → Marked PlainStart
    → Marked (List PlainState) → Marked (List PlainConnection) → Marked PlainProcess
process_marked head (kept declarations) start states connections =
    start_marked head declarations start states connections
process_marked head (too_high at) start states connections = too_high at
