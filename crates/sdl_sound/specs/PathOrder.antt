-- Control paths in text order.
use Rattle.std.specs.Prelude.{◌≡◌, ◌⊎◌, ℕ, ◌<◌, true, ⊤, List, [], ◌∷◌, length, Some, slice_get}
use Rattle.std.specs.List.{AllZip}
use Rattle.sdl_tables.specs.sdl_ast_types.expression.Identifier.{Identifier}
use Rattle.sdl_tables.specs.Plain.{PlainProcess}
use Rattle.sdl_tables.specs.Names.{same_name, states_of, Input, inputs_of, stimulus_of}
use Rattle.sdl_sound.specs.Paths.{ReadsUnset}
use Rattle.sdl_sound.specs.declared.fault.Step.{Step}
use Rattle.sdl_sound.specs.declared.fault.Step.TheVariants.{Start, Input as Takes}

-- the state of the step has number q, and its input has number i in that state
abbrev pub StandsAt : PlainProcess → Step → ℕ → ℕ → Type 0
StandsAt p Start q i = ⊥
StandsAt p (Takes state signal) q i =
    (id : Identifier) × (slice_get (states_of p) q ≡ Some id) × (same_name state id.name ≡ true)
    × (inp : Input) × (slice_get (inputs_of p q) i ≡ Some inp)
    × (same_name signal (stimulus_of inp).name ≡ true)

-- START's transition is first. Those of states follow in the order of the states, and within a
-- state in the order of its inputs.
abbrev pub Precedes : PlainProcess → Step → Step → Type 0
Precedes p Start Start = ⊥
Precedes p Start (Takes state signal) = ⊤
Precedes p (Takes state signal) Start = ⊥
Precedes p (Takes state signal) (Takes other heard) =
    (q : ℕ) × (i : ℕ) × (r : ℕ) × (j : ℕ) × StandsAt p (Takes state signal) q i
    × StandsAt p (Takes other heard) r j × ((q < r) ⊎ ((q ≡ r) × (i < j)))

-- the same step, in any spelling of its names
abbrev pub IsSame : PlainProcess → Step → Step → Type 0
IsSame p Start Start = ⊤
IsSame p Start (Takes state signal) = ⊥
IsSame p (Takes state signal) Start = ⊥
IsSame p (Takes state signal) (Takes other heard) =
    (q : ℕ) × (i : ℕ) × StandsAt p (Takes state signal) q i × StandsAt p (Takes other heard) q i

-- the two paths agree up to a step, and then the step of the first precedes that of the second
abbrev pub Earlier : PlainProcess → List Step → List Step → Type 0
Earlier p [] other = ⊥
Earlier p (a ∷ path) [] = ⊥
Earlier p (a ∷ path) (b ∷ other) = Precedes p a b ⊎ (IsSame p a b × Earlier p path other)

-- a path has fewer transitions than another one, or has as many and is the same or comes first in
-- the text
abbrev pub NotAfter : PlainProcess → List Step → List Step → Type 0
NotAfter p path other =
    (length path < length other)
    ⊎ ((length path ≡ length other) × (AllZip (IsSame p) path other ⊎ Earlier p path other))

-- No control path that reads a variable unset has fewer transitions. None with as many comes first
-- in the text.
abbrev pub IsFirst : PlainProcess → List Step → Type 0
IsFirst p path = (other : List Step) (x : List ℕ) → ReadsUnset p other x → NotAfter p path other
