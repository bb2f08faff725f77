-- How the search for names that a state consumes or saves twice works: by numbers of names, and by
-- numbers of STATE parts.
use Rattle.std.specs.Prelude.{◌≡◌, ℕ, ◌<◌, ◌==◌, true, List, Some, map, length, get_or, slice_get}
use Rattle.std.specs.Global.{Vec}
use Rattle.std.specs.List.{flat_map, AllByRecursion}
use Rattle.sdl_ast.specs.declared.expression.Identifier.{Identifier}
use Rattle.sdl_ast.specs.Plain.{PlainState}
use Rattle.sdl_tables.specs.Names.{is_in, number_of, part_triggers}
use Rattle.sdl_tables.specs.Rows.{row_at}
use Rattle.sdl_tables.specs.declared.triggers.Trigger.{Trigger}

-- the names in the row of a part
abbrev pub trigger_ids : Vec Trigger → List Identifier
trigger_ids v = map (λ t. t.id) v.items

-- the names that the part with this number consumes or saves
abbrev pub taken_by : List (Vec Trigger) → ℕ → List Identifier
taken_by parts k = row_at trigger_ids parts k

-- the names that the parts with these numbers consume or save
abbrev pub taken_in : (ℕ → List Identifier) → Vec ℕ → List Identifier
taken_in of_part v = flat_map of_part v.items

-- part k consumes and saves the names `of_part k`
abbrev pub AreTaken : (ℕ → List Identifier) → List PlainState → Type 0
AreTaken of_part parts =
    (k : ℕ) (part : PlainState) → slice_get parts k ≡ Some part → of_part k ≡ part_triggers part

-- the number of a trigger is that of its name
abbrev pub IsNumbered : List Identifier → Trigger → Type 0
IsNumbered names t = number_of names t.id.name ≡ Some t.number

abbrev pub AreNumbered : List Identifier → List (Vec Trigger) → Type 0
AreNumbered names parts = AllByRecursion (λ v. AllByRecursion (IsNumbered names) v.items) parts

-- each name keeps its number
abbrev pub Keeps : List Identifier → List Identifier → Type 0
Keeps old new = (x : List ℕ) (n : ℕ) → number_of old x ≡ Some n → number_of new x ≡ Some n

-- exactly the names in `before` are marked with the stamp
pub record Stamped (names : List Identifier) (seen : List ℕ) (stamp : ℕ)
    (before : List Identifier) : Type 0 where
  pub count : length names ≡ length seen
  pub same : (x : List ℕ) (n : ℕ) → number_of names x ≡ Some n
      → (get_or seen n 0 == stamp) ≡ is_in before x

-- all stamps are less than this bound
abbrev pub AreBelow : List ℕ → ℕ → Type 0
AreBelow seen bound = (n : ℕ) → get_or seen n 0 < bound

-- each of these names is in `before`
abbrev pub Covers : List Identifier → List Identifier → Type 0
Covers before ids = (x : List ℕ) → is_in ids x ≡ true → is_in before x ≡ true
