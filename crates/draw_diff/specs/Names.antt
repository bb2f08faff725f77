-- How names map the numbers of one set to those of another. Two names that differ only in the case
-- of letters are the same name.
use Rattle.std.specs.Prelude.{ℕ, Bool, false, List, Option, Some, None, slice_get, position}
use Rattle.std.specs.Prelude.{bytes_eq, map, nat_lt, ◌==◌, if◌then◌else◌}
use Rattle.std.specs.Char.{to_ascii_lowercase}
use Rattle.turn_code.specs.declared.draft.Draft.{Draft}
use Rattle.turn_code.specs.declared.draft.DraftProcess.{DraftProcess}
use Rattle.turn_code.specs.declared.draft.DraftSignal.{DraftSignal}
use Rattle.turn_code.specs.declared.draft.DraftState.{DraftState}
use Rattle.turn_code.specs.declared.draft.DraftVariable.{DraftVariable}

-- whether two spellings are the same name
abbrev pub same_name : List ℕ → List ℕ → Bool
same_name x y = bytes_eq (map to_ascii_lowercase x) (map to_ascii_lowercase y)

-- the number as an octet: numbers in code are below 256
abbrev pub octet : Option ℕ → Option ℕ
octet None = None
octet (Some n) = if nat_lt n 256 then Some n else None

-- the number of the item with this name; `name` returns the name of an item
abbrev pub numbered : {A : Type 0} → (A → List ℕ) → List A → Option A → Option ℕ
numbered name news None = None
numbered name news (Some x) = octet (position (λ y. same_name (name x) (name y)) news)

-- the number that item n of the old list has in the new list
abbrev pub moved : {A : Type 0} → (A → List ℕ) → List A → List A → ℕ → Option ℕ
moved name olds news n = numbered name news (slice_get olds n)

-- whether the number is present and equals this one
abbrev pub is_number : Option ℕ → ℕ → Bool
is_number None n = false
is_number (Some m) n = m == n

abbrev pub own_name : List ℕ → List ℕ
own_name name = name

abbrev pub signal_name : DraftSignal → List ℕ
signal_name s = s.name

abbrev pub process_name : DraftProcess → List ℕ
process_name p = p.name

abbrev pub state_name : DraftState → List ℕ
state_name q = q.name

abbrev pub variable_name : DraftVariable → List ℕ
variable_name v = v.name

-- ---- a process of one draft, and one of another

-- two drafts, and a process of each
pub record Sides : Type 0 where
  pub old : Draft
  pub old_process : DraftProcess
  pub new : Draft
  pub new_process : DraftProcess

abbrev pub moved_signal : Sides → ℕ → Option ℕ
moved_signal s n = moved signal_name s.old.signals s.new.signals n

abbrev pub moved_process : Sides → ℕ → Option ℕ
moved_process s n = moved process_name s.old.processes s.new.processes n

abbrev pub moved_state : Sides → ℕ → Option ℕ
moved_state s n = moved state_name s.old_process.states s.new_process.states n

abbrev pub moved_timer : Sides → ℕ → Option ℕ
moved_timer s n = moved own_name s.old_process.timers s.new_process.timers n

-- the variable must be the first of its name on both sides, so no two variables become one
abbrev pub back_to :
    List DraftVariable → List DraftVariable → ℕ → Option ℕ → Option ℕ
back_to olds news n None = None
back_to olds news n (Some m) =
    if is_number (moved variable_name news olds m) n then Some m else None

abbrev pub moved_variable : Sides → ℕ → Option ℕ
moved_variable s n =
    back_to s.old_process.variables s.new_process.variables n
    (moved variable_name s.old_process.variables s.new_process.variables n)
