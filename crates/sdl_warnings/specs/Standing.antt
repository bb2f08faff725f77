-- What the code keeps: statements, ways among states, and the states that take a signal.
use Rattle.std.specs.Prelude.{◌≡◌, ◌<◌, ℕ, map, length}
use Rattle.sdl_ast.specs.Plain.{PlainProcess}
use Rattle.sdl_tables.specs.Names.{states_of}
use Rattle.sdl_sound.specs.Statements.{Statement, acts, covers, finishes}
use Rattle.sdl_sound.specs.Parts.{question_of}
use Rattle.sdl_ast.specs.Views.{tree_of, action_of, process_of}
use Rattle.sdl_ast.specs.declared.tree.Decision.{out-Decision}
use Rattle.sdl_warnings.specs.Stated.{process_statements}
use Rattle.sdl_warnings.specs.Marked.{is_marked}
use Rattle.sdl_warnings.specs.Reaches.{is_way_in}
use Rattle.sdl_warnings.specs.Ways.{enters, is_way}
use Rattle.sdl_warnings.specs.Warned.{takes}
use Rattle.sdl_warnings.specs.declared.saves.Takers.{Takers}
use Rattle.sdl_warnings.specs.declared.ways.Ways.{Ways}
use Rattle.sdl_warnings.specs.declared.parts.Part.{Part}
use Rattle.sdl_warnings.specs.declared.parts.Part.TheVariants.{Act, Ask, Cover, Finish}
use Rattle.sdl_warnings.specs.declared.told.Told.TheInside.{Inside}

-- the statement that a part stands for
abbrev pub part_of : Part → Statement
part_of (Act a) = acts (action_of a.now)
part_of (Ask d) = question_of d.now
part_of (Cover d a) = covers (tree_of (out-Decision d.now).question) a.now.ranges.items
part_of (Finish e) = finishes e.now

-- the parts are those of the process
abbrev pub IsTold : Inside → Type 0
IsTold t = map part_of t.parts.items ≡ process_statements (process_of t.table.now)

-- the table has the ways of a process, and a mark for each state in which START may end
pub record AreWays (p : PlainProcess) (w : Ways) : Type 0 where
  pub ways : (n m : ℕ) → m < length (states_of p) → is_way_in w.to.items n m ≡ is_way p n m
  pub count : length w.first.items ≡ length (states_of p)
  pub first : (n : ℕ) → is_marked w.first.items n ≡ enters p p.start.text n

-- a mark for each state that takes what has this name
pub record AreTakers (p : PlainProcess) (t : Takers) : Type 0 where
  pub count : length t.marks.items ≡ length (states_of p)
  pub each : (n : ℕ) → n < length (states_of p) → is_marked t.marks.items n ≡ takes p t.name n
