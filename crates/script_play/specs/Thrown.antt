-- The signals discarded, by state, and how often.
use Rattle.std.specs.Prelude.{◌≡◌, ℕ, ◌+◌, ◌==◌, Bool, ◌&&◌, List, [], ◌∷◌, ◌++◌, codes, map}
use Rattle.std.specs.Prelude.{if◌then◌else◌}
use Rattle.std.specs.List.{flat_map}
use Rattle.std.specs.Fmt.{decimal}
use Rattle.turn_code.specs.declared.draft.Draft.{Draft}
use Rattle.turn_check.specs.Answered.{same_trigger}
use Rattle.script_lines.specs.Replies.{process_text, state_text, trigger_text}
use Rattle.actor_machine.specs.Looking.{trigger_of}
use Rattle.script_seen.specs.Watched.{Notice, Throw, throws_in}
use Rattle.script_play.specs.declared.thrown.Throw.{Throw as Counted}
use Rattle.script_play.specs.declared.thrown.Thrown.{Thrown}

-- an item discarded once in a state of an actor's process
abbrev pub once : Throw → Counted
once x = record {
  process = x.me.process;
  state = x.state;
  trigger = trigger_of x.item;
  times = 1;
}

-- whether both are the same signal or timer, in the same state of the same process
abbrev pub same_throw : Counted → Counted → Bool
same_throw x y =
    ((x.process.0 == y.process.0) && (x.state.0 == y.state.0)) && same_trigger x.trigger y.trigger

-- one more occurrence; a new item is appended
abbrev pub counted_throw : Counted → List Counted → List Counted
counted_throw x [] = x ∷ []
counted_throw x (c ∷ cs) =
    if same_throw c x then record c { times = c.times + 1 } ∷ cs else c ∷ counted_throw x cs

-- the counts after these items, in the order of first occurrence
abbrev pub counts : List Counted → List Counted → List Counted
counts cs [] = cs
counts cs (x ∷ xs) = counts (counted_throw x cs) xs

abbrev pub throw_line : Draft → Counted → List ℕ
throw_line d c =
    process_text d c.process.0 ++ codes " " ++ state_text d c.process.0 c.state.0 ++ codes "/"
    ++ trigger_text d c.process.0 c.trigger ++ codes " " ++ decimal c.times ++ codes "\n"

abbrev pub thrown_text : Draft → List Throw → List ℕ
thrown_text d xs = flat_map (throw_line d) (counts [] (map once xs))

-- the report from all notices
abbrev pub thrown_of : Draft → List Notice → List ℕ
thrown_of d ns = thrown_text d (throws_in ns)

-- ---- partial counts

abbrev pub CountsThrown : List Throw → Thrown → Type 0
CountsThrown xs t = t.throws.items ≡ counts [] (map once xs)
