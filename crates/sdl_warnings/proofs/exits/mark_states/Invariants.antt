use Rattle.std.proofs.Common.{length, take, ℕ, ◌||◌, ◌≡◌}
use Rattle.sdl_tables.specs.Names.{is_state}
use Rattle.sdl_warnings.specs.Marked.{is_marked}
use Rattle.std.specs.List.{list_any}
use Rattle.sdl_warnings.proofs.exits.mark_states.Given as goal

abbrev pub invariant-loop-id : goal.invariant-loop-id
invariant-loop-id l =
    (length l.marks.items ≡ length l.initial.marks.items)
    × ((n : ℕ) → is_marked l.marks.items n ≡ (is_marked l.initial.marks.items n || list_any (λ id. is_state l.states n id.name) (take l.id-index l.ids)))
