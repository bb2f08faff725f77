-- The orders that end a run and may come ahead of their turn.
use Rattle.std.specs.Prelude.{◌≡◌, ℕ, ◌&&◌, not, nat_le, Bool, true, false, List, [], ◌∷◌, ◌++◌}
use Rattle.std.specs.Prelude.{string_bytes}
use Rattle.std.specs.List.{list_any}
use Rattle.line_filter.specs.Says.{is_end_order}
use Rattle.line_streams.specs.declared.ahead.Ahead.{Ahead}
use Rattle.line_streams.specs.declared.ending.End.{End}
use Rattle.line_streams.specs.declared.live.LiveOrders.{LiveOrders}
use Rattle.line_streams.specs.declared.watch.Watch.{Watch}

-- It may come ahead of its turn at this millisecond, and hasn't come.
abbrev pub may_come : ℕ → End → Bool
may_come now e = not e.given && nat_le e.since now

-- what is known of the lines of a stream
abbrev pub watch_by : Ahead → Watch
watch_by ahead = ahead.watch

abbrev pub watch_in : LiveOrders → Watch
watch_in o = watch_by o.orders.reader

abbrev pub NoneMayCome : ℕ → Watch → Type 0
NoneMayCome now w = list_any (may_come now) w.ends.items ≡ false

-- One more order is noted, the last: with its words, and the millisecond until which it waits.
pub record NotesEnd (text : List ℕ) (old new : Watch) : Type 0 where
  pub last : End
  pub noted : new.ends.items ≡ old.ends.items ++ last ∷ []
  pub words : string_bytes last.text ≡ text
  pub since : last.since ≡ old.since
  pub fresh : last.given ≡ false

-- An order came. It is noted if, and only if, it ends the run.
pub record Notes (text : List ℕ) (old new : Watch) : Type 0 where
  pub ends : is_end_order text ≡ true → NotesEnd text old new
  pub others : is_end_order text ≡ false → new.ends.items ≡ old.ends.items
