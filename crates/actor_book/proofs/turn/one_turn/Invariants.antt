use Rattle.std.proofs.Common.{◌≡◌, ◌-◌}
use Rattle.actor_book.specs.Turns.{actors_in, first_from, least_turn}
use Rattle.actor_book.proofs.turn.one_turn.Given as goal

abbrev pub invariant-loop-actor : goal.invariant-loop-actor
invariant-loop-actor l =
    (l.book ≡ l.initial.book) × (first_from (actors_in l.initial.book - l.actor) l.actor l.initial.book ≡ least_turn l.initial.book)
