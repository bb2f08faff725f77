use Rattle.actor_book.specs.Turns.{MOST_TURNS, rests}
use Rattle.actor_book.proofs.Leasts.{Rests}
use Rattle.actor_book.proofs.turn.rest.Given as goal

abbrev pub invariant-loop-turns : goal.invariant-loop-turns
invariant-loop-turns l = Rests MOST_TURNS l.turns l.book (rests MOST_TURNS l.initial.book)
