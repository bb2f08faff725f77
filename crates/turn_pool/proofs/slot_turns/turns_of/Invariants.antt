use Rattle.actor_book.specs.Turns.{rests}
use Rattle.actor_book.proofs.Leasts.{Rests}
use Rattle.turn_pool.proofs.slot_turns.turns_of.Given as goal

abbrev pub invariant-loop-turns : goal.invariant-loop-turns
invariant-loop-turns l = Rests l.most l.turns l.book (rests l.most l.initial.book)
