-- A property of each book, with one more book.
use Rattle.std.proofs.Common.{List, [], ◌∷◌, ◌++◌, All}
use Rattle.std.proofs.lemmas.List.Elements.{All-append, All-cons, All-nil}
use Rattle.actor_machine.specs.Ledger.{Ledger}
use Rattle.turn_pool.specs.Serves.{CountsFinishes}

pub one_more : (bs : List Ledger) (b : Ledger) → All CountsFinishes bs → CountsFinishes b → All CountsFinishes (bs ++ b ∷ [])
one_more bs b these this = All-append CountsFinishes bs (b ∷ []) these (All-cons CountsFinishes b [] this (All-nil CountsFinishes))
