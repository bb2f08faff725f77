use Rattle.std.proofs.Common.{◌≡◌, ◌≤◌, ◌+◌, ◌*◌, ◌^◌, All, sum_by, vec_len, vec_capacity}
use Rattle.std.specs.Vec.Iter.{into_iter_len}
use Rattle.actor_machine.specs.Ledger.{next}
use Rattle.turn_pool.specs.Serves.{CountsFinishes}
use Rattle.turn_pool.proofs.links.take_all_out.Given as goal

abbrev pub invariant-loop-slot : goal.invariant-loop-slot
invariant-loop-slot g l =
    (vec_len l.books + into_iter_len l.slot-iterator ≡ vec_len l.fn.slots) × (vec_len l.fn.slots ≤ vec_capacity l.books) ×
    (l.rest.parts ≡ l.fn.rest.parts + vec_len l.books) ×
    (l.rest.amount + sum_by next l.books.items ≡ l.fn.rest.amount + vec_len l.books * 2 ^ 57) × All CountsFinishes l.books.items
