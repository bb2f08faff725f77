-- The remaining offers lead to the result of all offers.
use Rattle.std.proofs.Common.{◌≡◌, ◌-◌}
use Rattle.script_lines.specs.Commands.{plain_offer}
use Rattle.script_book.specs.Answers.{floods}
use Rattle.script_book.proofs.offers.offers.Given as goal

abbrev pub invariant-loop-sent : goal.invariant-loop-sent
invariant-loop-sent l = floods (l.times - l.sent) (plain_offer l.given) l.book ≡ floods l.times (plain_offer l.given) l.initial.book
