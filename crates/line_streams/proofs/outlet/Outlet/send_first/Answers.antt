use Rattle.std.proofs.Common.{refl, rules}
use Rattle.line_streams.proofs.Ends.{none_goes_on, no_room_for, first_goes_on}
use Rattle.line_streams.proofs.outlet.Outlet.send_first.Goals as goal

pub returns-in_err-first-clause-none : goal.returns-in_err-first-clause-none
returns-in_err-first-clause-none c = λ none. none_goes_on _ c.in_err-first.ensures

pub returns-then-is_err-clause-none : goal.returns-then-is_err-clause-none
returns-then-is_err-clause-none c = λ none. no_room_for _ _ _ c.in_ok-first.ensures (search rules) (search rules) refl refl

pub returns-clause-some : goal.returns-clause-some
returns-clause-some c = first_goes_on _ _ _ _ c.in_ok-first.ensures (search rules) c.drop_first.ensures.some refl (search rules)
