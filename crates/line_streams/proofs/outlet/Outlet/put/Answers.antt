use Rattle.std.proofs.Common.{◌++◌, ap, refl, sym, ◌∙◌, rules}
use Rattle.std.proofs.lemmas.Result.{on_ok_weaker}
use Rattle.rtrb.specs.Ring.{sent}
use Rattle.line_streams.specs.Departing.{goes, is_lost}
use Rattle.line_streams.proofs.Ends.{queued_on}
use Rattle.line_streams.proofs.outlet.Outlet.put.Goals as goal

pub returns-then-has_to_wait-clause-told : goal.returns-then-has_to_wait-clause-told
returns-then-has_to_wait-clause-told c =
    on_ok_weaker c.send_or_keep.result
    (λ queued. queued_on (record { wait = c.args.wait; octets = c.args.line.now }) c.args.self.now c.send_or_keep.new.self _ c.in_ok-text.ensures
    (sym c.has_to_wait.ensures ∙ c.if-has_to_wait.true) queued) c.send_or_keep.ensures.told

pub returns-then-send_behind_none-clause-told : goal.returns-then-send_behind_none-clause-told
returns-then-send_behind_none-clause-told c =
    let none = c.send_behind_none.ensures.empty c.if-send_behind_none.true in
    goes _ none.0 c.in_ok-text.ensures (c.send_behind_none.ensures.sent c.if-send_behind_none.true ∙ ap (λ t. sent c.args.self.now.ring ++ t) c.deref.ensures.value) none.1 refl

pub returns-clause-told : goal.returns-clause-told
returns-clause-told c =
    is_lost _ c.in_ok-text.ensures (sym c.has_to_wait.ensures ∙ c.if-has_to_wait.false)
    (rw c.deref.ensures.value at (c.send_behind_none.ensures.full c.if-send_behind_none.false)) (c.send_behind_none.ensures.same c.if-send_behind_none.false)
    c.send_behind_none.ensures.kept (search (rules, c.in-Some.ensures))
