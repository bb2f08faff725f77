use Rattle.std.proofs.Common.{inl, IfSome, IsNone, length, refl, string_bytes, ◌⊎◌}
use Rattle.std.specs.Prelude.{◌≤◌}
use Rattle.line_filter.specs.Orders.{NextIs, NoneIsDue}
use Rattle.line_filter.specs.Reporting.{waiting_count}
use Rattle.line_filter.specs.declared.reports.Wait.TheVariants.{Answer}
use Rattle.line_play.specs.SetQueues.{waiting_in, MOST_WAITING}
use Rattle.line_play.specs.SetRounds.{MANY_ANSWERS}
use Rattle.line_play.proofs.SetObeying.{moved}
use Rattle.line_play.proofs.SetRounds.{ends_ahead, ends_behind, ends_may, none_read, none_ended}
use Rattle.line_play.proofs.set.attending.next_order.Goals as goal

pub returns-then-holds_back-clause-order : goal.returns-then-holds_back-clause-order
returns-then-holds_back-clause-order g c = ends_ahead c.next_end.result (λ s. string_bytes s) c.args.now _ _ c.next_end.ensures.order

pub returns-then-holds_back-clause-none : goal.returns-then-holds_back-clause-none
returns-then-holds_back-clause-none g c =
    none_read c.next_end.result c.args.now _ _ (c.holds_back.ensures.full c.if-holds_back.true) c.next_end.ensures.none

pub returns-then-holds_back-clause-may : goal.returns-then-holds_back-clause-may
returns-then-holds_back-clause-may g c = ends_may c.next_end.result (λ s. string_bytes s) _ _ c.next_end.ensures.ends

pub returns-in-Some-clause-may : goal.returns-in-Some-clause-may
returns-in-Some-clause-may g c = inl (c.holds_back.ensures.free c.if-holds_back.false)

pub returns-in-None-clause-may : goal.returns-in-None-clause-may
returns-in-None-clause-may g c = ends_may c.next_end-in-None.result (λ s. string_bytes s) _ _ c.next_end-in-None.ensures.ends

pub returns-in-Some-clause-order : goal.returns-in-Some-clause-order
returns-in-Some-clause-order g c =
    moved _ _ c.in-Some.is (λ o. IfSome o (λ text. NextIs c.args.now (g.O.Orders.left c.args.orders.now) (string_bytes text) (g.O.Orders.left c.next.new.self))) c.in_ok-order.ensures.order

pub returns-in-None-clause-order : goal.returns-in-None-clause-order
returns-in-None-clause-order g c =
    ends_behind c.next_end-in-None.result (λ s. string_bytes s) c.args.now _ (g.O.Orders.left c.next.new.self) _
    (moved _ _ c.in-None.is (λ o. IsNone o → NoneIsDue c.args.now (g.O.Orders.left c.args.orders.now) (g.O.Orders.left c.next.new.self)) c.in_ok-order.ensures.none refl)
    c.next_end-in-None.ensures.order

pub returns-in-None-clause-none : goal.returns-in-None-clause-none
returns-in-None-clause-none g c =
    none_ended ((MOST_WAITING ≤ length (waiting_in c.args.queue.now)) ⊎ (MANY_ANSWERS ≤ waiting_count Answer (g.P.Reports.stand c.args.reports.now)))
    c.next_end-in-None.result c.args.now _ (g.O.Orders.left c.next.new.self) _
    (moved _ _ c.in-None.is (λ o. IsNone o → NoneIsDue c.args.now (g.O.Orders.left c.args.orders.now) (g.O.Orders.left c.next.new.self)) c.in_ok-order.ensures.none refl)
    c.next_end-in-None.ensures.none
