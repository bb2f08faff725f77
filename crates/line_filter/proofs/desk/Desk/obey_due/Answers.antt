use Rattle.std.proofs.Common.{refl, sym, ◌∙◌}
use Rattle.std.specs.Prelude.{IfSome, string_bytes}
use Rattle.line_filter.specs.Orders.{NextIs}
use Rattle.line_filter.proofs.Telling.{moved, not_both, due_looked, due_more, due_ended}
use Rattle.line_filter.proofs.desk.Desk.obey_due.Goals as goal

pub loop-obeyed-init : goal.loop-obeyed-init
loop-obeyed-init g c = record { told = due_looked _ _ _ _ _ _ _ c.in_ok-look_anew.ensures; voice = refl; count = refl }

pub returns-then-is_quit-clause-made : goal.returns-then-is_quit-clause-made
returns-then-is_quit-clause-made g c =
    let next = moved _ _ c.in-Some.is
    (λ o. IfSome o (λ text. NextIs c.args.now (g.O.Orders.left c.loop-obeyed.self.orders) (string_bytes text) (g.O.Orders.left c.next.new.self)))
    c.in_ok-order.ensures.order in
    due_ended _ _ _ _ _ _ _ _ c.loop-obeyed.invariant.told
    (moved _ _ (sym c.as_str-text.ensures.value ∙ c.is_quit.ensures.0 c.if-is_quit.true)
    (λ text. NextIs c.args.now (g.O.Orders.left c.loop-obeyed.self.orders) text (g.O.Orders.left c.next.new.self)) next)
    c.loop-obeyed.invariant.voice c.in_ok-tell.ensures

pub loop-obeyed-preserved : goal.loop-obeyed-preserved
loop-obeyed-preserved g c =
    let next = moved _ _ c.in-Some.is
    (λ o. IfSome o (λ text. NextIs c.args.now (g.O.Orders.left c.loop-obeyed.self.orders) (string_bytes text) (g.O.Orders.left c.next.new.self)))
    c.in_ok-order.ensures.order in
    record {
      told = due_more _ _ _ _ _ _ _ _ _ _ _ c.as_str-text.result.now c.loop-obeyed.invariant.told
          (moved _ _ (sym c.as_str-text.ensures.value) (λ text. NextIs c.args.now (g.O.Orders.left c.loop-obeyed.self.orders) text (g.O.Orders.left c.next.new.self)) next)
          (λ is. not_both c.is_quit.result c.if-is_quit.false (c.is_quit.ensures.1 is)) c.in_ok-obey.ensures;
      voice = c.loop-obeyed.invariant.voice;
      count = c.loop-obeyed.invariant.count;
    }
