use Rattle.std.proofs.Common.{ℕ, List, ◌∙◌, ◌++◌, codes, sym, ap}
use Rattle.std.specs.List.{flat_map}
use Rattle.line_filter.specs.Orders.{told, listed, answered}
use Rattle.line_filter.proofs.Telling.{told_then}
use Rattle.line_filter.proofs.desk.tell_answer.Goals as goal

pub returns-in_ok-tell_done-in-Said : goal.returns-in_ok-tell_done-in-Said
returns-in_ok-tell_done-in-Said g c =
    told_then c.tell.result _ _ _ (told c.args.now (codes "ok " ++ c.args.order.now)) (told c.args.now c.as_str.result.now) _
    (ap (answered c.args.now c.args.order.now) c.in-Said.is
    ∙ ap (λ (text : List ℕ). told c.args.now (codes "ok " ++ c.args.order.now) ++ told c.args.now text) (sym c.as_str.ensures.value))
    c.in_ok-tell_done-in-Said.ensures c.tell.ensures

pub returns-in_ok-tell_done-in-Listed : goal.returns-in_ok-tell_done-in-Listed
returns-in_ok-tell_done-in-Listed g c =
    told_then c.tell_lines.result _ _ _ (told c.args.now (codes "ok " ++ c.args.order.now)) (flat_map (listed c.args.now c.args.order.now) c.deref.result.now) _
    (ap (answered c.args.now c.args.order.now) c.in-Listed.is
    ∙ ap (λ lines. told c.args.now (codes "ok " ++ c.args.order.now) ++ flat_map (listed c.args.now c.args.order.now) lines) (sym c.deref.ensures.value))
    c.in_ok-tell_done-in-Listed.ensures c.tell_lines.ensures
