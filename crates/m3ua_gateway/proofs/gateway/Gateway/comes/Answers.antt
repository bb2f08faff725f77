use Rattle.std.proofs.Common.{sym, ap, ◌∙◌, arith}
use Rattle.m3ua_gateway.specs.Life.{Account, account_after, comes}
use Rattle.m3ua_gateway.proofs.QueueLaws.{came_active, came_idle}
use Rattle.m3ua_gateway.proofs.gateway.Gateway.comes.Goals as goal

pub returns-then-is_active : goal.returns-then-is_active
returns-then-is_active c =
    let s = c.self.inside in
    came_active s.state s.kept.items s.waiting.items c.push_reserved.new.self.items s.lost s.refused c.args.msu (sym c.is_active.ensures ∙ c.if-is_active.true) c.push_reserved.ensures.items (omega arith) (omega arith)
    ∙ ap (λ (a : Account). account_after a (comes c.args.msu)) c.self.view_is

pub returns-else-is_active : goal.returns-else-is_active
returns-else-is_active c =
    let s = c.self.inside in
    came_idle s.state s.kept.items s.waiting.items s.lost s.refused c.counted-self-inside.result c.args.msu (sym c.is_active.ensures ∙ c.if-is_active.false) c.counted-self-inside.ensures (omega arith)
    ∙ ap (λ (a : Account). account_after a (comes c.args.msu)) c.self.view_is
