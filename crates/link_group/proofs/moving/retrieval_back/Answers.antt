use Rattle.std.proofs.Common.{rules, ◌∙◌}
use Rattle.link_group.proofs.Turning.{gives-back, room-back, whole-rest, all-back}
use Rattle.link_group.proofs.moving.retrieval_back.Goals as goal

pub loop-msu-preserved : goal.loop-msu-preserved
loop-msu-preserved c = (
  gives-back c.in-Some.msu c.loop-msu.messages.items c.pop_front.new.self.items c.loop-msu.terminal c.give.new.terminal c.in-Some.ensures.items c.give.ensures ∙ c.loop-msu.invariant.0,
  room-back c.in-Some.msu c.loop-msu.messages.items c.pop_front.new.self.items c.loop-msu.terminal c.give.new.terminal c.in-Some.ensures.items c.give.ensures c.loop-msu.invariant.1,
  whole-rest c.loop-msu.messages.items c.pop_front.new.self.items c.in-Some.msu c.in-Some.ensures.items c.loop-msu.invariant.2,
)

pub returns-clause-terminal : goal.returns-clause-terminal
returns-clause-terminal c = all-back c.loop-msu.messages.items c.loop-msu.terminal _ (search rules) c.loop-msu.invariant.0
