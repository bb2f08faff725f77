use Rattle.std.proofs.Common.{refl, ◌∙◌}
use Rattle.line_play.proofs.SetDesks.{rounds_none, rounds_more, rounds_on, has_run, has_run_on}
use Rattle.mtp2_play.proofs.set.rounds.go_round.Goals as goal

pub loop-round-init : goal.loop-round-init
loop-round-init g c = record { made = rounds_none _ _ _ _; ahead = refl }

pub returns-then-not-goes_on : goal.returns-then-not-goes_on
returns-then-not-goes_on g c = has_run _ _ _ _ _ c.in_ok-goes_on.goes_on _ _ _ _ _ _ c.loop-round.invariant.ahead c.loop-round.invariant.made c.in_ok-goes_on.ensures.made

pub returns-then-are_over : goal.returns-then-are_over
returns-then-are_over g c =
    has_run_on _ _ _ _ _ _ _ _ (has_run _ _ _ _ _ c.in_ok-goes_on.goes_on _ _ _ _ _ _ c.loop-round.invariant.ahead c.loop-round.invariant.made c.in_ok-goes_on.ensures.made) c.in_ok-are_over.ensures

pub loop-round-preserved : goal.loop-round-preserved
loop-round-preserved g c = record {
  made = rounds_on _ _ _ c.in_ok-goes_on.goes_on _ _ _ _ _ c.if-not-goes_on.false
      (rounds_more _ _ _ _ _ _ _ _ _ _ _ _ c.loop-round.invariant.ahead c.loop-round.invariant.made c.in_ok-goes_on.ensures.made) c.in_ok-are_over.ensures;
  ahead = c.in_ok-goes_on.ensures.ahead ∙ c.loop-round.invariant.ahead;
}
