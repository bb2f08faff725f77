use Rattle.std.proofs.Common.{ℕ, sym, ap, cond, ◌∙◌}
use Rattle.line_play.proofs.set.queue.Queue.one_at.Goals as goal

pub returns-then-is_of : goal.returns-then-is_of
returns-then-is_of c = sym (ap (λ b. cond {A = ℕ} b 1 0) (sym c.is_of.ensures ∙ c.if-is_of.true))

pub returns : goal.returns
returns c = sym (ap (λ b. cond {A = ℕ} b 1 0) (sym c.is_of.ensures ∙ c.if-is_of.false))
