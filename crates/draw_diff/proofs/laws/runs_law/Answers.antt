use Rattle.draw_diff.proofs.AlikeRuns.{run_alike}
use Rattle.draw_diff.proofs.laws.runs_law.Goals as goal

pub returns : goal.returns
returns c = λ s olds news x y are same. run_alike s olds news x y are same
