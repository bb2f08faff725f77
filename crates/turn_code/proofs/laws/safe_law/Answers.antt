use Rattle.turn_code.proofs.SafeRuns.{limits, sends_few, safe_at_start}
use Rattle.turn_code.proofs.Longest.{budget_small}
use Rattle.turn_code.proofs.laws.safe_law.Goals as goal

pub returns : goal.returns
returns c = record {
  limits = λ d t valid. limits d t valid;
  budget = λ d t valid. budget_small d t valid;
  sends = λ d t set valid. sends_few d t valid set;
  safe = λ d t x valid fits. safe_at_start d t valid x fits;
}
