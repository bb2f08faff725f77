-- The limits of a link's memory.
use Rattle.std.specs.Prelude.{ℕ, ◌≤◌}
use Rattle.plain_laws.specs.Limits.{LEAST_ENVIRONMENT, LEAST_JOURNAL, LEAST_PORT}
use Rattle.plain_laws.specs.Limits.{MOST_ENVIRONMENT, MOST_JOURNAL, MOST_PORT}

-- how many signals a port may hold, how many may wait for the environment, and how many events a
-- journal may hold
pub record LimitNumbers : Type 0 where
  pub port : ℕ
  pub env : ℕ
  pub journal : ℕ

pub record AreLimits (port env journal : ℕ) : Type 0 where
  pub least_port : LEAST_PORT ≤ port
  pub most_port : port ≤ MOST_PORT
  pub least_env : LEAST_ENVIRONMENT ≤ env
  pub most_env : env ≤ MOST_ENVIRONMENT
  pub least_journal : LEAST_JOURNAL ≤ journal
  pub most_journal : journal ≤ MOST_JOURNAL
