use Rattle.std.proofs.Common.{false, subst}
use Rattle.std.specs.Prelude.{IsTrue}
use Rattle.turn_verify.proofs.loading.rule_refusal.Goals as goal

pub returns-then-wants_memory-clause-refused : goal.returns-then-wants_memory-clause-refused
returns-then-wants_memory-clause-refused c = λ b ts refuses written. tt

pub returns-clause-memory : goal.returns-clause-memory
returns-clause-memory c memory =
    let wanted : IsTrue false = subst IsTrue c.if-wants_memory.false (c.wants_memory.ensures.1 memory) in absurd (cc)

pub returns-clause-refused : goal.returns-clause-refused
returns-clause-refused c = λ b ts refuses written. (
  ts,
  b,
  written,
  record {
    refuses = refuses;
    named = λ memory. (let wanted : IsTrue false = subst IsTrue c.if-wants_memory.false (c.wants_memory.ensures.1 memory) in cc);
    there = c.rule_line-line.ensures;
  },
)
