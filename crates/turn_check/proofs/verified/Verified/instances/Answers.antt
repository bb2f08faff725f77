use Rattle.std.proofs.Common.{ℕ, ◌≤◌, subst, sym}
use Rattle.turn_check.proofs.NameLists.{few_instances}
use Rattle.turn_check.proofs.verified.Verified.instances.Goals as goal

pub returns-clause-most : goal.returns-clause-most
returns-clause-most c =
    subst (λ (n : ℕ). n ≤ 8) (sym c.drafted_instances.ensures) (few_instances c.args.self.now c.args.process.0 c.draft-valid.ensures.valid)
