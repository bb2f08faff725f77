use Rattle.std.proofs.Common.{[], arith}
use Rattle.turn_code.proofs.SafeRuns.{safe_at_start}
use Rattle.turn_code.proofs.Ran.{ran}
use Rattle.turn_code.proofs.Longest.{budget_small}
use Rattle.turn_code.specs.Run.{begun, run}
use Rattle.turn_code.proofs.laws.run_law.Goals as goal

pub returns : goal.returns
unfolding run
returns c = λ d t x valid fits.
    let r = ran t x 512 t.piece.certificate.budget 0 [] (begun x) (budget_small d t valid) (safe_at_start d t valid x fits) in
    record { end = r.end; progress = r.progress; ran = r.is; within = omega (arith, r.within); well = r.well }
