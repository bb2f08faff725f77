use Rattle.script_covered.proofs.ways.+go.Given as goal

abbrev pub decreases-go : goal.decreases-go
decreases-go l = l.joins
