use Rattle.script_play.proofs.CoveredPlays.{some_covered, some_covered_in_part}
use Rattle.script_play.proofs.seeing.play_seen.Goals as goal

pub returns-in-Coverage-clause-held : goal.returns-in-Coverage-clause-held
returns-in-Coverage-clause-held g c zero =
    some_covered c.args.name.now _ c.args.wanted _ _ _ _ _ _ c.in-Coverage.is (c.play_covered.ensures.held zero)

pub returns-in-Coverage-clause-missed : goal.returns-in-Coverage-clause-missed
returns-in-Coverage-clause-missed g c one =
    some_covered_in_part c.args.name.now _ c.args.wanted _ _ _ _ _ _ c.in-Coverage.is (c.play_covered.ensures.missed one)
