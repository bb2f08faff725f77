use Rattle.group_changeover.proofs.Keeping.{empty-places, keeps-at_one_link}
use Rattle.group_changeover.proofs.Moving.{keeps-diverted, keeps-placed_anew}
use Rattle.group_changeover.proofs.laws.steps_keep_places.Goals as goal

pub returns : goal.returns
returns c = record {
  first = empty-places;
  at_one_link = keeps-at_one_link;
  diverted = keeps-diverted;
  placed_anew = keeps-placed_anew;
}
