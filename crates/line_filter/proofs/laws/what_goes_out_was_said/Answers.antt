use Rattle.line_filter.proofs.Saying.{all_said}
use Rattle.line_filter.proofs.laws.what_goes_out_was_said.Goals as goal

pub returns : goal.returns
returns g c count s t come out bytes goes_on none runs = all_said _ count s t goes_on come out bytes none runs
