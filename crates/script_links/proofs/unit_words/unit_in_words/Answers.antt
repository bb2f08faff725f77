use Rattle.script_links.proofs.Spelled.{other_unit}
use Rattle.script_links.proofs.unit_words.unit_in_words.Goals as goal

pub returns-in_default : goal.returns-in_default
returns-in_default c = other_unit c.args.words.now c.in_default.len_below
