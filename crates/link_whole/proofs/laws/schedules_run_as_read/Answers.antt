use Rattle.link_whole.proofs.Whole.{read_law}
use Rattle.link_whole.proofs.laws.schedules_run_as_read.Goals as goal

pub returns : goal.returns
returns c =
    read_law c.schedules_are_by_text.ensures c.keeps_law.ensures c.set_law.ensures c.state_law.ensures c.fits_law.ensures c.finish_law.ensures c.full_law.ensures c.out_law.ensures
    c.safe_law.ensures c.run_law.ensures
