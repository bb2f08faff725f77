use Rattle.mtp2_play.specs.Served.{is_told}
use Rattle.mtp2_play.proofs.Serving.{served_by, told_status}
use Rattle.mtp2_play.proofs.serve.Goals as goal

pub returns-in-Ok : goal.returns-in-Ok
returns-in-Ok g c = served_by _ _ _ c.in-Ok.ensures.taken c.in-Ok.ensures.asked c.obey.ensures

pub returns-in-Err : goal.returns-in-Err
returns-in-Err g c = (
  is_told _ c.in-Err.ensures.refused (record {
    help = c.answer.ensures.help;
    usage = c.answer.ensures.usage;
    ends = c.answer.ensures.status;
  }),
  told_status _ c.answer.ensures.status,
)
