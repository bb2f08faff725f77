use Rattle.std.proofs.lemmas.Result.{IfOk-weaker}
use Rattle.script_ends.proofs.TermAnswers.{put_taken, put_full}
use Rattle.script_ends.proofs.answers.put.Goals as goal

pub returns-in-Ok : goal.returns-in-Ok
returns-in-Ok c =
    IfOk-weaker c.from_slice.result _ _
    (λ v is. put_taken _ _ _ c.in-Some.msu v.items c.in-Ok.field-0 c.in-Some.ensures.some is c.in-Ok.ensures.full c.in-Ok.ensures.ok) c.from_slice.ensures.items

pub returns-in-Err-Full : goal.returns-in-Err-Full
returns-in-Err-Full c =
    IfOk-weaker c.from_slice-in-Err-Full.result _ _
    (λ v is. put_full _ _ _ c.in-Some.msu v.items _ c.in-Some.ensures.some is c.in-Err-Full.ensures.full c.in-Err-Full.ensures.err)
    c.from_slice-in-Err-Full.ensures.items
