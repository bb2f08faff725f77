use Rattle.std.proofs.Common.{ap, ◌∙◌, le_trans}
use Rattle.actor_machine.specs.Step.{Says}
use Rattle.actor_machine.specs.declared.reply.Report.{Report}
use Rattle.actor_machine.specs.declared.reply.Reply.TheVariants as reply
use Rattle.actor_book.proofs.Taking.{fits, new_book, new_answer, new_inside, new_next}
use Rattle.actor_book.proofs.Ending.{names_known, still_out, out_in, finishes_in, takes_in, timers_in, few_effects, link_ends, link_reports}
use Rattle.actor_book.proofs.Putting.{seen_so}
use Rattle.actor_book.proofs.Turning.{took}
use Rattle.actor_book.proofs.book.Book.end_by.Goals as goal

pub number_in-number-requires : goal.number_in-number-requires
number_in-number-requires c = out_in _ _ _ c.args.actor _ c.self.view_is _ c.self.invariant c.requires.is

pub name_in-name-requires : goal.name_in-name-requires
name_in-name-requires c = out_in _ _ _ c.args.actor _ c.self.view_is _ c.self.invariant c.requires.is

pub finish-report-requires-clause-names : goal.finish-report-requires-clause-names
finish-report-requires-clause-names c = names_known _ _ _ c.fits_law.ensures c.self.invariant

pub finish-report-requires-clause-timers : goal.finish-report-requires-clause-timers
finish-report-requires-clause-timers c =
    let k = seen_so _ _ c.args.ended.now.machine _ _ c.as_slice.ensures.value c.as_slice-2.ensures.value c.requires in
    timers_in _ _ _ c.args.actor _ c.self.view_is _ c.self.invariant k.is c.effects_law.ensures c.fits_law.ensures _ _ _ _ k.ran

pub finish-report-requires-clause-few : goal.finish-report-requires-clause-few
finish-report-requires-clause-few c =
    let k = seen_so _ _ c.args.ended.now.machine _ _ c.as_slice.ensures.value c.as_slice-2.ensures.value c.requires in
    le_trans k.few (few_effects _ c.args.actor _ c.self.invariant.kept (still_out _ _ _ _ c.self.view_is k.is))

pub finish-report-requires-clause-finishes : goal.finish-report-requires-clause-finishes
finish-report-requires-clause-finishes c = finishes_in _ _ _ c.args.actor _ c.self.view_is _ c.self.invariant c.requires.is

pub note-requires : goal.note-requires
note-requires c =
    fits c.keeps_law.ensures _ _ c.self.view_is _ _ c.self.invariant _
    (takes_in _ _ _ c.args.actor _ c.self.view_is _ c.self.invariant c.requires.is c.out_law.ensures)

pub invariant_of-self : goal.invariant_of-self
invariant_of-self c =
    let k = seen_so _ _ c.args.ended.now.machine _ _ c.as_slice.ensures.value c.as_slice-2.ensures.value c.requires in
    new_inside c.keeps_law.ensures _ _ c.self.view_is _ _ c.self.invariant _ (takes_in _ _ _ c.args.actor _ c.self.view_is _ c.self.invariant k.is c.out_law.ensures)
    c.state_law.ensures _ _ _ c.note.ensures.items
    (c.finish-report.ensures.link ∙ link_ends _ _ _ c.args.actor _ c.self.view_is _ c.self.invariant k.is _ _ _ c.number_in-number.ensures.value c.name_in-name.ensures k.ran)
    c.note.ensures.capacity

pub returns-clause-book : goal.returns-clause-book
returns-clause-book c =
    new_book c.keeps_law.ensures _ _ c.self.view_is _ _ c.self.invariant _
    (takes_in _ _ _ c.args.actor _ c.self.view_is _ c.self.invariant c.requires.is c.out_law.ensures) _ c.note.ensures.items

pub returns-clause-answer : goal.returns-clause-answer
returns-clause-answer c =
    let k = seen_so _ _ c.args.ended.now.machine _ _ c.as_slice.ensures.value c.as_slice-2.ensures.value c.requires in
    ap (λ (r : Report). Says (reply.Finished r)) c.finish-report.ensures.report
    ∙ link_reports _ _ _ c.args.actor _ c.self.view_is _ c.self.invariant k.is _ _ _ c.number_in-number.ensures.value c.name_in-name.ensures k.ran
    ∙ new_answer c.keeps_law.ensures _ _ c.self.view_is _ _ c.self.invariant _
    (takes_in _ _ _ c.args.actor _ c.self.view_is _ c.self.invariant k.is c.out_law.ensures)

pub returns-clause-within : goal.returns-clause-within
returns-clause-within c =
    let k = seen_so _ _ c.args.ended.now.machine _ _ c.as_slice.ensures.value c.as_slice-2.ensures.value c.requires in
    took _ _ _ _ _ _ (ap (λ (r : Report). r.count) c.finish-report.ensures.report) k

pub returns-clause-next : goal.returns-clause-next
returns-clause-next c =
    new_next c.keeps_law.ensures _ _ c.self.view_is _ _ c.self.invariant _
    (takes_in _ _ _ c.args.actor _ c.self.view_is _ c.self.invariant c.requires.is c.out_law.ensures) _ c.note.ensures.items
