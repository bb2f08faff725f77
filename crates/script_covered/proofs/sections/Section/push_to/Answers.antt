use Rattle.std.proofs.Common.{ap, ◌∙◌, ◌++◌}
use Rattle.std.proofs.lemmas.Result.{on_ok_weaker}
use Rattle.script_covered.proofs.Printing.{section_to}
use Rattle.script_covered.proofs.sections.Section.push_to.Goals as goal

pub returns : goal.returns
returns c =
    on_ok_weaker c.push_counted-2.result
    (λ last lines ns h. section_to c.args.found.now c.args.hit.now lines ns c.args.text.now.items _ _ _ c.args.self.now
    (c.in_ok-extend_from_slice.ensures.items ∙ ap (λ l. c.args.text.now.items ++ l) c.deref.ensures.value) c.in_ok-push_counted.ensures last h) c.push_counted-2.ensures
