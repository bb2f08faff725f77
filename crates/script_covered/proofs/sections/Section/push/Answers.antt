use Rattle.script_covered.proofs.Printing.{section_push}
use Rattle.script_covered.proofs.sections.Section.push.Goals as goal

pub returns : goal.returns
returns c = λ text ns h.
    section_push text ns c.args.line.now c.args.times c.args.self.now _ c.in_ok-extend_from_slice.ensures.items c.in_ok-self.ensures c.in_ok-self-2.ensures h
