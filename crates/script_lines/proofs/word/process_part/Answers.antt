use Rattle.script_lines.proofs.Parts.{process_before, process_alone}
use Rattle.script_lines.proofs.word.process_part.Goals as goal

pub returns-in-Some : goal.returns-in-Some
returns-in-Some c = process_before c.args.word.now c.split_once.result _ c.split_once.ensures.cases c.in-Some.is

pub returns-in-None : goal.returns-in-None
returns-in-None c = process_alone c.args.word.now c.split_once.result c.split_once.ensures.cases c.in-None.is
