use Rattle.script_lines.proofs.Parts.{instance_behind, first_instance}
use Rattle.script_lines.proofs.word.instance_part.Goals as goal

pub returns-in-Some : goal.returns-in-Some
returns-in-Some c =
    instance_behind c.args.word.now c.split_once.result _ c.count.result c.split_once.ensures.cases c.in-Some.is c.count.ensures.value

pub returns-in-None : goal.returns-in-None
returns-in-None c = first_instance c.args.word.now c.split_once.result c.split_once.ensures.cases c.in-None.is
