use Rattle.script_lines.proofs.Parts.{called_word}
use Rattle.script_lines.proofs.word.actor_called.Goals as goal

pub returns : goal.returns
returns c =
    called_word c.args.set.now c.args.word.now c.process_part.result.now _ c.instance_part.result c.called_by.result c.process_part.ensures
    c.process_named.ensures c.instance_part.ensures c.called_by.ensures
