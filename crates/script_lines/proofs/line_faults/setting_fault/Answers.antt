use Rattle.std.specs.Prelude.{◌∷◌}
use Rattle.script_lines.specs.Lines.{texts}
use Rattle.script_lines.proofs.line_faults.setting_fault.Goals as goal

pub returns-in-len1 : goal.returns-in-len1
returns-in-len1 c = λ p. c.number_fault.ensures p (c.args.word.now ∷ texts c.args.more.now)
