use Rattle.std.specs.Prelude.{◌∷◌}
use Rattle.script_lines.specs.Lines.{texts}
use Rattle.script_lines.proofs.line_faults.verb_fault.Goals as goal

pub returns-in-Offer-len2-up : goal.returns-in-Offer-len2-up
returns-in-Offer-len2-up c = λ p. c.value_fault.ensures p (c.args.word.now ∷ texts c.args.more.now)

pub returns-in-Some-number_fault : goal.returns-in-Some-number_fault
returns-in-Some-number_fault c =
    λ p. c.in-Some-number_fault.ensures p (c.args.word.now ∷ texts c.args.more.now)

pub returns-in-None : goal.returns-in-None
returns-in-None c = λ p. c.value_fault-in-None.ensures p (c.args.word.now ∷ texts c.args.more.now)

pub returns-in-Tick-len1 : goal.returns-in-Tick-len1
returns-in-Tick-len1 c =
    λ p. c.number_fault-in-Tick-len1.ensures p (c.args.word.now ∷ texts c.args.more.now)
