use Rattle.line_tending.proofs.Reading.{pressed_two}
use Rattle.line_tending.proofs.tended_set.TendedSet.press_by_two.Goals as goal

pub returns-clause-pressed : goal.returns-clause-pressed
returns-clause-pressed c =
    pressed_two c.press_by-2.result c.args.link c.args.first c.args.second c.args.self.now c.press_by.new.self c.press_by-2.new.self c.in_ok-press_by.ensures.pressed
    c.in_ok-press_by.ensures.adds c.press_by-2.ensures.pressed
