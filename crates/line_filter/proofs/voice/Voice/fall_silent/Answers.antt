use Rattle.line_filter.proofs.Filling.{fills_of}
use Rattle.line_filter.proofs.voice.Voice.fall_silent.Goals as goal

pub returns-clause-fills : goal.returns-clause-fills
returns-clause-fills c =
    rw (← c.self.view_is)
    (fills_of _ c.new-self-inside.result c.filled.result _ _ c.rest-bits.ensures.few c.rest-bits.ensures.bits c.filled.ensures c.new-self-inside.ensures)
