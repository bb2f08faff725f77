use Rattle.line_play.proofs.set.given.Whom.lacks.Goals as goal

pub returns-in-Named : goal.returns-in-Named
returns-in-Named c = rw (c.in-Named.is, ← c.as_slice.ensures.value) c.any_past.ensures
