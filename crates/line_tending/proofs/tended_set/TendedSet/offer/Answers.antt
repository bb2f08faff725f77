use Rattle.line_tending.proofs.tended_set.TendedSet.offer.Goals as goal

pub returns-clause-given : goal.returns-clause-given
returns-clause-given c = record { took = c.in_ok-_took._took; given = c.in_ok-_took.ensures.given }
