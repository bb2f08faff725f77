use Rattle.pool_soak.proofs.soaking.soak_telling.Goals as goal

pub returns-in-Ok-clause-held : goal.returns-in-Ok-clause-held
returns-in-Ok-clause-held g c zero = record {
  bytes = c.in-Ok.ensures.bytes;
  are_known = c.in-Ok.ensures.are_known;
  holds = (c.soak_text.ensures.ends c.in-Ok.ensures.bytes c.in-Ok.ensures.keeps).held zero;
}

pub returns-in-Ok-clause-differs : goal.returns-in-Ok-clause-differs
returns-in-Ok-clause-differs g c one = record {
  bytes = c.in-Ok.ensures.bytes;
  are_known = c.in-Ok.ensures.are_known;
  holds = (c.soak_text.ensures.ends c.in-Ok.ensures.bytes c.in-Ok.ensures.keeps).differs one;
}

pub returns-in-Ok-clause-refused : goal.returns-in-Ok-clause-refused
returns-in-Ok-clause-refused g c two = record {
  bytes = c.in-Ok.ensures.bytes;
  are_known = c.in-Ok.ensures.are_known;
  holds = (c.soak_text.ensures.ends c.in-Ok.ensures.bytes c.in-Ok.ensures.keeps).refused two;
}
