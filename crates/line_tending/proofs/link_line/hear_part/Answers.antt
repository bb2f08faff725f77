use Rattle.line_tending.proofs.Speaking.{all_behind}
use Rattle.line_tending.proofs.link_line.hear_part.Goals as goal

pub returns-clause-heard : goal.returns-clause-heard
returns-clause-heard c = record {
  taken = c.in-Ok.taken;
  middle = c.line_in.new.self;
  listens = c.in-Ok.ensures.ok;
  adds = c.in-Ok.ensures.adds;
  heeds = c.in_ok-heed_link.ensures.adds;
  left_is = all_behind c.args.octets.now c.in-Ok.taken;
}
