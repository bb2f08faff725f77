use Rattle.std.proofs.lemmas.Bool.{false≢true}
use Rattle.script_seen.proofs.traced_books.limits_of.Goals as goal

pub unreachable-requires : goal.unreachable-requires
unreachable-requires c =
    let within = c.requires in
    false≢true (c.in-None.ensures.fits.1 (record {
      least_port = within.least_ports;
      most_port = within.most_ports;
      least_env = within.least_env;
      most_env = within.most_env;
      least_journal = within.least_journal;
      most_journal = within.most_journal;
    }))
