use Rattle.std.proofs.Common.{[]}
use Rattle.script_ends.specs.GroupRuns.{begun, playing_of, last_of}
use Rattle.script_ends.proofs.GroupRuns.{run_begins}
use Rattle.script_ends.proofs.playing.play_set.Goals as goal

pub returns-clause-held : goal.returns-clause-held
returns-clause-held g c zero = record {
  now = playing_of c.run_all.new.player;
  last = last_of c.run_all.new.player;
  run =
      c.run_all.ensures.held zero (begun c.args.group) [] (g.W.Write.contents c.args.writer.now)
      (run_begins (begun c.args.group) (g.W.Write.contents c.args.writer.now));
}

pub returns-clause-missed : goal.returns-clause-missed
returns-clause-missed g c one =
    c.run_all.ensures.missed one (begun c.args.group) [] (g.W.Write.contents c.args.writer.now)
    (run_begins (begun c.args.group) (g.W.Write.contents c.args.writer.now))
