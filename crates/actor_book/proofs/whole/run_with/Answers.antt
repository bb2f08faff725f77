use Rattle.actor_book.proofs.Turning.{ends_with}
use Rattle.actor_book.proofs.whole.run_with.Goals as goal

pub returns : goal.returns
returns c number =
    ends_with c.args.set.now number c.args.process c.args.place c.args.given.now c.run_in.result c.run_in.new.machine c.run_in.ensures
