use Rattle.sdl_rules.proofs.RowsAdded.{asks_none}
use Rattle.sdl_rules.proofs.gathered.Gathered.new.Goals as goal

pub returns : goal.returns
returns c = λ b p. asks_none b p c.args.table.now.names _ c.len.result (c.in_ok-senders.ensures b p) (c.in_ok-asked.ensures.items_if_clones_equal (λ y e. e))
