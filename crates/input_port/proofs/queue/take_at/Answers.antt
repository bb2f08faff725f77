use Rattle.input_port.proofs.Rings.{taken_out}
use Rattle.input_port.proofs.queue.take_at.Goals as goal

pub returns-then-place-gt0-clause-rest : goal.returns-then-place-gt0-clause-rest
returns-then-place-gt0-clause-rest c =
    taken_out c.args.items.now.items c.args.place c.len.result c.args.items.now.capacity c.move_to_back.new.items c.pop_front-item.new.self c.move_to_back-then-place-gt0.new.items c.requires
    c.move_to_back.ensures c.pop_front-item.ensures.items c.len.ensures.len c.move_to_back-then-place-gt0.ensures
