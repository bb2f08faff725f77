use Rattle.link_processes.specs.Known.{process_word}
use Rattle.link_processes.proofs.Actors.{process_there, first_actor}
use Rattle.link_processes.proofs.known.actor.Goals as goal

pub first_of-requires : goal.first_of-requires
first_of-requires c = process_there c.args.set.now c.process.result.0 (process_word c.args.name) c.process.ensures

pub returns : goal.returns
returns c = first_actor c.args.set.now c.process.result.0 c.first_of.result c.args.name c.process.ensures c.first_of.ensures.number
