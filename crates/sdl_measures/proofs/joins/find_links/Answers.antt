use Rattle.sdl_ast.specs.Views.{process_of}
use Rattle.sdl_measures.proofs.Connectors.{distinct_connectors}
use Rattle.sdl_measures.proofs.joins.find_links.Goals as goal

pub returns-clause-distinct : goal.returns-clause-distinct
returns-clause-distinct c = distinct_connectors (process_of c.args.process.now) c.process.ensures.distinct
