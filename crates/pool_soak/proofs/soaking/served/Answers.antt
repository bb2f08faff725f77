use Rattle.std.proofs.Common.{sum}
use Rattle.pool_soak.proofs.Books.{agree}
use Rattle.pool_soak.proofs.soaking.served.Goals as goal

pub returns-in-Ok-serve-clause-agree : goal.returns-in-Ok-serve-clause-agree
returns-in-Ok-serve-clause-agree g c =
    agree c.args.soak.now.links c.args.set.now c.args.books.items c.in-Ok-serve.closed.books.items c.in-Ok-serve.closed.client
    (sum c.in-Ok-serve.closed.workers.items) c.requires c.in-Ok-serve.ensures.totals
