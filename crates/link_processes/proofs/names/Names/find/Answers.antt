use Rattle.std.proofs.Common.{sym}
use Rattle.std.proofs.lemmas.List.Elements.{All-same}
use Rattle.link_processes.specs.Wanted.{Has, wanted}
use Rattle.link_processes.proofs.Having.{has_processes, has_signals}
use Rattle.link_processes.proofs.names.Names.find.Goals as goal

pub parties-requires : goal.parties-requires
parties-requires c =
    has_processes c.args.set.now (All-same (Has c.args.set.now) wanted c.all_wanted.result (sym c.all_wanted.ensures) c.in-None.ensures.none)

pub orders-requires : goal.orders-requires
orders-requires c =
    has_signals c.args.set.now (All-same (Has c.args.set.now) wanted c.all_wanted.result (sym c.all_wanted.ensures) c.in-None.ensures.none)

pub notices-requires : goal.notices-requires
notices-requires c =
    has_signals c.args.set.now (All-same (Has c.args.set.now) wanted c.all_wanted.result (sym c.all_wanted.ensures) c.in-None.ensures.none)

pub outputs-requires : goal.outputs-requires
outputs-requires c =
    has_signals c.args.set.now (All-same (Has c.args.set.now) wanted c.all_wanted.result (sym c.all_wanted.ensures) c.in-None.ensures.none)

pub returns-in-None-clause-all : goal.returns-in-None-clause-all
returns-in-None-clause-all c = All-same (Has c.args.set.now) wanted c.all_wanted.result (sym c.all_wanted.ensures) c.in-None.ensures.none
