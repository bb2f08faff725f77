use Rattle.script_lines.specs.Commands.{plain_offer}
use Rattle.script_book.proofs.route_faults.route_fault.Goals as goal

pub returns-in-Some-get : goal.returns-in-Some-get
returns-in-Some-get c = c.values_fault.ensures c.args.book.now (plain_offer c.args.given.now)
