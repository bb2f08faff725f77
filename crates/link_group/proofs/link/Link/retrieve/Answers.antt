use Rattle.std.proofs.Common.{◌∙◌, sym}
use Rattle.link_group.proofs.Refusing.{refusal_told}
use Rattle.link_group.proofs.link.Link.retrieve.Goals as goal

pub returns-in-Some-clause-fault : goal.returns-in-Some-clause-fault
returns-in-Some-clause-fault c = refusal_told c.args.self.now c.in-Some.fault (sym c.in-Some.is ∙ c.retrieve_fault.ensures)
