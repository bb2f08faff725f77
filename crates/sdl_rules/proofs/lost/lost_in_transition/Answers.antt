use Rattle.sdl_ast.specs.Views.{block_of, process_of}
use Rattle.sdl_rules.proofs.lost.lost_in_transition.Goals as goal

pub returns-clause-place : goal.returns-clause-place
returns-clause-place c = λ os senders.
    let b = block_of c.args.block.now in
    let p = process_of c.args.process.now in
    c.in_transition.ensures os (c.in_ok-learn_transition.ensures os (c.requires, c.new-known.ensures b p os senders)).1

pub returns-clause-backs : goal.returns-clause-backs
returns-clause-backs c = λ os senders.
    let b = block_of c.args.block.now in
    let p = process_of c.args.process.now in
    (c.in_ok-learn_transition.ensures os (c.requires, c.new-known.ensures b p os senders)).0
