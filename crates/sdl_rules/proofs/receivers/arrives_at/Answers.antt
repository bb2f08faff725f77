use Rattle.std.proofs.Common.{◌∙◌, sym, ap, Some}
use Rattle.sdl_ast.specs.declared.tree.Destination.{Destination}
use Rattle.sdl_ast.specs.Views.{block_of, process_of}
use Rattle.sdl_sound.specs.Receivers.{arrives}
use Rattle.sdl_rules.proofs.receivers.arrives_at.Goals as goal

pub returns-in-Sender : goal.returns-in-Sender
returns-in-Sender c = λ os h.
    c.all_get.ensures os h
    ∙ ap (λ (to : Destination). arrives (block_of c.args.block.now) (process_of c.args.process.now) os (Some to) c.args.signal) (sym c.in-Sender.is)
