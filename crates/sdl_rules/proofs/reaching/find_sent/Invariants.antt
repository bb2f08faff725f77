use Rattle.std.proofs.Common.{◌≡◌, ◌∷◌, map, take}
use Rattle.sdl_ast.specs.Views.{process_of}
use Rattle.sdl_sound.specs.Joins.{reaches}
use Rattle.sdl_scopes.specs.Reaches.{sent_of}
use Rattle.sdl_rules.specs.Reached.{sent_by}
use Rattle.sdl_scopes.specs.declared.sender.Sender.TheVariants.{Nobody}
use Rattle.sdl_rules.proofs.reaching.find_sent.Given as goal

abbrev pub invariant-loop-sender : goal.invariant-loop-sender
invariant-loop-sender l =
    let p = process_of l.process in
    map sent_of l.all.items
    ≡ record { sender = Nobody; reached = map (λ c. reaches p p.start.text c.name.name) p.connections } ∷ map (sent_by p l.table) (take l.sender-index l.sender-items)
