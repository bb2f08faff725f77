use Rattle.std.proofs.Common.{◌&&◌, Bool, List, ℕ, take}
use Rattle.std.specs.Prelude.{All}
use Rattle.std.specs.List.{list_all}
use Rattle.sdl_ast.specs.Plain.{PlainBlock, PlainProcess}
use Rattle.sdl_scopes.specs.Parties.{IsSender, gets_back}
use Rattle.sdl_rules.specs.Sources.{Gathers}
use Rattle.sdl_rules.proofs.sources.Senders.add_all.Given as goal

abbrev pub invariant-loop-sender : goal.invariant-loop-sender
invariant-loop-sender l =
    (b : PlainBlock) (p : PlainProcess) (f : List ℕ → Bool) → All (IsSender b) l.senders → Gathers b p l.initial.self f
    → Gathers b p l.self (λ s. f s && list_all (gets_back b p s) (take l.sender-index l.senders))
