use Rattle.std.proofs.Common.{◌&&◌, Bool, List, ℕ, map, take}
use Rattle.sdl_ast.specs.Views.{block_of, process_of, stimulus_of}
use Rattle.sdl_sound.specs.Actions.{takes}
use Rattle.sdl_sound.specs.Receivers.{answers_all}
use Rattle.sdl_rules.specs.Sources.{Asks}
use Rattle.sdl_rules.proofs.gathered.Gathered.add_stimuli.Given as goal

abbrev pub invariant-loop-place : goal.invariant-loop-place
invariant-loop-place l =
    (f : List ℕ → Bool) → Asks (block_of l.block) (process_of l.process) l.table.names l.initial.self f
    → Asks (block_of l.block) (process_of l.process) l.table.names l.self
    (λ s. f s && answers_all (block_of l.block) (process_of l.process) (map takes (map stimulus_of (take l.place l.stimuli))) s)
