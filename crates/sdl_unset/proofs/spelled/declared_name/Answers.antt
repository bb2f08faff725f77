use Rattle.std.proofs.Common.{◌≡◌, ℕ, List, Option, None, Some, sym, ap, ◌∙◌}
use Rattle.std.specs.Option.{option_map, option_map_or}
use denote.Ref.{Bor}
use Rattle.sdl_ast.specs.declared.tree.SignalDeclaration.{SignalDeclaration}
use Rattle.sdl_ast.specs.Plain.{PlainSignal, PlainProcess}
use Rattle.sdl_ast.specs.Views.{signal_of, block_of, process_of}
use Rattle.sdl_tables.specs.Names.{same_name, signal_named, signals_of}
use Rattle.sdl_unset.specs.Fates.{timer_named}
use Rattle.sdl_unset.proofs.Searches.{find_holds}
use Rattle.sdl_unset.proofs.spelled.declared_name.Goals as goal
use Rattle.sdl_sound.proofs.Numbered.{same_back}

pub returns-in-Some-clause-same : goal.returns-in-Some-clause-same
returns-in-Some-clause-same c =
    let b = block_of c.args.block.now in
    let found : signal_named b c.args.name ≡ Some (signal_of c.in-Some.signal.now) =
    sym c.signal.ensures ∙ ap (option_map (λ (s : Bor SignalDeclaration). signal_of s.now)) c.in-Some.is in
    same_back c.args.name c.in-Some.signal.now.name.name
    (find_holds (λ (s : PlainSignal). same_name c.args.name s.name.name) (signals_of b) (signal_of c.in-Some.signal.now) found)

-- The declared name of a timer, or else the name as it is written.
abbrev timer_or_written : PlainProcess → List ℕ → List ℕ
timer_or_written p x = option_map_or (λ id. id.name) (timer_named p x) x

pub returns-in-Some-clause-declared : goal.returns-in-Some-clause-declared
returns-in-Some-clause-declared c =
    let b = block_of c.args.block.now in
    let p = process_of c.args.table.now in
    let x = c.args.name in
    let found : signal_named b x ≡ Some (signal_of c.in-Some.signal.now) =
    sym c.signal.ensures ∙ ap (option_map (λ (s : Bor SignalDeclaration). signal_of s.now)) c.in-Some.is in
    sym (ap (λ (o : Option PlainSignal). option_map_or (λ (s : PlainSignal). s.name.name) o (timer_or_written p x)) found)

pub returns-in-None-clause-declared : goal.returns-in-None-clause-declared
returns-in-None-clause-declared c =
    let b = block_of c.args.block.now in
    let p = process_of c.args.table.now in
    let x = c.args.name in
    let none : signal_named b x ≡ None =
    sym c.signal.ensures ∙ ap (option_map (λ (s : Bor SignalDeclaration). signal_of s.now)) c.in-None.is in
    c.timer_name.ensures.declared
    ∙ sym (ap (λ (o : Option PlainSignal). option_map_or (λ (s : PlainSignal). s.name.name) o (timer_or_written p x)) none)
