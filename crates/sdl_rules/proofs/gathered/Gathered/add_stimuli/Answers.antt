use Rattle.std.proofs.Common.{◌≡◌, ◌∙◌, ◌&&◌, Option, Some, None, List, ℕ, map, take, ap, sym, take_all, ◌+◌}
use Rattle.std.specs.Prelude.{slice_get}
use Rattle.std.specs.Option.{option_map, option_map_or}
use Rattle.std.proofs.lemmas.Option.{slice_get-get_or, slice_get-map}
use Rattle.sdl_ast.specs.declared.tree.Stimulus.{Stimulus}
use Rattle.sdl_ast.specs.Views.{block_of, process_of, stimulus_of}
use Rattle.sdl_tables.specs.Names.{number_of}
use Rattle.sdl_sound.specs.Actions.{takes}
use Rattle.sdl_sound.specs.Receivers.{answers, answers_all}
use Rattle.sdl_rules.proofs.Gathering.{stimulus_more}
use Rattle.sdl_rules.proofs.RowsAdded.{asks_same, asks_nothing}
use Rattle.sdl_rules.proofs.gathered.Gathered.add_stimuli.Goals as goal

pub add_row-requires-clause-row : goal.add_row-requires-clause-row
add_row-requires-clause-row c =
    let xs = c.args.stimuli.now in
    let i = c.loop-place.place in
    let x = c.index-stimuli-place.result in
    let row_of = λ (y : Stimulus). number_of c.args.table.now.names y.name.name in
    let there : slice_get xs i ≡ Some x = slice_get-get_or xs i x c.loop-place-test.true ∙ ap Some (sym c.index-stimuli-place.is) in
    c.row_at-row.ensures
    ∙ ap (λ (o : Option (Option ℕ)). option_map_or (λ r. r) o None)
    (ap (λ (l : List (Option ℕ)). slice_get l i) c.requires.rows ∙ slice_get-map row_of xs i ∙ ap (option_map row_of) there)

pub loop-place-init : goal.loop-place-init
loop-place-init c = λ f g. asks_nothing (block_of c.args.block.now) (process_of c.args.process.now) c.args.table.now.names c.args.self.now f g

pub loop-place-preserved : goal.loop-place-preserved
loop-place-preserved c = λ f g.
    let b = block_of c.args.block.now in
    let p = process_of c.args.process.now in
    let i = c.loop-place.place in
    let xs = c.args.stimuli.now in
    let x = c.index-stimuli-place.result in
    asks_same b p c.args.table.now.names c.add_row.new.self
    (λ s. (f s && answers_all b p (map takes (map stimulus_of (take i xs))) s) && answers b p s x.name.name)
    (λ s. f s && answers_all b p (map takes (map stimulus_of (take (i + 1) xs))) s)
    (stimulus_more b p xs i x f c.loop-place-test.true c.index-stimuli-place.is)
    (c.in_ok-add_row.ensures (λ s. f s && answers_all b p (map takes (map stimulus_of (take i xs))) s) (c.loop-place.invariant f g))

pub returns : goal.returns
returns c = λ f g.
    let b = block_of c.args.block.now in
    let p = process_of c.args.process.now in
    let i = c.loop-place.place in
    let xs = c.args.stimuli.now in
    asks_same b p c.args.table.now.names c.loop-place.self (λ s. f s && answers_all b p (map takes (map stimulus_of (take i xs))) s)
    (λ s. f s && answers_all b p (map takes (map stimulus_of xs)) s)
    (λ s. ap (λ (l : List Stimulus). f s && answers_all b p (map takes (map stimulus_of l)) s) (take_all i xs c.loop-place-test.false))
    (c.loop-place.invariant f g)
