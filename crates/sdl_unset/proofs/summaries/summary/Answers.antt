use Rattle.std.proofs.Common.{◌≡◌, ◌∙◌, ℕ, sym, ap, length, List, subst}
use Rattle.sdl_ast.specs.Views.{process_of}
use Rattle.sdl_tables.specs.Names.{states_of}
use Rattle.sdl_sound.specs.Paths.{Transition}
use Rattle.sdl_sound.specs.Chances.{Chances, leaving, event_chances, behind, joined_chances}
use Rattle.sdl_unset.specs.Flows.{text_doings, ArePassages}
use Rattle.sdl_unset.proofs.Walkers.{walked_from}
use Rattle.sdl_unset.proofs.Summing.{summary_by}
use Rattle.sdl_unset.proofs.summaries.summary.Goals as goal

pub returns : goal.returns
returns c = λ events text d s.
    let p = process_of c.args.table.now in
    let t : Transition = record { first = events; text = text } in
    let told : List ℕ → ℕ → List ℕ → Chances = λ x q y. joined_chances p x q y in
    let count : length (states_of p) ≡ c.len.result = sym (c.len.ensures ∙ ap length c.states.ensures) in
    let start = walked_from p (λ x q. leaving) (λ x q. event_chances events x) c.in_ok-walker.walker c.pass.new.self (c.in_ok-walker.ensures p count) (c.pass.ensures p events d) in
    let whole = walked_from p (λ x q. behind leaving (event_chances events x)) (text_doings p told text) c.pass.new.self c.join.new.self start (c.join.ensures p (text_doings p told text) s) in
    summary_by p t c.join.new.self c.in_ok-passages.passages c.requires.few whole
    (subst (λ (masks : List ℕ). ArePassages masks c.in_ok-passages.passages.items) c.deref.ensures.value c.in_ok-passages.ensures.passages) c.in_ok-passages.ensures.sorted
