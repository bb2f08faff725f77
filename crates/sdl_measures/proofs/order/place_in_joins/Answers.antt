use Rattle.std.proofs.Common.{◌≡◌, ℕ, Option, Some, length, refl, subst}
use Rattle.std.specs.Prelude.{slice_get, Contains}
use Rattle.std.proofs.lemmas.Option.{slice_get_read}
use Rattle.sdl_ast.specs.Views.{process_of}
use Rattle.sdl_tables.specs.Scopes.{Marks}
use Rattle.sdl_sound.specs.Joins.{comes_back}
use Rattle.sdl_sound.proofs.Places.{place-among}
use Rattle.sdl_measures.proofs.order.place_in_joins.Goals as goal

pub returns-in-Some : goal.returns-in-Some
returns-in-Some c = λ connection own.
    let p = process_of c.args.process.now in
    let joins = c.args.joins.now in
    let j = c.join-item.result in
    let there : slice_get joins c.loop-join.join-index ≡ Some j = slice_get_read joins (length joins) c.loop-join.join-index j refl c.loop-join-test.true c.join-item.is in
    let here : Contains (comes_back p connection j) c.in-Some.at =
    subst (λ (o : Option ℕ). Marks o (comes_back p connection j)) c.in-Some.is (c.in_ok-at.ensures connection own) in
    place-among (comes_back p connection) joins c.loop-join.join-index j c.in-Some.at there here
