use Rattle.std.proofs.Common.{arith, ◌≡◌, ◌+◌, max}
use Rattle.sdl_sound.specs.Longest.{Piece, text_size, text_depth, places_cost, places_depth, piece_size, piece_depth, piece_effects}
use Rattle.sdl_measures.specs.Measures.{capped}
use Rattle.sdl_measures.proofs.Passing.{over}
use Rattle.sdl_measures.proofs.limits.pass_places.Goals as goal

pub returns : goal.returns
returns c = λ p t x.
    let q : Piece = record { places = c.args.places.now; text = t } in
    let whole : c.saturating_add.result ≡ capped (places_cost c.args.places.now + text_size p t) =
    omega (arith, c.saturating_add.ensures, c.places_cost.ensures, x.size) in
    let deep : c.max.result ≡ capped (max (places_depth c.args.places.now) (text_depth p t)) =
    omega (arith, c.max.ensures, c.places_depth.ensures, x.depth) in
    record {
      size = over 512 c.saturating_add.result (piece_size p q) (omega arith) whole;
      depth = over 16 c.max.result (piece_depth p q) (omega arith) deep;
      effects = over 32 c.args.extent.effects (piece_effects p q) (omega arith) x.effects;
    }
