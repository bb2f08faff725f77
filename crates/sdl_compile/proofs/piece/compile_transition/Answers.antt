use Rattle.sdl_emit.specs.Scopes.{scope_in, piece_in}
use Rattle.sdl_compile.proofs.Pieces.{means}
use Rattle.sdl_meaning.proofs.Counted.{size_is}
use Rattle.sdl_compile.proofs.piece.compile_transition.Goals as goal

pub returns-clause-means : goal.returns-clause-means
returns-clause-means c =
    let s = c.args.setting.now in
    let sc = scope_in s.names.now in
    let q = piece_in c.args.places.now c.args.body.now.whole.now in
    let made = c.in_ok-piece.ensures in
    let d = c.in_ok-piece.piece in
    means sc q s.parameters.now s.entry c.requires.ready d made (size_is sc q c.requires.ready.named made.code.numbers made.code.placed d.code made.code.code)
