use Rattle.std.proofs.Common.{ap, ◌∙◌, arith}
use Rattle.sdl_ast.specs.Views.{text_of, process_of}
use Rattle.sdl_tables.specs.Names.{variables_of}
use Rattle.sdl_sound.specs.Longest.{size}
use Rattle.sdl_emit.proofs.Trimming.{size_same}
use Rattle.sdl_emit.proofs.bodies.text_size.Goals as goal

pub returns : goal.returns
returns c =
    let vs = variables_of (process_of c.args.process.now) in
    let same = ap (size vs) c.requires.body ∙ size_same vs (text_of c.args.body.now.whole.now) in
    omega (arith, same, c.code_size.ensures, c.requires.short)
