use Rattle.sdl_ast.specs.Views.{block_of, process_of}
use Rattle.sdl_rules.proofs.known.learn.Goals as goal

pub returns : goal.returns
returns c = λ os k.
    let told = c.in_ok-back.ensures os k in (
      told.0.0,
      c.in_ok-keep.ensures (block_of c.args.block.now) (process_of c.args.process.now) os k.1 told.1,
    )
