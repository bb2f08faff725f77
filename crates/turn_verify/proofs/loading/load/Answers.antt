use Rattle.std.proofs.Common.{◌∙◌, sym}
use Rattle.std.proofs.lemmas.Result.{IfErr-weaker}
use Rattle.sdl_ast.specs.Views.{block_of}
use Rattle.sdl_compile.specs.Blocks.{MatchesBlock}
use Rattle.sdl_compile.specs.Meant.{IsSetOfBlock}
use Rattle.turn_verify.proofs.Loads.{loaded, exactly, in_every}
use Rattle.turn_verify.proofs.loading.load.Goals as goal

pub returns-clause-accepted : goal.returns-clause-accepted
returns-clause-accepted c =
    loaded c.set_of.result c.args.text.now _ _ c.in_ok-block.ensures.read c.set_of.ensures.sound c.set_of.ensures.matches c.set_of.ensures.runs

pub returns-clause-exact : goal.returns-clause-exact
returns-clause-exact c = λ ts b s.
    exactly c.set_of.result MatchesBlock c.args.text.now ts c.deref.result.now b (block_of c.in_ok-block.block) s
    (c.in_ok-tokens.ensures.exact ts s.read.is_written.lexed ∙ sym c.deref.ensures.value) c.in_ok-block.ensures.exact c.set_of.ensures.exact

pub returns-clause-every : goal.returns-clause-every
returns-clause-every c = λ ts b s.
    in_every c.set_of.result IsSetOfBlock c.args.text.now ts c.deref.result.now b (block_of c.in_ok-block.block) s
    (c.in_ok-tokens.ensures.exact ts s.is_written.lexed ∙ sym c.deref.ensures.value) c.in_ok-block.ensures.exact c.set_of.ensures.set

pub returns-clause-refused : goal.returns-clause-refused
returns-clause-refused c = IfErr-weaker c.set_of.result _ _ (λ e h. h _ c.in_ok-block.ensures.read) c.set_of.ensures.refused
