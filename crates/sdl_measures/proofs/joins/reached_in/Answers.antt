use Rattle.std.proofs.Common.{◌<◌, ◌∙◌, length, subst, sym}
use Rattle.std.specs.Prelude.{All}
use Rattle.sdl_ast.specs.Views.{text_of, process_of}
use Rattle.sdl_sound.specs.Statements.{joins_of}
use Rattle.sdl_measures.proofs.Connectors.{within_links}
use Rattle.sdl_measures.proofs.joins.reached_in.Goals as goal

pub reached_from-requires-clause-within : goal.reached_from-requires-clause-within
reached_from-requires-clause-within c =
    within_links (process_of c.args.process.now) c.args.links.now c.deref.result.now c.requires.links
    (subst (All (λ n. n < length (process_of c.args.process.now).connections)) (sym c.deref.ensures.value) c.in_ok-starts.ensures.within)

pub returns : goal.returns
returns c =
    c.in_ok-marks.ensures (process_of c.args.process.now) (joins_of (text_of c.args.transition.now)) c.requires.links c.requires.distinct
    (c.deref.ensures.value ∙ c.in_ok-starts.ensures.targets)
