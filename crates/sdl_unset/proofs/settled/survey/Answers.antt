use Rattle.std.proofs.Common.{sym, subst}
use Rattle.sdl_ast.specs.Views.{process_of}
use Rattle.sdl_unset.specs.Fates.{AreFates}
use Rattle.sdl_unset.proofs.settled.survey.Goals as goal

pub survey_fates-requires-clause-fates : goal.survey_fates-requires-clause-fates
survey_fates-requires-clause-fates c = subst (AreFates (process_of c.args.table.now)) (sym c.deref-4.ensures.value) c.in_ok-fates.ensures

pub survey_fates-requires-clause-few : goal.survey_fates-requires-clause-few
survey_fates-requires-clause-few c = c.requires.few

pub survey_fates-requires-clause-known : goal.survey_fates-requires-clause-known
survey_fates-requires-clause-known c = c.requires.known
