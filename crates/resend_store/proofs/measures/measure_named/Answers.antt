use Rattle.std.proofs.Common.{sym, ◌∙◌}
use Rattle.resend_store.proofs.Naming.{named_at}
use Rattle.resend_store.proofs.measures.measure_named.Goals as goal

pub returns-in-Some : goal.returns-in-Some
returns-in-Some c =
    named_at _ c.args.word.now c.in-Some.place c.measure_at.result c.all_measures-all.ensures (sym c.place_named.ensures ∙ c.in-Some.is) c.measure_at.ensures
