use Rattle.std.proofs.Common.{◌≡◌, true, false, Some, sym, ap, ◌∙◌}
use Rattle.std.proofs.lemmas.Option.{slice_get-get_or}
use Rattle.turn_pool.proofs.closed.audited.Goals as goal

pub returns-then-not-stands-clause-ok : goal.returns-then-not-stands-clause-ok
returns-then-not-stands-clause-ok c = tt

pub returns-then-not-stands-clause-err : goal.returns-then-not-stands-clause-err
returns-then-not-stands-clause-err c = record {
  receipt = c.index-receipts-position.result;
  there = slice_get-get_or c.args.receipts.now c.loop-position.position c.index-receipts-position.result c.loop-position-test.true
      ∙ ap Some (sym c.index-receipts-position.is);
  fails = λ stands. let no : false ≡ true = sym c.if-not-stands.true ∙ c.stands.ensures.1 stands in absurd (cc);
}
