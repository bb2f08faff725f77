-- The first report of a run of a set.
use Rattle.std.proofs.Common.{◌≡◌, ℕ, List, Result, OnOk, subst}
use Rattle.std.proofs.lemmas.Result.{on_ok_weaker}
use Rattle.line_filter.specs.Reporting.{Stand, TellsLines, kept}
use Rattle.line_filter.specs.declared.reports.Wait.TheVariants.{Other}
use Rattle.mtp2_play.specs.SetBegins.{begin_text, TellsBegin}

pub begins_so : {A E : Type 0} (r : Result A E) (said text date name sum : List ℕ) (a b : Stand) → said ≡ text → text ≡ begin_text date name sum
    → OnOk r (TellsLines a b (kept Other 0 said)) → OnOk r (TellsBegin name sum a b)
begins_so r said text date name sum a b same is line =
    on_ok_weaker r
    (λ (l : TellsLines a b (kept Other 0 said)). record {
      date = date;
      tells = subst (λ (t : List ℕ). TellsLines a b (kept Other 0 t)) is (subst (λ (t : List ℕ). TellsLines a b (kept Other 0 t)) same l);
    })
    line
