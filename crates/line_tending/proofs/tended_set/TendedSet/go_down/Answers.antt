use Rattle.std.proofs.Common.{rules, w32, SFits, to_z-of_z, [], ◌∷◌, OnOk, subst}
use Rattle.std.proofs.lemmas.Result.{on_ok_weaker}
use Rattle.line_tending.specs.Rounds.{Acts, Adds}
use Rattle.line_tending.specs.declared.told.Told.TheVariants.{Down}
use Rattle.line_tending.proofs.Doing.{acts_adds}
use Rattle.line_tending.proofs.tended_set.TendedSet.go_down.Goals as goal

pub returns : goal.returns
returns c =
    let fits : SFits w32 c.args.reason = search rules in
    subst (λ z. OnOk c.fall.result (Acts [] (Down c.args.link z ∷ []) c.args.self.now c.fall.new.self)) (to_z-of_z fits)
    (on_ok_weaker c.fall.result
    (λ (adds : Adds c.tell_report.new.self c.fall.new.self). acts_adds c.args.self.now c.tell_report.new.self c.fall.new.self _ c.in_ok-tell_report.ensures adds)
    c.fall.ensures)
