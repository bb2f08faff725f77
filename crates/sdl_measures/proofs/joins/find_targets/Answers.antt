use Rattle.std.proofs.Common.{◌≡◌, ◌<◌, ◌++◌, ◌∷◌, [], ℕ, Option, Some, None, length, take, sym, ap, ◌∙◌, subst}
use Rattle.std.specs.Prelude.{All, IfSome, option_to_list}
use Rattle.std.proofs.lemmas.List.{append-nil}
use Rattle.std.proofs.lemmas.List.Elements.{All-push}
use Rattle.sdl_ast.specs.declared.tree.Join.{Join}
use Rattle.sdl_tables.specs.Names.{number_of}
use Rattle.sdl_sound.specs.Orders.{joins_in}
use Rattle.sdl_sound.proofs.Spread.{flat_more}
use Rattle.sdl_measures.proofs.joins.find_targets.Goals as goal
use Rattle.sdl_measures.proofs.joins.find_targets.Goals.{in-Some+in_ok-push-in-Some, in-None}

pub loop-join-preserved : goal.loop-join-preserved
loop-join-preserved c =
    let ids = c.args.connectors.now in
    let js = c.args.joins.now in
    let i = c.loop-join.join-index in
    let j = c.join-item.result in
    let done = joins_in ids (take i js) in
    let more = flat_more (λ (x : Join). option_to_list (number_of ids x.connector.name)) js i j c.loop-join-test.true c.join-item.is in
    elim c.match-number.branch [
      | in-Some+in_ok-push-in-Some w ↦
          let n = w.in-Some.number in
          let told : number_of ids j.connector.name ≡ Some n = sym c.number.ensures.number ∙ w.in-Some.is in
          let within : n < length ids = subst (λ (o : Option ℕ). IfSome o (λ k. k < length ids)) w.in-Some.is c.number.ensures.within in
          rw w.targets-is (record {
            targets =
                w.in_ok-push-in-Some.ensures.items
                ∙ (ap (λ l. l ++ n ∷ []) c.loop-join.invariant.targets ∙ (ap (λ o. done ++ option_to_list o) (sym told) ∙ sym more));
            within =
                subst (All (λ k. k < length ids)) (sym w.in_ok-push-in-Some.ensures.items)
                (All-push (λ k. k < length ids) c.loop-join.targets.items n c.loop-join.invariant.within within);
          })
      | in-None w ↦
          let told : number_of ids j.connector.name ≡ None = sym c.number.ensures.number ∙ w.in-None.is in
          rw w.targets-is (record {
            targets = c.loop-join.invariant.targets ∙ (sym (append-nil done) ∙ (ap (λ o. done ++ option_to_list o) (sym told) ∙ sym more));
            within = c.loop-join.invariant.within;
          })
    ]
