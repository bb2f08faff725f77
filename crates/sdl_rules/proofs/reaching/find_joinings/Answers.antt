use Rattle.std.proofs.Common.{◌≡◌, ◌<◌, ◌+◌, ◌++◌, ◌∷◌, [], length, map, take, sym, ap, ◌∙◌, subst}
use Rattle.std.specs.Prelude.{All}
use Rattle.std.proofs.lemmas.List.{map_push}
use Rattle.std.proofs.lemmas.List.Elements.{All-push}
use denote.Ref.{Bor}
use Rattle.sdl_ast.specs.declared.tree.InputPart.{InputPart}
use Rattle.sdl_ast.specs.Views.{process_of, input_of}
use Rattle.sdl_rules.specs.Reached.{joining_of, input_joining}
use Rattle.sdl_rules.specs.declared.reaching.Joining.{Joining}
use Rattle.sdl_rules.proofs.reaching.find_joinings.Goals as goal
use Rattle.plain_laws.proofs.Lists.{mapped_more}

pub loop-input-preserved : goal.loop-input-preserved
loop-input-preserved c =
    let p = process_of c.args.process.now in
    let input = λ (i : Bor InputPart). input_of i.now in
    let joining = input_joining c.args.table.now.names p in
    let inputs = c.parts-input-items.result.now in
    let i = c.loop-input.input-index in
    let x = c.input-item.result in
    let old = c.loop-input.joinings.items in
    let j = c.in_ok-joining.joining in
    let done = map input (take i inputs) in
    let more : map input (take (i + 1) inputs) ≡ done ++ input x ∷ [] = mapped_more input inputs i x c.loop-input-test.true c.input-item.is in
    let items : c.push.new.self.items ≡ old ++ j ∷ [] = c.in_ok-push.ensures.items in
    record {
      joinings =
          ap (map joining_of) items
          ∙ (map_push joining_of old j
          ∙ (ap (λ l. l ++ joining_of j ∷ []) c.loop-input.invariant.joinings
          ∙ (ap (λ y. map joining done ++ y ∷ []) c.in_ok-joining.ensures.joining
          ∙ (sym (map_push joining done (input x)) ∙ sym (ap (map joining) more)))));
      within =
          subst (All (λ (k : Joining). All (λ n. n < length p.connections) k.targets.items)) (sym items)
          (All-push (λ (k : Joining). All (λ n. n < length p.connections) k.targets.items) old j c.loop-input.invariant.within c.in_ok-joining.ensures.within);
    }
