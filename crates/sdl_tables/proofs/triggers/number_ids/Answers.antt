use Rattle.std.proofs.Common.{◌≡◌, ◌++◌, ◌∷◌, [], map, take, sym, ap, ◌∙◌, subst}
use Rattle.std.specs.List.{AllByRecursion}
use Rattle.std.proofs.lemmas.List.{take_more, map-append}
use Rattle.sdl_tables.specs.Triggers.{IsNumbered}
use Rattle.sdl_tables.specs.declared.triggers.Trigger.{Trigger}
use Rattle.sdl_tables.proofs.Numbers.{still_numbered, keeps_all}
use Rattle.sdl_tables.proofs.triggers.number_ids.Goals as goal
use Rattle.plain_laws.proofs.Lists.{each_push}

pub loop-id-preserved : goal.loop-id-preserved
loop-id-preserved c =
    let ids = c.args.ids.now in
    let i = c.loop-id.id-index in
    let id = c.id-item.result in
    let old = c.loop-id.triggers.items in
    let new = c.number_in.new.names in
    let t : Trigger = record { id = id; number = c.in_ok-number.number } in
    let items : c.push.new.self.items ≡ old ++ t ∷ [] = c.in_ok-push.ensures.items in
    record {
      ids =
          ap (map (λ (u : Trigger). u.id)) items
          ∙ (map-append (λ (u : Trigger). u.id) old (t ∷ [])
          ∙ (ap (λ l. l ++ id ∷ []) c.loop-id.invariant.ids
          ∙ sym (take_more ids i id c.loop-id-test.true ∙ ap (λ x. take i ids ++ x ∷ []) (sym c.id-item.is))));
      numbered =
          subst (AllByRecursion (IsNumbered new)) (sym items)
          (each_push (IsNumbered new) old t (still_numbered c.loop-id.names new old c.in_ok-number.ensures.keeps c.loop-id.invariant.numbered) c.in_ok-number.ensures.number);
      keeps = keeps_all c.args.names.now c.loop-id.names new c.loop-id.invariant.keeps c.in_ok-number.ensures.keeps;
    }
