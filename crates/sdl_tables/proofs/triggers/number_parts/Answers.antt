use Rattle.std.proofs.Common.{◌≡◌, ◌++◌, ◌∷◌, [], map, take, ◌+◌, sym, ap, ◌∙◌, subst}
use Rattle.std.specs.Global.{Vec}
use Rattle.std.specs.List.{AllByRecursion}
use Rattle.std.proofs.lemmas.List.{map-append}
use Rattle.sdl_ast.specs.Views.{state_of}
use Rattle.sdl_tables.specs.Names.{part_triggers}
use Rattle.sdl_tables.specs.Triggers.{trigger_ids, IsNumbered, AreNumbered}
use Rattle.sdl_tables.specs.declared.triggers.Trigger.{Trigger}
use Rattle.sdl_tables.proofs.Numbers.{all_numbered}
use Rattle.sdl_tables.proofs.triggers.number_parts.Goals as goal
use Rattle.plain_laws.proofs.Lists.{each_push, mapped_more}

pub loop-part-preserved : goal.loop-part-preserved
loop-part-preserved c =
    let parts = c.args.parts.now in
    let i = c.loop-part.part-index in
    let part = c.part-item.result in
    let old = c.loop-part.rows.items in
    let new = c.number_part.new.names in
    let v = c.in_ok-number_part.field-0 in
    let items : c.push.new.self.items ≡ old ++ v ∷ [] = c.in_ok-push.ensures.items in
    let done = map state_of (take i parts) in
    let more : map part_triggers (map state_of (take (i + 1) parts)) ≡ map part_triggers done ++ part_triggers (state_of part) ∷ [] =
    ap (map part_triggers) (mapped_more state_of parts i part c.loop-part-test.true c.part-item.is) ∙ map-append part_triggers done (state_of part ∷ []) in
    record {
      ids =
          ap (map trigger_ids) items
          ∙ (map-append trigger_ids old (v ∷ [])
          ∙ (ap (λ l. l ++ trigger_ids v ∷ []) c.loop-part.invariant.ids
          ∙ (ap (λ ids. map part_triggers done ++ ids ∷ []) c.in_ok-number_part.ensures.ids ∙ sym more)));
      numbered =
          subst (AreNumbered new) (sym items)
          (each_push (λ (w : Vec Trigger). AllByRecursion (IsNumbered new) w.items) old v
          (all_numbered c.loop-part.names new old c.in_ok-number_part.ensures.keeps c.loop-part.invariant.numbered) c.in_ok-number_part.ensures.numbered);
    }
