use Rattle.std.proofs.Common.{ℕ, List, length, map, refl, ap, ◌∙◌, rules}
use Rattle.std.specs.Prelude.{slice_get}
use Rattle.group_changeover.specs.Sharing.{selections, link_of}
use Rattle.link_group.specs.Moving.{Diversion, Diverted, division, ends_on}
use Rattle.link_group.specs.Diverting.{diverted}
use Rattle.link_group.proofs.Settling.{diverted_by, left_none, left_some, settled_whole, settled_part}
use Rattle.link_group.proofs.ending.divert_from.Goals as goal

pub returns-in-Ok-clause-fault : goal.returns-in-Ok-clause-fault
returns-in-Ok-clause-fault c = left_none (diverted c.args.links.now c.args.table.now.links c.args.at c.args.messages.items) (c.in-Ok.ensures.fault ∙ ap (λ (w : Diverted). w.fault) (diverted_by c.args.links.now c.args.table.now.links c.args.at c.args.messages.items c.as_slice.result.now (c.as_slice.ensures.value ∙ c.takers-able.ensures)))

pub returns-in-Ok-clause-links : goal.returns-in-Ok-clause-links
returns-in-Ok-clause-links c =
    (settled_whole c.args.links.now _ c.args.table.now.links _ c.args.at c.args.messages.items (division c.divert_all.new.links c.divert_all.new.table.links c.divert_all.new.messages.items)
    (c.in-Ok.ensures.moved ∙ ap (λ (w : Diverted). w.at) (diverted_by c.args.links.now c.args.table.now.links c.args.at c.args.messages.items c.as_slice.result.now (c.as_slice.ensures.value ∙ c.takers-able.ensures)))
    (c.in-Ok.ensures.fault ∙ ap (λ (w : Diverted). w.fault) (diverted_by c.args.links.now c.args.table.now.links c.args.at c.args.messages.items c.as_slice.result.now (c.as_slice.ensures.value ∙ c.takers-able.ensures))) c.end_at.ensures
    (c.end_table.ensures ∙ ap (λ (ls : List ℕ). map (λ s. ends_on ls c.args.at (slice_get c.divert_all.new.links c.args.at) (link_of c.divert_all.new.table.links s) s) selections) (c.as_slice-in-Ok.ensures.value ∙ c.takers-able.ensures))).0

pub returns-in-Ok-clause-table : goal.returns-in-Ok-clause-table
returns-in-Ok-clause-table c =
    (settled_whole c.args.links.now c.end_at.new.links c.args.table.now.links _ c.args.at c.args.messages.items (division c.divert_all.new.links c.divert_all.new.table.links c.divert_all.new.messages.items)
    (c.in-Ok.ensures.moved ∙ ap (λ (w : Diverted). w.at) (diverted_by c.args.links.now c.args.table.now.links c.args.at c.args.messages.items c.as_slice.result.now (c.as_slice.ensures.value ∙ c.takers-able.ensures)))
    (c.in-Ok.ensures.fault ∙ ap (λ (w : Diverted). w.fault) (diverted_by c.args.links.now c.args.table.now.links c.args.at c.args.messages.items c.as_slice.result.now (c.as_slice.ensures.value ∙ c.takers-able.ensures))) c.end_at.ensures
    (c.end_table.ensures ∙ ap (λ (ls : List ℕ). map (λ s. ends_on ls c.args.at (slice_get c.divert_all.new.links c.args.at) (link_of c.divert_all.new.table.links s) s) selections) (c.as_slice-in-Ok.ensures.value ∙ c.takers-able.ensures))).1

pub returns-in-Err-clause-fault : goal.returns-in-Err-clause-fault
returns-in-Err-clause-fault c =
    left_some (diverted c.args.links.now c.args.table.now.links c.args.at c.args.messages.items) c.in-Err.fault c.len-left.result (length c.divert_all.new.messages.items)
    (c.in-Err.ensures.fault ∙ ap (λ (w : Diverted). w.fault) (diverted_by c.args.links.now c.args.table.now.links c.args.at c.args.messages.items c.as_slice.result.now (c.as_slice.ensures.value ∙ c.takers-able.ensures))) (search rules)
    (ap (λ (d : Diversion). length d.rest) c.in-Err.ensures.moved ∙ ap (λ (w : Diverted). length w.at.rest) (diverted_by c.args.links.now c.args.table.now.links c.args.at c.args.messages.items c.as_slice.result.now (c.as_slice.ensures.value ∙ c.takers-able.ensures)))

pub returns-in-Err-clause-links : goal.returns-in-Err-clause-links
returns-in-Err-clause-links c =
    (settled_part c.args.links.now c.hand_back.new.links c.args.table.now.links _ c.args.at c.args.messages.items (division c.divert_all.new.links c.divert_all.new.table.links c.divert_all.new.messages.items) c.in-Err.fault
    (c.in-Err.ensures.moved ∙ ap (λ (w : Diverted). w.at) (diverted_by c.args.links.now c.args.table.now.links c.args.at c.args.messages.items c.as_slice.result.now (c.as_slice.ensures.value ∙ c.takers-able.ensures)))
    (c.in-Err.ensures.fault ∙ ap (λ (w : Diverted). w.fault) (diverted_by c.args.links.now c.args.table.now.links c.args.at c.args.messages.items c.as_slice.result.now (c.as_slice.ensures.value ∙ c.takers-able.ensures))) c.hand_back.ensures refl).0

pub returns-in-Err-clause-table : goal.returns-in-Err-clause-table
returns-in-Err-clause-table c =
    (settled_part c.args.links.now c.hand_back.new.links c.args.table.now.links _ c.args.at c.args.messages.items (division c.divert_all.new.links c.divert_all.new.table.links c.divert_all.new.messages.items) c.in-Err.fault
    (c.in-Err.ensures.moved ∙ ap (λ (w : Diverted). w.at) (diverted_by c.args.links.now c.args.table.now.links c.args.at c.args.messages.items c.as_slice.result.now (c.as_slice.ensures.value ∙ c.takers-able.ensures)))
    (c.in-Err.ensures.fault ∙ ap (λ (w : Diverted). w.fault) (diverted_by c.args.links.now c.args.table.now.links c.args.at c.args.messages.items c.as_slice.result.now (c.as_slice.ensures.value ∙ c.takers-able.ensures))) c.hand_back.ensures refl).1
