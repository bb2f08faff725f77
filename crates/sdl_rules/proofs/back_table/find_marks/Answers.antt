use Rattle.std.proofs.Common.{◌≡◌, ◌∙◌, true, ap}
use Rattle.std.specs.List.{list_all}
use Rattle.sdl_ast.specs.Views.{block_of, process_of}
use Rattle.sdl_ast.specs.declared.tree.Party.{Party}
use Rattle.sdl_sound.specs.Receivers.{party_of, carries, receivers}
use Rattle.sdl_rules.proofs.BackRows.{there_none, there_more, received, all_at}
use Rattle.sdl_rules.proofs.back_table.find_marks.Goals as goal

pub loop-party-init : goal.loop-party-init
loop-party-init c = there_none (block_of c.args.block.now) (process_of c.args.process.now) c.args.signal _ _ (c.in_ok-marks.ensures.items_if_clones_equal (λ y e. e))

pub loop-party-preserved : goal.loop-party-preserved
loop-party-preserved c =
    let b = block_of c.args.block.now in
    let p = process_of c.args.process.now in
    let s = c.args.signal in
    let q = c.party-item.result in
    let qs = c.receivers-party-items.result.now in
    let are : qs ≡ receivers b (party_of p) s = c.receivers-party-items.ensures ∙ ap (λ (own : Party). receivers b own s) c.party_of-own.ensures in
    let all : list_all (λ q. carries b (party_of p) q s) qs ≡ true = ap (list_all (λ q. carries b (party_of p) q s)) are ∙ received b (party_of p) s in
    there_more b p s c.loop-party.marks.items c.mark.new.marks.items q c.party_number.result c.party_number.ensures
    (all_at (λ q. carries b (party_of p) q s) qs c.loop-party.party-index q c.loop-party-test.true c.party-item.is all)
    c.mark.ensures.marks c.loop-party.invariant
