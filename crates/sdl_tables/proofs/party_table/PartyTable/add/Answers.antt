use Rattle.std.proofs.Common.{◌≡◌, ◌∙◌, sym, ap, false, true, not, None, ◌∷◌, ◌++◌, [], is_some}
use Rattle.std.specs.List.{list_any}
use Rattle.std.specs.Map.{lookup, values_of}
use Rattle.indexmap.proofs.CallerLemmas.{insert_entry-new}
use Rattle.sdl_tables.specs.Routes.{same_party}
use Rattle.sdl_tables.specs.RouteIndexes.{same_side, side_of}
use Rattle.sdl_tables.proofs.Mentions.{add_there, add_new}
use Rattle.sdl_tables.proofs.Parties.{holds_party, lacks_party, Sided-push, parties-push}
use Rattle.sdl_tables.proofs.party_table.PartyTable.add.Goals as goal

there_then : (c : goal.Then-contains_key) → list_any (same_party c.args.party) c.args.self.now ≡ true
there_then c =
    sym (ap (list_any (same_party c.args.party)) c.self.view_is)
    ∙ (sym (holds_party c.self.inside.entries.entries c.args.party c.self.invariant)
    ∙ (ap (λ k. is_some (lookup (same_side k) c.self.inside.entries.entries)) (sym c.side_of-side.ensures)
    ∙ (sym c.contains_key.ensures ∙ c.if-contains_key.true)))

absent_then : (c : goal.In_ok-insert) → list_any (same_party c.args.party) (values_of c.self.inside.entries.entries) ≡ false
absent_then c =
    sym (holds_party c.self.inside.entries.entries c.args.party c.self.invariant)
    ∙ (ap (λ k. is_some (lookup (same_side k) c.self.inside.entries.entries)) (sym c.side_of-side.ensures)
    ∙ (sym c.contains_key.ensures ∙ c.if-contains_key.false))

entries_then : (c : goal.In_ok-insert)
    → c.insert.new.self.entries ≡ c.self.inside.entries.entries ++ (side_of c.args.party, c.args.party) ∷ []
entries_then c =
    let es = c.self.inside.entries.entries in
    let none : lookup (same_side c.side_of-side.result) es ≡ None =
    rw c.side_of-side.ensures (lacks_party es c.args.party c.self.invariant (absent_then c)) in
    c.in_ok-insert.ensures.entries
    ∙ (insert_entry-new same_side c.self.inside.entries c.side_of-side.result c.args.party none
    ∙ ap (λ k. es ++ (k, c.args.party) ∷ []) c.side_of-side.ensures)

pub returns-then-contains_key-clause-added : goal.returns-then-contains_key-clause-added
returns-then-contains_key-clause-added c = ap not (sym (there_then c))

pub returns-then-contains_key-clause-parties : goal.returns-then-contains_key-clause-parties
returns-then-contains_key-clause-parties c = sym (add_there c.args.self.now c.args.party (there_then c))

pub invariant_of-self-2 : goal.invariant_of-self-2
invariant_of-self-2 c = rw (entries_then c) (Sided-push c.self.inside.entries.entries c.args.party c.self.invariant)

pub returns-clause-added : goal.returns-clause-added
returns-clause-added c = ap not (sym (sym (ap (list_any (same_party c.args.party)) c.self.view_is) ∙ absent_then c))

pub returns-clause-parties : goal.returns-clause-parties
returns-clause-parties c =
    ap values_of (entries_then c)
    ∙ (parties-push c.self.inside.entries.entries (side_of c.args.party) c.args.party
    ∙ (ap (λ ps. ps ++ c.args.party ∷ []) c.self.view_is
    ∙ sym (add_new c.args.self.now c.args.party (sym (ap (list_any (same_party c.args.party)) c.self.view_is) ∙ absent_then c))))
