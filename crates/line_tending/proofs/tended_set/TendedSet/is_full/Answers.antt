use Rattle.std.proofs.Common.{◌≡◌, ◌∙◌, ℕ, Option, unwrap_or, slice_get, ap, arith}
use Rattle.link_group.specs.Links.{read_at}
use Rattle.link_group.specs.Reading.{held_count}
use Rattle.line_tending.specs.Tended.{Tended}
use Rattle.line_tending.proofs.Filling.{full_of_many, full_of_few}
use Rattle.line_tending.proofs.tended_set.TendedSet.is_full.Goals as goal

pub returns-then-held-ge-MOST_HELD : goal.returns-then-held-ge-MOST_HELD
returns-then-held-ge-MOST_HELD c =
    let link = slice_get c.args.self.now.set.links c.args.link in
    let many : c.unwrap_or-held.result ≡ unwrap_or (read_at held_count link) 0 =
    c.unwrap_or-held.ensures
    ∙ ap (λ (o : Option ℕ). unwrap_or o 0) (c.held.ensures ∙ ap (λ (t : Tended). read_at held_count (slice_get t.set.links c.args.link)) c.self.view_is) in
    full_of_many link c.unwrap_or-held.result many (omega arith)

pub returns : goal.returns
returns c =
    let link = slice_get c.args.self.now.set.links c.args.link in
    let many : c.unwrap_or-held.result ≡ unwrap_or (read_at held_count link) 0 =
    c.unwrap_or-held.ensures
    ∙ ap (λ (o : Option ℕ). unwrap_or o 0) (c.held.ensures ∙ ap (λ (t : Tended). read_at held_count (slice_get t.set.links c.args.link)) c.self.view_is) in
    full_of_few link c.unwrap_or-held.result c.octets_held.result many c.octets_held.ensures (omega arith)
