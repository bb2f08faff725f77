use Rattle.std.proofs.Common.{◌≡◌, ◌∙◌, ◌<◌, Bool, List, length, map, ap, sym, subst}
use Rattle.std.specs.Prelude.{All}
use Rattle.std.specs.Global.{Vec}
use Rattle.sdl_ast.specs.Views.{process_of}
use Rattle.sdl_sound.specs.Orders.{targets_of}
use Rattle.sdl_measures.proofs.Connectors.{within_links}
use Rattle.sdl_rules.specs.Distinct.{has_sender}
use Rattle.sdl_rules.specs.Reached.{joining_of, starts_with, sent_joins}
use Rattle.sdl_scopes.specs.declared.sender.Sender.{Sender}
use Rattle.sdl_rules.specs.declared.distinct.MarkedRow.{MarkedRow}
use Rattle.sdl_tables.proofs.States.{map-map}
use Rattle.sdl_rules.proofs.Coming.{starts_is, starts_within}
use Rattle.sdl_rules.proofs.reaching.reached_by.Goals as goal

pub reached_from-requires-clause-within : goal.reached_from-requires-clause-within
reached_from-requires-clause-within c =
    let p = process_of c.args.process.now in
    let k = length p.connections in
    within_links p c.args.links.now c.deref-2.result.now c.requires.links
    (subst (All (λ n. n < k)) (sym (c.deref-2.ensures.value ∙ c.in_ok-starts.ensures)) (starts_within k c.deref.result.now c.args.joinings.now c.requires.within))

pub returns : goal.returns
returns c = λ t told joinings.
    let p = process_of c.args.process.now in
    let u = c.args.sender.now in
    let marks : c.deref.result.now ≡ map (λ (row : Vec Sender). has_sender row.items u) t.rows.items =
    c.deref.ensures.value ∙ c.in_ok-marks.ensures
    ∙ sym (map-map (λ (row : Vec Sender). has_sender row.items u) (λ (m : MarkedRow). m.row.now) c.args.rows.now)
    ∙ ap (map (λ (row : Vec Sender). has_sender row.items u)) told in
    let starts : c.deref-2.result.now ≡ targets_of p (sent_joins p t u) =
    c.deref-2.ensures.value ∙ c.in_ok-starts.ensures
    ∙ ap (λ (l : List Bool). starts_with l (map joining_of c.args.joinings.now)) marks
    ∙ ap (starts_with (map (λ (row : Vec Sender). has_sender row.items u) t.rows.items)) joinings
    ∙ starts_is p t u in
    c.in_ok-reached.ensures p (sent_joins p t u) c.requires.links c.requires.distinct starts
