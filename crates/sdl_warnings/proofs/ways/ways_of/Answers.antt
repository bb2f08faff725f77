use Rattle.std.proofs.Common.{◌≡◌, ◌∙◌, ◌||◌, List, Bool, false, length, replicate, ap, arith}
use Rattle.std.proofs.lemmas.List.{length-replicate}
use Rattle.sdl_ast.specs.Views.{process_of}
use Rattle.sdl_tables.specs.Names.{states_of}
use Rattle.sdl_measures.specs.Links.{goes, graph_in}
use Rattle.sdl_warnings.specs.Marked.{is_marked}
use Rattle.sdl_warnings.specs.Ways.{enters, state_links}
use Rattle.sdl_warnings.proofs.Marking.{marked_none}
use Rattle.sdl_warnings.proofs.StateWays.{rows_count}
use Rattle.sdl_warnings.proofs.ways.ways_of.Goals as goal

pub returns : goal.returns
returns c =
    let p = process_of c.args.process.now in
    let rows = c.deref-2.result.now in
    let same : graph_in rows ≡ state_links p = ap graph_in c.deref-2.ensures.value ∙ c.in_ok-graph.ensures in
    let count : length rows ≡ length (states_of p) = rows_count p rows same in
    let none : c.in_ok-first.first.items ≡ replicate c.len.result false = c.in_ok-first.ensures.items_if_clones_equal (λ y e. e) in
    record {
      ways = record {
        ways = λ n m within. c.in_ok-to.ensures n m (omega (arith, within, count)) ∙ ap (λ g. goes g n m) same;
        count = c.in_ok-mark_exits.ensures.len ∙ (ap length none ∙ (length-replicate c.len.result false ∙ (c.len.ensures ∙ ap length c.states.ensures)));
        first = λ n.
            c.in_ok-mark_exits.ensures.marks n
            ∙ (ap (λ b. b || enters p (process_of c.process.result.now).start.text n) (ap (λ (l : List Bool). is_marked l n) none ∙ marked_none c.len.result n)
            ∙ ap (λ q. enters p (process_of q).start.text n) c.process.ensures.process);
      };
    }
