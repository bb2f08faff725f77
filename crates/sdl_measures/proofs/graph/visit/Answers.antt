use Rattle.std.proofs.Common.{rules, ◌≡◌, List, Some, true, false, length, refl, ap, sym, ◌∙◌}
use Rattle.std.specs.Prelude.{slice_get}
use Rattle.std.specs.Option.{option_map_or}
use Rattle.sdl_measures.specs.Links.{graph_in}
use Rattle.sdl_measures.specs.Searched.{is_new}
use Rattle.sdl_measures.specs.declared.graph.Mark.{Mark}
use Rattle.sdl_measures.specs.declared.graph.Mark.TheVariants.{New}
use Rattle.sdl_measures.proofs.Ordering.{enters_first, new_at, not_new_at, seen_set, search_as}
use Rattle.sdl_measures.proofs.graph.visit.Goals as goal
use Rattle.sdl_measures.proofs.graph.visit.Goals.{then-is_new+in_ok-enter, else-is_new}

pub loop-marks-init : goal.loop-marks-init
loop-marks-init c =
    let g = graph_in c.args.graph.now in
    let marks = c.args.marks.now.items in
    elim c.if-is_new.branch [
      | then-is_new+in_ok-enter w ↦
          let is : option_map_or is_new (slice_get marks c.args.root) false ≡ true =
          ap (λ (l : List Mark). option_map_or is_new (slice_get l c.args.root) false) (sym c.deref.ensures.value) ∙ sym c.is_new.ensures ∙ search rules in
          let fresh : slice_get marks c.args.root ≡ Some New = new_at marks c.args.root is in
          rw (w.marks-is, w.path-is) (record {
            search = search_as g _ _ _ _ _ _ w.in_ok-enter.ensures.marks w.in_ok-enter.ensures.path refl
                (enters_first g marks c.args.path.now.items c.args.order.now.items c.args.root c.requires.search c.requires.done fresh);
            seen = λ n e. (seen_set marks c.args.root (length c.args.path.now.items) n fresh (ap (λ (l : List Mark). slice_get l n) (sym w.in_ok-enter.ensures.marks) ∙ e)).0;
            visited = λ e. (seen_set marks c.args.root (length c.args.path.now.items) c.args.root fresh (ap (λ (l : List Mark). slice_get l c.args.root) (sym w.in_ok-enter.ensures.marks) ∙ e)).1 refl;
          })
      | else-is_new w ↦
          let not : option_map_or is_new (slice_get marks c.args.root) false ≡ false =
          ap (λ (l : List Mark). option_map_or is_new (slice_get l c.args.root) false) (sym c.deref.ensures.value) ∙ sym c.is_new.ensures ∙ search rules in
          rw (w.marks-is, w.path-is) (record {
            search = c.requires.search;
            seen = λ n e. e;
            visited = not_new_at marks c.args.root not;
          })
    ]
