use Rattle.std.proofs.Common.{refl, ap, ◌∙◌, arith}
use Rattle.std.proofs.lemmas.Result.{on_ok_weaker}
use Rattle.sdl_meaning.specs.Code.{add_number}
use Rattle.sdl_emit.specs.Scopes.{scope_in}
use Rattle.sdl_emit.proofs.Marked.{mark_there}
use Rattle.sdl_emit.proofs.placing.place_one.Goals as goal

pub add_once-requires : goal.add_once-requires
add_once-requires c =
    let ms = c.args.marks.now.items in
    let there = mark_there (scope_in c.args.names.now) c.args.placed.now.items ms c.args.join.now.connector c.requires.marks c.requires.named in
    record {
      there = omega (arith, there, c.connector-number.ensures);
      marks = record { count = refl; each = c.requires.marks.each };
    }

pub returns : goal.returns
returns c = record {
  placed = on_ok_weaker c.add_once.result (λ f. f ∙ ap (add_number c.args.placed.now.items) c.connector-number.ensures) c.add_once.ensures.kept;
  marks = on_ok_weaker c.add_once.result (λ f. record { count = f.count ∙ c.requires.marks.count; each = f.each }) c.add_once.ensures.marks;
}
