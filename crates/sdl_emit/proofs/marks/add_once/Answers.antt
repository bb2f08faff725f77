use Rattle.std.proofs.Common.{rules, ◌≡◌, ℕ, List, Some, true, false, length, refl, sym, ◌∙◌, subst}
use Rattle.std.specs.Prelude.{slice_get, slice_set}
use Rattle.std.proofs.lemmas.Option.{slice_get_read}
use Rattle.sdl_emit.specs.Marks.{HaveMarks}
use Rattle.sdl_emit.proofs.Marking.{added_old, added_new, mark_tells, marked_more}
use Rattle.sdl_emit.proofs.marks.add_once.Goals as goal

pub returns-in_ok-push-clause-kept : goal.returns-in_ok-push-clause-kept
returns-in_ok-push-clause-kept c =
    let ns = c.args.kept.now.items in
    let ms = c.args.marks.now.items in
    let n = c.args.number in
    let b = c.index.result.now in
    let at : slice_get ms n ≡ Some b = slice_get_read ms (length ms) n b refl c.requires.there c.index.ensures in
    let free : b ≡ false = search rules in
    c.in_ok-push.ensures.items ∙ added_new ns n (mark_tells (length ms) ns ms n b c.requires.marks c.requires.there at ∙ free)

pub returns-in_ok-push-clause-marks : goal.returns-in_ok-push-clause-marks
returns-in_ok-push-clause-marks c =
    let ns = c.args.kept.now.items in
    let ms = c.args.marks.now.items in
    let n = c.args.number in
    subst (λ (l : List ℕ). HaveMarks (length ms) l (slice_set ms n true)) (sym c.in_ok-push.ensures.items) (marked_more (length ms) ns ms n c.requires.marks c.requires.there)

pub returns-else-not-index-clause-kept : goal.returns-else-not-index-clause-kept
returns-else-not-index-clause-kept c =
    let ns = c.args.kept.now.items in
    let ms = c.args.marks.now.items in
    let n = c.args.number in
    let b = c.index.result.now in
    let at : slice_get ms n ≡ Some b = slice_get_read ms (length ms) n b refl c.requires.there c.index.ensures in
    let is : b ≡ true = search rules in
    added_old ns n (mark_tells (length ms) ns ms n b c.requires.marks c.requires.there at ∙ is)
