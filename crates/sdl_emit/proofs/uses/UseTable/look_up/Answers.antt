use Rattle.std.proofs.Common.{rules, ◌≡◌, ◌∙◌, sym, ap, subst, Some, true}
use Rattle.std.specs.Prelude.{slice_get, bytes_eq}
use Rattle.std.proofs.lemmas.Option.{slice_get-get_or}
use Rattle.sdl_emit.proofs.Used.{asked_for}
use Rattle.sdl_emit.proofs.uses.UseTable.look_up.Goals as goal

pub returns-in-Some-Some : goal.returns-in-Some-Some
returns-in-Some-Some c = λ sc h.
    let found = c.in-Some-Some.ensures.lookup in
    let same : bytes_eq c.in-Some-Some.known.id.name c.args.id.now.name ≡ true = search rules in
    let here : slice_get c.deref.result.now c.slot.result ≡ Some (Some c.in-Some-Some.known) =
    slice_get-get_or c.deref.result.now c.slot.result c.in-Some-Some.field-0.now found.3.0 ∙ ap Some (sym found.1) ∙ ap Some c.in-Some-Some.field-0-is in
    let at = subst (λ us. slice_get us c.slot.result ≡ Some (Some c.in-Some-Some.known)) c.deref.ensures.value here in
    asked_for sc c.args.self.now.uses.items c.slot.result c.in-Some-Some.known c.args.id.now.name h at same
