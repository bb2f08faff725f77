use Rattle.std.proofs.Common.{ℕ, List, ◌∷◌, length, refl, sym, subst}
use Rattle.std.proofs.lemmas.List.{append-nil}
use Rattle.bit_line.specs.Parts.{Packed}
use Rattle.bit_line.proofs.ContentLaws.{gathers-full, gathers-more, full_of, room_of}
use Rattle.bit_line.proofs.data.Data.push.Goals as goal

pub returns-then-is_full : goal.returns-then-is_full
returns-then-is_full c h gathers =
    gathers-full c.args.bit h c.args.self.now _ (full_of c.is_full.result (length c.args.self.now.octets.items) 278 c.if-is_full.true c.is_full.ensures.value) refl gathers

pub returns-in-Some : goal.returns-in-Some
returns-in-Some c h gathers =
    gathers-more c.args.bit h c.args.self.now _
    (room_of c.is_full.result (length c.args.self.now.octets.items) 278 c.if-is_full.false c.is_full.ensures.value c.is_full.ensures.fits) c.args.self.now.part.len_fits refl
    (λ packed.
    let P : List ℕ → Type 0 = λ os. Packed os c.push.new.self.bits c.push.new.self.len (c.args.bit ∷ h) in
    subst P (sym c.push-in-Some.ensures.items) (c.in-Some.ensures.packed c.args.self.now.octets.items h packed)) gathers

pub returns-in_default : goal.returns-in_default
returns-in_default c h gathers =
    gathers-more c.args.bit h c.args.self.now _
    (room_of c.is_full.result (length c.args.self.now.octets.items) 278 c.if-is_full.false c.is_full.ensures.value c.is_full.ensures.fits) c.args.self.now.part.len_fits refl
    (λ packed.
    let P : List ℕ → Type 0 = λ os. Packed os c.push.new.self.bits c.push.new.self.len (c.args.bit ∷ h) in
    subst P (append-nil c.args.self.now.octets.items) (c.in_default.ensures.packed c.args.self.now.octets.items h packed)) gathers
