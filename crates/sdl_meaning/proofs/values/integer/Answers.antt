use Rattle.std.proofs.Common.{◌≡◌, ℕ, pos, ◌<◌, ◌^◌, sym, ap, ◌∙◌, arith}
use Rattle.std.proofs.Math.Nat.{mod-eq_of_lt}
use Rattle.std.specs.Int.{int_wrap, cast_signed, cast_unsigned, w32}
use Rattle.std.proofs.lemmas.Int.{of_z-to_z}
use Rattle.turn_code.specs.Values.{wrap}
use Rattle.sdl_meaning.proofs.values.integer.Goals as goal

-- a number below 2^32, read as a signed 32-bit number
wrap_of : (n : ℕ) → n < 2 ^ 32 → cast_signed w32 n ≡ wrap (pos n)
unfolding int_wrap
wrap_of n h = ap (cast_signed w32) (sym (mod-eq_of_lt h))

pub returns : goal.returns
returns c =
    let small : c.args.value < 2 ^ 32 = omega arith in
    ap (λ z. cast_signed w32 (cast_unsigned w32 z)) c.cast_signed.ensures
    ∙ ap (cast_signed w32) (of_z-to_z w32 c.args.value small) ∙ wrap_of c.args.value small
