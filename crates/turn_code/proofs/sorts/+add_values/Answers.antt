use Rattle.std.proofs.Common.{rules, ◌≡◌, ◌%◌, pos, w32, SFits, to_z-of_z, eqb, subst}
use Rattle.std.specs.Prelude.{slice_index_or}
use Rattle.turn_code.specs.Values.{sort_of}
use Rattle.turn_code.specs.declared.value.Value.{Value}
use Rattle.turn_code.specs.Meant.{word_of}
use Rattle.turn_code.specs.Sorts.{is_boolean}
use Rattle.turn_code.proofs.SortBits.{added}
use Rattle.turn_code.proofs.sorts.+add_values.Goals as goal

pub returns-in-len1-up : goal.returns-in-len1-up
returns-in-len1-up t c =
    let fits : SFits w32 (slice_index_or c.args.words.now 0 (pos 0)) = search rules in
    let one =
    subst (λ w. (x : Value) → word_of x ≡ w → is_boolean (sort_of x) ≡ eqb (c.args.bits % 2) 1 → c.value_of.result ≡ x) (to_z-of_z fits)
    c.value_of.ensures in
    λ xs words are.
    added xs c.args.values.now.items c.push.new.self.items c.add_values.new.values.items c.args.words.now c.args.bits c.value_of.result
    c.in-len1-up.len_at_least one c.push.ensures.items c.add_values.ensures words are
