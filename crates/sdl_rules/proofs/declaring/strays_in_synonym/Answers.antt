use Rattle.std.proofs.Common.{[]}
use Rattle.sdl_sound.specs.Sorts.{wrong_in}
use Rattle.sdl_sound.specs.Divisors.{bad_divisors_in}
use Rattle.sdl_rules.specs.Faults.{other_sort}
use Rattle.sdl_rules.proofs.Declares.{in_same}
use Rattle.sdl_rules.proofs.declaring.strays_in_synonym.Goals as goal

pub returns : goal.returns
returns c = record {
  unknown = c.unseen_in.ensures;
  wrong = c.earlier.ensures _ _ (in_same (wrong_in []) _ _ _ c.requires c.wrong_in_constant-operands.ensures) (in_same (other_sort c.args.synonym.now.sort) _ _ _ c.requires c.other_sort.ensures);
  divisor = in_same bad_divisors_in _ _ _ c.requires c.bad_in.ensures;
}
