use Rattle.std.proofs.Common.{List, rules, subst}
use Rattle.std.specs.List.Sorted.{IsPermutation}
use Rattle.std.proofs.lemmas.List.Sorted.{IsNonDecreasingBy-from_sort_by_key}
use Rattle.sdl_warnings.specs.declared.warning.Warning.{Warning}
use Rattle.sdl_warnings.proofs.collected.warnings.Goals as goal

pub returns : goal.returns
returns c = record {
  all = subst (λ (l : List Warning). IsPermutation l c.sort_by_key.new.self.items) c.in_ok-found.ensures c.in_ok-sort_by_key.ensures.permutation;
  ordered = IsNonDecreasingBy-from_sort_by_key (λ (w : Warning). w.at) _ c.in_ok-sort_by_key.ensures.sorted (λ a r q k. search rules);
}
