-- An offer that isn't refused has arrived along a route with the right sorts.
use Rattle.std.proofs.Common.{◌≡◌, inl, ℕ, true, ◌&&◌, List, [], ◌∷◌, length, map, refl, ap, subst, eqb-true}
use Rattle.std.specs.Prelude.{slice_get, slice_index_or, nat_lt, ◌==◌, Any, Contains}
use Rattle.std.specs.List.{list_any}
use Rattle.std.proofs.lemmas.Bool.{false≢true, and_parts as both_pass}
use Rattle.std.proofs.lemmas.Bool.Decides.{Decides-ltb}
use Rattle.std.proofs.lemmas.List.Folds.{Any-from_list_any}
use Rattle.turn_code.specs.Values.{sort_of}
use Rattle.turn_code.specs.Routes.{the_process, Brings}
use Rattle.turn_code.specs.Transitions.{parameters_of}
use Rattle.turn_code.specs.declared.value.Sort.{Sort}
use Rattle.turn_code.specs.declared.value.Sort.TheVariants.{Integer, Boolean}
use Rattle.turn_code.specs.declared.numbers.SignalNumber.{SignalNumber}
use Rattle.turn_code.specs.declared.input.Party.{Party}
use Rattle.turn_code.specs.declared.input.Party.TheVariants.{Environment, Process}
use Rattle.turn_code.specs.declared.draft.Draft.{Draft}
use Rattle.turn_code.specs.declared.draft.DraftRoute.{DraftRoute}
use Rattle.actor_machine.specs.Refusals.{is_environment, is_process, offers, same_sort, same_sorts, is_offered}
use Rattle.actor_machine.specs.Step.{offered_arrival}
use Rattle.actor_machine.specs.Fits.{Arrived}
use Rattle.actor_machine.specs.declared.event.Offer.{Offer as Offered}

one_sort : (x y : Sort) → same_sort x y ≡ true → x ≡ y
one_sort Integer Integer e = refl
one_sort Integer Boolean e = absurd (false≢true e)
one_sort Boolean Integer e = absurd (false≢true e)
one_sort Boolean Boolean e = refl

equal_sorts : (xs ys : List Sort) → same_sorts xs ys ≡ true → xs ≡ ys
equal_sorts [] [] e = refl
equal_sorts [] (y ∷ ys) e = absurd (false≢true e)
equal_sorts (x ∷ xs) [] e = absurd (false≢true e)
equal_sorts (x ∷ xs) (y ∷ ys) e =
    let both = both_pass (same_sort x y) (same_sorts xs ys) e in
    let head = one_sort x y both.0 in
    let rest = equal_sorts xs ys both.1 in
    λ i. head i ∷ rest i

from_environment : (p : Party) → is_environment p ≡ true → p ≡ Environment
from_environment Environment e = refl
from_environment (Process m) e = absurd (false≢true e)

to_process : (n : ℕ) (p : Party) → is_process n p ≡ true → p ≡ the_process n
to_process n Environment e = absurd (false≢true e)
to_process n (Process m) e = ap the_process (eqb-true m.0 n e)

carried : (s : SignalNumber) (xs : List SignalNumber) → list_any (λ (x : SignalNumber). x.0 == s.0) xs ≡ true → Contains xs s
carried s xs e =
    let found = Any-from_list_any (λ (x : SignalNumber). x.0 == s.0) xs e in
    let same : found.1 ≡ s = ap (λ (k : ℕ). record { 0 = k }) (eqb-true found.1.0 s.0 found.4) in
    (found.0, found.2, subst (λ x. slice_index_or xs found.0 x ≡ x) same found.3)

route_brings : (n : ℕ) (s : SignalNumber) (r : DraftRoute) → offers n s r ≡ true → Brings Environment n s r
route_brings n s r e =
    let outer = both_pass (is_environment r.from) (is_process n r.to && list_any (λ (x : SignalNumber). x.0 == s.0) r.signals) e in
    let inner = both_pass (is_process n r.to) (list_any (λ (x : SignalNumber). x.0 == s.0) r.signals) outer.1 in
    record { from = from_environment r.from outer.0; to = to_process n r.to inner.0; signal = carried s r.signals inner.1 }

some_brings : (n : ℕ) (s : SignalNumber) (rs : List DraftRoute) → list_any (offers n s) rs ≡ true → Any (Brings Environment n s) rs
some_brings n s rs e =
    let found = Any-from_list_any (offers n s) rs e in
    (found.0, found.1, found.2, found.3, route_brings n s found.1 found.4)

pub offered_arrives : (d : Draft) (n : ℕ) (o : Offered) → is_offered d n o.signal o.values.items ≡ true → Arrived d n (offered_arrival o)
unfolding is_offered
offered_arrives d n o e =
    let there = nat_lt o.signal.0 (length d.signals) in
    let sorts = same_sorts (map sort_of o.values.items) (parameters_of (slice_get d.signals o.signal.0)) in
    let outer = both_pass (list_any (offers n o.signal) d.routes) (there && sorts) e in
    let inner = both_pass there sorts outer.1 in
    record {
      there = (Decides-ltb o.signal.0 (length d.signals)).0 inner.0;
      sorts = equal_sorts (map sort_of o.values.items) (parameters_of (slice_get d.signals o.signal.0)) inner.1;
      sender = inl refl;
      brought = some_brings n o.signal d.routes outer.0;
    }
