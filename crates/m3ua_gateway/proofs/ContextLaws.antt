-- Steps over the numbers in octets.
use Rattle.std.proofs.Common.{◌≡◌, ℕ, Bool, true, false, cond, eqb, List, [], ◌∷◌, ◌++◌, refl, sym, ap, ◌∙◌, append_assoc}
use Rattle.std.specs.Prelude.{not, ◌||◌, ◌==◌}
use Rattle.std.specs.List.{filter, flat_map, list_any}
use Rattle.std.proofs.lemmas.List.{append-nil}
use Rattle.m3ua_frames.specs.Numbers.{octets_4}
use Rattle.m3ua_gateway.specs.Contexts.{other_octets}

pub any_on : (f : ℕ → Bool) (xs ys zs : List ℕ) (n : ℕ) → xs ≡ n ∷ ys → f n ≡ false → list_any f xs ≡ list_any f zs → list_any f ys ≡ list_any f zs
any_on f xs ys zs n e other so_far = sym (ap (list_any f) e ∙ ap (λ (b : Bool). b || list_any f ys) other) ∙ so_far

pub any_here : (f : ℕ → Bool) (xs ys zs : List ℕ) (n : ℕ) → xs ≡ n ∷ ys → f n ≡ true → list_any f xs ≡ list_any f zs → true ≡ list_any f zs
any_here f xs ys zs n e this so_far = sym (ap (list_any f) e ∙ ap (λ (b : Bool). b || list_any f ys) this) ∙ so_far

pub any_end : (f : ℕ → Bool) (xs zs : List ℕ) → xs ≡ [] → list_any f xs ≡ list_any f zs → false ≡ list_any f zs
any_end f xs zs e so_far = sym (ap (list_any f) e) ∙ so_far

abbrev pub others : ℕ → List ℕ → List ℕ
others context ns = flat_map octets_4 (filter (λ n. not (n == context)) ns)

other_by : (b : Bool) (context n : ℕ) (ns : List ℕ) → flat_map octets_4 (cond (not b) (n ∷ filter (λ n. not (n == context)) ns) (filter (λ n. not (n == context)) ns)) ≡ cond b [] (octets_4 n) ++ others context ns
other_by true context n ns = refl
other_by false context n ns = refl

pub others_on : (context n : ℕ) (now first xs ys zs new : List ℕ) → xs ≡ n ∷ ys → new ≡ now ++ other_octets context n → now ++ others context xs ≡ first ++ others context zs → new ++ others context ys ≡ first ++ others context zs
others_on context n now first xs ys zs new e pushed so_far =
    ap (λ (ms : List ℕ). ms ++ others context ys) pushed ∙ append_assoc now (other_octets context n) (others context ys)
    ∙ ap (λ (ms : List ℕ). now ++ ms) (sym (ap (others context) e ∙ other_by (eqb n context) context n ys)) ∙ so_far

pub others_end : (context : ℕ) (now first xs zs : List ℕ) → xs ≡ [] → now ++ others context xs ≡ first ++ others context zs → now ≡ first ++ others context zs
others_end context now first xs zs e so_far = sym (append-nil now) ∙ ap (λ (ms : List ℕ). now ++ ms) (sym (ap (others context) e)) ∙ so_far
