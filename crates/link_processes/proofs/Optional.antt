-- Optional signals.
use Rattle.std.proofs.Common.{◌≡◌, ℕ, inl, inr, true, false, List, sym, ap, ◌∙◌, subst}
use Rattle.std.specs.List.{list_any}
use Rattle.std.proofs.lemmas.Bool.{cases_order, true≢false}
use Rattle.turn_check.specs.Named.{IsFirst, IsNowhere, signal_names}
use Rattle.turn_code.specs.declared.draft.Draft.{Draft}
use Rattle.turn_code.specs.declared.numbers.SignalNumber.{SignalNumber}
use Rattle.link_processes.specs.Known.{option_word, touches, IsTouched}
use Rattle.link_processes.specs.declared.words.OptionName.{OptionName}
use Rattle.link_processes.specs.declared.words.OptionName.TheVariants as option

-- a name is first at only one place
pub first_once : (names : List (List ℕ)) (m n : ℕ) (name : List ℕ) → IsFirst names m name → IsFirst names n name → m ≡ n
first_once names m n name first second =
    elim (cases_order m n) [
      | inl same ↦ same
      | inr other ↦ elim other [
        | inl less ↦ absurd (second.before m less first.there)
        | inr more ↦ absurd (first.before n more second.there)
      ]
    ]

same_number : (j k : SignalNumber) → j.0 ≡ k.0 → j ≡ k
same_number j k e = ap (λ (n : ℕ). record { 0 = n }) e

-- if no route carries the first signal of this name, no signal of this name is touched
pub untouched : (d : Draft) (name : OptionName) (j : SignalNumber) → IsFirst (signal_names d) j.0 (option_word name) → list_any (touches j) d.routes ≡ false
    → (k : SignalNumber) → IsTouched d name k → ⊥
untouched d name j first none k touched =
    let same : k ≡ j = same_number k j (first_once (signal_names d) k.0 j.0 (option_word name) touched.named first) in
    let P : SignalNumber → Type 0 = λ x. list_any (touches x) d.routes ≡ true in
    true≢false (sym (subst P same touched.carried) ∙ none)

pub not_named : (d : Draft) (name : OptionName) → IsNowhere (signal_names d) (option_word name) → (k : SignalNumber) → IsTouched d name k → ⊥
not_named d name none k touched = none k.0 touched.named.there
