-- New terminals.
use Rattle.std.proofs.Common.{◌≡◌, ℕ, ◌+◌, List, [], ◌∷◌, ◌++◌, length, length-append, refl, sym, ap, subst, arith, ◌∙◌}
use Rattle.std.specs.Prelude.{All}
use Rattle.std.proofs.lemmas.List.Elements.{All-nil, All-cons, All-append, All-weaker}
use Rattle.resend_store.specs.declared.messages.Mode.{Mode}
use Rattle.turn_code.specs.declared.draft.Draft.{Draft}
use Rattle.link_transceiver.specs.TransceiverState.{first_transceiver}
use Rattle.link_term.specs.Term.{Term}
use Rattle.link_term.specs.Opening.{IsOver}
use Rattle.link_term.specs.Kept.{window_of}
use Rattle.trials_groups.specs.Opened.{AreNew}

-- the terminal holds no message
abbrev pub IsEmpty : Term → Type 0
IsEmpty t = (window_of t).kept ≡ []

unused : (d : Draft) (mode : Mode) (t : Term) → IsOver d mode t → IsEmpty t
unfolding first_transceiver
unused d mode t new = ap (λ s. s.sender.kept) new.transceiver

pub all_unused : (d : Draft) (mode : Mode) (links : ℕ) (ts : List Term) → AreNew d mode links ts → All IsEmpty ts
all_unused d mode links ts new = All-weaker (IsOver d mode) IsEmpty (unused d mode) ts new.are_new

pub none_yet : (d : Draft) (mode : Mode) (ts : List Term) → ts ≡ [] → AreNew d mode 0 ts
none_yet d mode ts none =
    let P : List Term → Type 0 = λ xs. AreNew d mode 0 xs in
    subst P (sym none) (record { number = refl; are_new = All-nil (IsOver d mode) })

pub one_more : (d : Draft) (mode : Mode) (n : ℕ) (old new : List Term) (t : Term) → IsOver d mode t → new ≡ old ++ t ∷ [] → AreNew d mode n old
    → AreNew d mode (n + 1) new
one_more d mode n old new t is more so_far =
    let P : List Term → Type 0 = λ xs. AreNew d mode (n + 1) xs in
    let number : length (old ++ t ∷ []) ≡ n + 1 = omega (arith, length-append old (t ∷ []), so_far.number) in
    subst P (sym more)
    (record { number = number; are_new = All-append (IsOver d mode) old (t ∷ []) so_far.are_new (All-cons (IsOver d mode) t [] is (All-nil (IsOver d mode))) })

pub all_made : (d : Draft) (mode : Mode) (n links : ℕ) (ts : List Term) → n ≡ links → AreNew d mode n ts → AreNew d mode links ts
all_made d mode n links ts all so_far = record { number = so_far.number ∙ all; are_new = so_far.are_new }
