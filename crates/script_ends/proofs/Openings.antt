-- New terminals.
use Rattle.std.proofs.Common.{◌≡◌, ℕ, ◌+◌, List, [], ◌∷◌, ◌++◌, length, length-append, Option, refl, sym, ap, subst, arith, ◌∙◌}
use Rattle.std.specs.Prelude.{All}
use Rattle.std.proofs.lemmas.List.Elements.{All-nil, All-cons, All-append, All-weaker}
use Rattle.resend_store.specs.declared.messages.Mode.{Mode}
use Rattle.turn_code.specs.declared.draft.Draft.{Draft}
use Rattle.resend_store.specs.declared.messages.RoundLimits.{RoundLimits}
use Rattle.link_term.specs.Term.{Term}
use Rattle.link_term.specs.Opening.{IsOverWithin}
use Rattle.link_term.specs.Kept.{window_of}
use Rattle.script_links.specs.declared.heads.GroupHead.{GroupHead}
use Rattle.link_term.specs.declared.opening.OpenError.{OpenError}
use Rattle.link_term.specs.declared.opening.OpenError.TheVariants.{NoName, NoMemory}
use Rattle.script_ends.specs.TermRuns.{PrintsLacking, LacksName}
use Rattle.script_ends.specs.GroupRuns.{AreNew, LacksOne}

-- The terminal holds no message.
abbrev pub IsEmpty : Term → Type 0
IsEmpty t = (window_of t).kept ≡ []

-- A new terminal holds no message.
unused : (d : Draft) (limits : RoundLimits) (mode : Mode) (t : Term) → IsOverWithin d limits mode t → IsEmpty t
unused d limits mode t new = ap (λ s. s.sender.kept) new.transceiver

pub all_unused : (d : Draft) (limits : RoundLimits) (head : GroupHead) (ts : List Term) → AreNew d limits head ts → All IsEmpty ts
all_unused d limits head ts new = All-weaker (IsOverWithin d limits head.mode) IsEmpty (unused d limits head.mode) ts new.are_new

-- `n` new terminals so far.
pub record AreSoFar (d : Draft) (limits : RoundLimits) (mode : Mode) (n : ℕ) (ts : List Term) : Type 0 where
  pub number : length ts ≡ n
  pub are_new : All (IsOverWithin d limits mode) ts

pub none_yet : (d : Draft) (limits : RoundLimits) (mode : Mode) (ts : List Term) → ts ≡ [] → AreSoFar d limits mode 0 ts
none_yet d limits mode ts none =
    let P : List Term → Type 0 = λ xs. AreSoFar d limits mode 0 xs in
    subst P (sym none) (record { number = refl; are_new = All-nil (IsOverWithin d limits mode) })

pub one_more : (d : Draft) (limits : RoundLimits) (mode : Mode) (n : ℕ) (old new : List Term) (t : Term) → IsOverWithin d limits mode t → new ≡ old ++ t ∷ []
    → AreSoFar d limits mode n old → AreSoFar d limits mode (n + 1) new
one_more d limits mode n old new t is more so_far =
    let P : List Term → Type 0 = λ xs. AreSoFar d limits mode (n + 1) xs in
    let number : length (old ++ t ∷ []) ≡ n + 1 = omega (arith, length-append old (t ∷ []), so_far.number) in
    subst P (sym more)
    (record { number = number; are_new = All-append (IsOverWithin d limits mode) old (t ∷ []) so_far.are_new (All-cons (IsOverWithin d limits mode) t [] is (All-nil (IsOverWithin d limits mode))) })

pub all_made : (d : Draft) (limits : RoundLimits) (head : GroupHead) (n : ℕ) (ts : List Term) → n ≡ head.links → AreSoFar d limits head.mode n ts → AreNew d limits head ts
all_made d limits head n ts all so_far = record { number = so_far.number ∙ all; are_new = so_far.are_new }

-- ---- no terminal

pub lacks_name : (d : Draft) (old new : Option (List ℕ)) (error : OpenError) → PrintsLacking error old new → LacksOne d error → LacksName d old new
lacks_name d old new (NoName name) printed lacks = record { name = name; lacks = lacks; printed = printed }
lacks_name d old new NoMemory printed lacks = absurd printed
