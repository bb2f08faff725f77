-- A link set of new terminals.
use Rattle.std.proofs.Common.{◌≡◌, ◌∙◌, ℕ, ◌+◌, List, [], ◌∷◌, ◌++◌, length, length-append, Option, None, Some, Result, Ok, Err, IfOk, IfErr, refl, sym, ap, subst, arith}
use Rattle.std.specs.Prelude.{All}
use Rattle.std.proofs.lemmas.List.Elements.{All-nil, All-cons, All-append, All-weaker}
use Rattle.std.proofs.lemmas.Result.{IfOk-weaker}
use Rattle.turn_code.specs.declared.draft.Draft.{Draft}
use Rattle.script_links.specs.resend_store_types.messages.Mode.{Mode}
use Rattle.script_links.specs.resend_store_types.messages.RoundLimits.{RoundLimits}
use Rattle.script_ends.specs.Opening.{IsOverWithin, IsRefusedOver}
use Rattle.script_ends.specs.Term.{Term}
use Rattle.script_ends.specs.TermRuns.{PrintsLacking, LacksName}
use Rattle.script_ends.specs.link_term_types.opening.OpenError.{OpenError}
use Rattle.script_ends.specs.link_term_types.opening.OpenError.TheVariants.{NoName, NoMemory}
use Rattle.script_check.specs.Checked.{IsFound, IsGiven}
use Rattle.mtp2_text.specs.TextLimits.{limits_in}
use Rattle.script_check.specs.declared.sets.FoundSet.{FoundSet}
use Rattle.link_group.specs.New.{new_set}
use Rattle.line_tending.specs.Tended.{Tended, IsNewTended}
use Rattle.line_play.specs.Opening.{IsNoSet, by_name}
use Rattle.line_play.specs.SetOpening.{IsEmpty, LacksOne, AreNewTerminals, IsNewTenderOf, IsNewTenderOver}
use Rattle.line_play.specs.declared.link.opening.ChosenLimits.{ChosenLimits}
use Rattle.line_play.specs.declared.set.opening.SetPlan.{SetPlan}

unused : (d : Draft) (limits : RoundLimits) (mode : Mode) (t : Term) → IsOverWithin d limits mode t → IsEmpty t
unused d limits mode t new = ap (λ s. s.sender.kept) new.transceiver

pub all_unused : (d : Draft) (limits : RoundLimits) (mode : Mode) (count : ℕ) (ts : List Term) → AreNewTerminals d limits mode count ts → All IsEmpty ts
all_unused d limits mode count ts new = All-weaker (IsOverWithin d limits mode) IsEmpty (unused d limits mode) ts new.are_new

pub none_yet : (d : Draft) (limits : RoundLimits) (mode : Mode) (ts : List Term) → ts ≡ [] → AreNewTerminals d limits mode 0 ts
none_yet d limits mode ts none =
    subst (λ (xs : List Term). AreNewTerminals d limits mode 0 xs) (sym none) (record { number = refl; are_new = All-nil (IsOverWithin d limits mode) })

pub one_more : (d : Draft) (limits : RoundLimits) (mode : Mode) (n : ℕ) (old new : List Term) (t : Term) → IsOverWithin d limits mode t → new ≡ old ++ t ∷ []
    → AreNewTerminals d limits mode n old → AreNewTerminals d limits mode (n + 1) new
one_more d limits mode n old new t is more so_far =
    let number : length (old ++ t ∷ []) ≡ n + 1 = omega (arith, length-append old (t ∷ []), so_far.number) in
    subst (λ (xs : List Term). AreNewTerminals d limits mode (n + 1) xs) (sym more)
    (record { number = number; are_new = All-append (IsOverWithin d limits mode) old (t ∷ []) so_far.are_new (All-cons (IsOverWithin d limits mode) t [] is (All-nil (IsOverWithin d limits mode))) })

pub all_made : (d : Draft) (limits : RoundLimits) (mode : Mode) (n count : ℕ) (ts : List Term) → n ≡ count → AreNewTerminals d limits mode n ts
    → AreNewTerminals d limits mode count ts
all_made d limits mode n count ts all so_far = record { number = so_far.number ∙ all; are_new = so_far.are_new }

lacks_name : (d : Draft) (old new : Option (List ℕ)) (error : OpenError) → PrintsLacking error old new → LacksOne d error → LacksName d old new
lacks_name d old new (NoName name) printed lacks = record { name = name; lacks = lacks; printed = printed }
lacks_name d old new NoMemory printed lacks = absurd printed

pub lacking : (d : Draft) (error : OpenError) (old new : Option (List ℕ)) (status : ℕ) → LacksOne d error → (status ≡ 2 → PrintsLacking error old new) → status ≡ 2
    → LacksName d old new
lacking d error old new status lacks printed two = lacks_name d old new error (printed two) lacks

pub lacks_one : (d : Draft) (error : OpenError) → IsRefusedOver d error → LacksOne d error
lacks_one d (NoName name) lacks = lacks
lacks_one d NoMemory lacks = tt

pub tended_of : {E : Type 0} (r : Result Tended E) (plan : SetPlan) (limits : RoundLimits) (d : Draft) (ts : List Term) → AreNewTerminals d limits plan.mode plan.links ts
    → IfOk r (IsNewTended plan.ends plan.tests (new_set plan.ends.own plan.ends.peer ts)) → IfOk r (IsNewTenderOf plan limits d)
tended_of r plan limits d ts new tended =
    IfOk-weaker r (IsNewTended plan.ends plan.tests (new_set plan.ends.own plan.ends.peer ts)) (IsNewTenderOf plan limits d)
    (λ t is. record { terminals = ts; new = new; tended = is }) tended

pub tended_over : {E : Type 0} (r : Result Tended E) (plan : SetPlan) (limits : RoundLimits) (known : Option (List ℕ)) (found : FoundSet) → IsGiven known (λ bytes. IsFound bytes found)
    → limits_in plan.mode found.limits plan.limits.messages plan.limits.octets ≡ Some limits → IfOk r (IsNewTenderOf plan limits found.set) → IfOk r (λ (t : Tended). IsGiven known (IsNewTenderOver plan t))
tended_over r plan limits known found given are over =
    IfOk-weaker r (IsNewTenderOf plan limits found.set) (λ (t : Tended). IsGiven known (IsNewTenderOver plan t))
    (λ t is. record { bytes = given.bytes; are_known = given.are_known; holds = record { found = found; is_set = given.holds; limits = limits; are_limits = are; over = is } }) over

pub lacking_over : {A : Type 0} (r : Result A ℕ) (name : List ℕ) (chosen : ChosenLimits) (mode : Mode) (known old new : Option (List ℕ)) (found : FoundSet) (limits : RoundLimits)
    → IsGiven known (λ bytes. IsFound bytes found) → limits_in mode found.limits chosen.messages chosen.octets ≡ Some limits
    → IfErr r (λ (status : ℕ). status ≡ 2 → LacksName found.set old new) → IfErr r (λ (status : ℕ). status ≡ 2 → IsGiven known (IsNoSet name chosen mode old new))
lacking_over (Ok v) name chosen mode known old new found limits given are lacks = tt
lacking_over (Err status) name chosen mode known old new found limits given are lacks =
    λ two. record { bytes = given.bytes; are_known = given.are_known; holds = by_name found limits given.holds are (lacks two) }
