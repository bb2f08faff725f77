-- Messages that are retrieved and diverted.
use Rattle.std.proofs.Common.{◌≡◌, ℕ, List, length, Option, None, Err, sym, ap, subst, ◌∙◌}
use Rattle.link_group.specs.Set.{LinkSet}
use Rattle.link_group.specs.Changing.{retrieve_fault_at, after_retrieve, messages_for, abandon_fault_at, after_abandon, unsent_at}
use Rattle.link_group.specs.Diverting.{divert_fault, after_divert, divert_error_text}
use Rattle.link_group.specs.OneLink.{but_memory, abandon_refusal}
use Rattle.link_group.specs.declared.ending.DivertError.{DivertError}
use Rattle.group_changeover.specs.declared.errors.RetrieveError.{RetrieveError}
use Rattle.group_changeover.specs.declared.errors.AbandonError.{AbandonError}
use Rattle.group_changeover.specs.declared.errors.AbandonError.TheVariants as abandoning
use Rattle.script_ends.specs.GroupAnswers.{count_line, Retrieves, Abandons, said_by, Diverts, IsRetrieveLine, IsAbandonLine}
use Rattle.script_ends.specs.GroupAnswers as answers

-- ---- retrieved

retrieves_at : (l : ℕ) (c d w : LinkSet) (text said : List ℕ) → text ≡ said → d ≡ w → Retrieves l c said w → Retrieves l c text d
retrieves_at l c d w text said is makes was =
    let P : List ℕ → Type 0 = λ x. Retrieves l c x w in
    let Q : LinkSet → Type 0 = λ x. Retrieves l c text x in
    subst Q (sym makes) (subst P (sym is) was)

pub retrieved : (l n : ℕ) (c d : LinkSet) (text : List ℕ) → text ≡ count_line n → n ≡ length (messages_for c l) → None ≡ retrieve_fault_at c l
    → d ≡ after_retrieve c l → Retrieves l c text d
retrieved l n c d text is number fault makes = retrieves_at l c d _ text _ (is ∙ ap count_line number) makes (answers.retrieves_given (sym fault))

pub unretrieved : (l : ℕ) (c d : LinkSet) (e : RetrieveError) (text : List ℕ) → IsRetrieveLine e text → but_memory e ≡ retrieve_fault_at c l → d ≡ c
    → Retrieves l c text d
unretrieved l c d e text line fault makes = retrieves_at l c d _ text _ line.1 makes (answers.retrieves_refused e (sym fault ∙ line.0))

abandons_at : (l : ℕ) (c d w : LinkSet) (text said : List ℕ) → text ≡ said → d ≡ w → Abandons l c said w → Abandons l c text d
abandons_at l c d w text said is makes was =
    let P : List ℕ → Type 0 = λ x. Abandons l c x w in
    let Q : LinkSet → Type 0 = λ x. Abandons l c text x in
    subst Q (sym makes) (subst P (sym is) was)

pub abandoned : (l n : ℕ) (c d : LinkSet) (text : List ℕ) → text ≡ count_line n → n ≡ length (unsent_at c l) → None ≡ abandon_fault_at c l
    → d ≡ after_abandon c l → Abandons l c text d
abandoned l n c d text is number fault makes = abandons_at l c d _ text _ (is ∙ ap count_line number) makes (answers.abandons_given (sym fault))

abbrev pub IsRefusedBy : LinkSet → ℕ → AbandonError → Type 0
IsRefusedBy c l e = abandon_refusal {A = ℕ} (Err e) ≡ abandon_fault_at c l

pub unabandoned : (l : ℕ) (c d : LinkSet) (e : AbandonError) (text : List ℕ) → IsAbandonLine e text → IsRefusedBy c l e → d ≡ c → Abandons l c text d
unabandoned l c d abandoning.NoLink text line fault makes = abandons_at l c d _ text _ line makes (answers.abandons_refused abandoning.NoLink (sym fault))
unabandoned l c d abandoning.Waiting text line fault makes = abandons_at l c d _ text _ line makes (answers.abandons_refused abandoning.Waiting (sym fault))
unabandoned l c d abandoning.NoMemory text line fault makes = absurd line

-- ---- diverted

pub diverted : (l : ℕ) (c d : LinkSet) (o : Option DivertError) (text : List ℕ) → text ≡ said_by divert_error_text o → o ≡ divert_fault c l → d ≡ after_divert c l → Diverts l c text d
diverted l c d o text is fault makes = record { says = is ∙ ap (said_by divert_error_text) fault; makes = makes }
