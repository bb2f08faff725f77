-- The effects of calls on a set.
use Rattle.std.proofs.Common.{◌≡◌, ℕ, ◌<◌, ◌≤◌, zero, suc, Bool, List, [], ◌∷◌, ◌++◌, length, get_or, Option, None, Some, refl, sym, ap, subst, ◌∙◌, arith, inl, inr}
use Rattle.std.specs.Prelude.{◌⊎◌, ◌↔◌, Result, Ok, Err, codes}
use Rattle.std.specs.Fmt.{decimal}
use Rattle.arrayvec.specs.ArrayVec.{ArrayVec}
use Rattle.resend_store.specs.declared.messages.Msu.{Msu}
use Rattle.link_term.specs.link_processes_types.commands.Command.{Command}
use Rattle.link_term.specs.declared.answers.CallError.{CallError}
use Rattle.link_term.specs.declared.answers.CallError.TheVariants as calling
use Rattle.group_changeover.specs.declared.changeover.Changeover.{Changeover}
use Rattle.su_octets.specs.Bits.{AreOctets}
use Rattle.group_changeover.specs.Changeovers.{Says}
use Rattle.link_group.specs.Set.{LinkSet, send_fault, sent, bind_fault_at, bound_at}
use Rattle.link_group.specs.Changing.{fail_fault, after_failure, order_at, IsReply}
use Rattle.link_group.specs.Lines.{ByCommand, IsCommandError, after_admission}
use Rattle.link_group.specs.Placing.{rebalance_fault, rebalanced}
use Rattle.group_changeover.specs.Printed.{send_error_text, bind_error_text, fail_error_text, rebalance_error_text}
use Rattle.link_group.specs.Ticking.{all_due}
use Rattle.link_group.specs.Ticks.{with_room, tick_fault, after_ticks, IsTickError}
use Rattle.link_group.specs.declared.commanding.CommandError.{CommandError}
use Rattle.link_group.specs.declared.commanding.CommandError.TheVariants as barring
use Rattle.group_changeover.specs.declared.errors.LinkError.{LinkError}
use Rattle.group_changeover.specs.declared.errors.LinkError.TheVariants as linking
use Rattle.group_changeover.specs.declared.errors.SendError.{SendError}
use Rattle.group_changeover.specs.declared.errors.BindError.{BindError}
use Rattle.group_changeover.specs.declared.errors.FailError.{FailError}
use Rattle.group_changeover.specs.declared.errors.RebalanceError.{RebalanceError}
use Rattle.script_ends.specs.TermAnswers.{IsMessageOf, IsRefusedLine}
use Rattle.script_ends.specs.GroupAnswers.{NO_LINK, said_by, set_by, octets_line, IsTold, IsBarredLine, Passes, IsSent, IsBoundTo, Fails, IsReplied, Rebalances, Admits}
use Rattle.script_ends.specs.GroupAnswers as answers

-- ---- lines

pub says_ok : {E : Type 0} (f : E → List ℕ) (o : Option E) (text : List ℕ) → text ≡ codes "ok" → None ≡ o → text ≡ said_by f o
says_ok f o text is fault = is ∙ ap (said_by f) fault

pub says_why : {E : Type 0} (f : E → List ℕ) (o : Option E) (e : E) (text : List ℕ) → text ≡ codes "refused " ++ f e → Some e ≡ o → text ≡ said_by f o
says_why f o e text is fault = is ∙ ap (said_by f) fault

pub makes_ok : {E : Type 0} (o : Option E) (d new old : LinkSet) → d ≡ new → None ≡ o → d ≡ set_by o new old
makes_ok o d new old makes fault = makes ∙ ap (λ p. set_by p new old) fault

pub makes_none : {E : Type 0} (o : Option E) (e : E) (d new old : LinkSet) → d ≡ old → Some e ≡ o → d ≡ set_by o new old
makes_none o e d new old makes fault = makes ∙ ap (λ p. set_by p new old) fault

-- ---- commands

told_at : (e : Command) (l : ℕ) (c d w : LinkSet) (text said : List ℕ) → text ≡ said → d ≡ w → IsTold e l c said w → IsTold e l c text d
told_at e l c d w text said is makes told =
    let P : List ℕ → Type 0 = λ x. IsTold e l c x w in
    let Q : LinkSet → Type 0 = λ x. IsTold e l c text x in
    subst Q (sym makes) (subst P (sym is) told)

pub told_taken : (e f : Command) (l : ℕ) (c d : LinkSet) (text : List ℕ) → e ≡ f → text ≡ codes "ok" → ByCommand e l c d → IsTold f l c text d
told_taken e f l c d text same is by =
    let P : Command → Type 0 = λ x. IsTold x l c text d in
    subst P same (told_at e l c d d text (codes "ok") is refl (answers.told_taken d by))

told_error : (e : Command) (l : ℕ) (c d : LinkSet) (text : List ℕ) (x : CommandError) → IsBarredLine x text → IsCommandError e l c d x → IsTold e l c text d
told_error e l c d text barring.NoLink is was = told_at e l c d c text _ is was.1 (answers.told_nowhere was.0)
told_error e l c d text barring.Waiting is was =
    told_at e l c d c text _ is was.1 (answers.told_waits was.0.at.before was.0.at.there was.0.at.was.bars)
told_error e l c d text (barring.Refused r) is was = told_at e l c d d text _ is refl (answers.told_refused r d was)
told_error e l c d text barring.NoMemory is was = absurd is

pub told_refused : (e f : Command) (l : ℕ) (c d : LinkSet) (text : List ℕ) (x : CommandError) → e ≡ f → IsBarredLine x text → IsCommandError e l c d x
    → IsTold f l c text d
told_refused e f l c d text x same is was = let P : Command → Type 0 = λ y. IsTold y l c text d in subst P same (told_error e l c d text x is was)

-- ---- ticks

passes_at : (n : ℕ) (c d w : LinkSet) (text said : List ℕ) → text ≡ said → d ≡ w → Passes n c said w → Passes n c text d
passes_at n c d w text said is makes passes =
    let P : List ℕ → Type 0 = λ x. Passes n c x w in
    let Q : LinkSet → Type 0 = λ x. Passes n c text x in
    subst Q (sym makes) (subst P (sym is) passes)

pub ticks_pass : (n m : ℕ) (c d : LinkSet) (text : List ℕ) (due : ℕ) → m ≡ n → text ≡ codes "ok due " ++ decimal due → due ≡ all_due m (with_room c.links)
    → tick_fault m c ≡ None → d ≡ after_ticks m c → Passes n c text d
ticks_pass n m c d text due same is all none makes =
    let P : ℕ → Type 0 = λ k. Passes k c text d in
    subst P same (passes_at m c d _ text _ (is ∙ ap (λ k. codes "ok due " ++ decimal k) all) makes (answers.passed none))

ticks_wait_by : (n : ℕ) (c d : LinkSet) (text : List ℕ) (x : CallError) → IsRefusedLine x text → IsTickError n c d x → Passes n c text d
ticks_wait_by n c d text (calling.Refused r) is was = passes_at n c d _ text _ is was.1 (answers.held_up r was.0)
ticks_wait_by n c d text calling.NoMemory is was = absurd is

pub ticks_wait : (n m : ℕ) (c d : LinkSet) (text : List ℕ) (x : CallError) → m ≡ n → IsRefusedLine x text → IsTickError m c d x → Passes n c text d
ticks_wait n m c d text x same is was = let P : ℕ → Type 0 = λ k. Passes k c text d in subst P same (ticks_wait_by m c d text x is was)

-- ---- messages

pub sent_ok : (octets : List ℕ) (c d : LinkSet) (m : Msu) (text : List ℕ) → IsMessageOf octets m → text ≡ codes "ok" → None ≡ send_fault c m
    → d ≡ sent c m → IsSent octets c text d
sent_ok octets c d m text are is fault makes =
    record {
      msu = m;
      octets_are = are;
      says = says_ok send_error_text (send_fault c m) text is fault;
      makes = makes_ok (send_fault c m) d (sent c m) c makes fault;
    }

pub sent_why : (octets : List ℕ) (c d : LinkSet) (m : Msu) (e : SendError) (text : List ℕ) → IsMessageOf octets m
    → text ≡ codes "refused " ++ send_error_text e → Some e ≡ send_fault c m → d ≡ c → IsSent octets c text d
sent_why octets c d m e text are is fault makes =
    record {
      msu = m;
      octets_are = are;
      says = says_why send_error_text (send_fault c m) e text is fault;
      makes = makes_none (send_fault c m) e d (sent c m) c makes fault;
    }

-- ---- messages that are bound to a link

pub bound_ok : (octets : List ℕ) (l : ℕ) (c d : LinkSet) (m : Msu) (text : List ℕ) → IsMessageOf octets m → text ≡ codes "ok" → None ≡ bind_fault_at c l
    → d ≡ bound_at c l m → IsBoundTo octets l c text d
bound_ok octets l c d m text is_message is fault makes =
    record {
      msu = m;
      octets_are = is_message;
      says = says_ok bind_error_text (bind_fault_at c l) text is fault;
      makes = makes_ok (bind_fault_at c l) d (bound_at c l m) c makes fault;
    }

pub bound_why : (octets : List ℕ) (l : ℕ) (c d : LinkSet) (m : Msu) (e : BindError) (text : List ℕ) → IsMessageOf octets m
    → text ≡ codes "refused " ++ bind_error_text e → Some e ≡ bind_fault_at c l → d ≡ c → IsBoundTo octets l c text d
bound_why octets l c d m e text is_message is fault makes =
    record {
      msu = m;
      octets_are = is_message;
      says = says_why bind_error_text (bind_fault_at c l) e text is fault;
      makes = makes_none (bind_fault_at c l) e d (bound_at c l m) c makes fault;
    }

-- ---- changeover

pub octets_fit : (octets : List ℕ) → ((i : ℕ) → get_or octets i 0 < 256) → AreOctets octets
octets_fit [] fit = tt
octets_fit (o ∷ os) fit = (fit 0, octets_fit os (λ i. fit (suc i)))

fails_at : (l : ℕ) (c d w : LinkSet) (text said : List ℕ) → text ≡ said → d ≡ w → Fails l c said w → Fails l c text d
fails_at l c d w text said is makes fails =
    let P : List ℕ → Type 0 = λ x. Fails l c x w in
    let Q : LinkSet → Type 0 = λ x. Fails l c text x in
    subst Q (sym makes) (subst P (sym is) fails)

pub fails_ok : (l : ℕ) (c d : LinkSet) (octets sif text : List ℕ) → octets ≡ sif → AreOctets sif → text ≡ octets_line octets
    → None ≡ fail_fault c l → Says sif (order_at c l) → d ≡ after_failure c l → Fails l c text d
fails_ok l c d octets sif text same fit is fault says makes =
    fails_at l c d _ text _ (is ∙ ap octets_line same) makes (answers.fails_begins sif (sym fault) fit says)

pub fails_why : (l : ℕ) (c d : LinkSet) (e : FailError) (text : List ℕ) → text ≡ codes "refused " ++ fail_error_text e → Some e ≡ fail_fault c l → d ≡ c
    → Fails l c text d
fails_why l c d e text is fault makes = fails_at l c d _ text _ is makes (answers.fails_refused e (sym fault))

pub replied_with : (o : Option Changeover) (octets : List ℕ) (sif : ArrayVec ℕ) (text : List ℕ) → octets ≡ sif.items
    → AreOctets sif.items → text ≡ octets_line octets → IsReply o (Some sif) → IsReplied o text
replied_with None octets sif text same fit is reply = absurd reply
replied_with (Some m) octets sif text same fit is reply =
    (sif.items, fit, reply, is ∙ ap octets_line same)

pub replied_none : (o : Option Changeover) (text : List ℕ) → text ≡ codes "ok" → IsReply o None → IsReplied o text
replied_none None text is reply = is
replied_none (Some m) text is reply = absurd reply

pub rebalanced_ok : (c d : LinkSet) (text : List ℕ) → text ≡ codes "ok" → None ≡ rebalance_fault c → d ≡ rebalanced c → Rebalances c text d
rebalanced_ok c d text is fault makes =
    record {
      says = says_ok rebalance_error_text (rebalance_fault c) text is fault;
      makes = makes_ok (rebalance_fault c) d (rebalanced c) c makes fault;
    }

pub rebalanced_why : (c d : LinkSet) (e : RebalanceError) (text : List ℕ) → text ≡ codes "refused " ++ rebalance_error_text e
    → Some e ≡ rebalance_fault c → d ≡ c → Rebalances c text d
rebalanced_why c d e text is fault makes =
    record {
      says = says_why rebalance_error_text (rebalance_fault c) e text is fault;
      makes = makes_none (rebalance_fault c) e d (rebalanced c) c makes fault;
    }

-- ---- level 3 admits a link

admits_at : (way : Bool) (l : ℕ) (c d w : LinkSet) (text said : List ℕ) → text ≡ said → d ≡ w → Admits way l c said w → Admits way l c text d
admits_at way l c d w text said is makes was =
    let P : List ℕ → Type 0 = λ x. Admits way l c x w in
    let Q : LinkSet → Type 0 = λ x. Admits way l c text x in
    subst Q (sym makes) (subst P (sym is) was)

order : (n l : ℕ) → (l < n) ⊎ (n ≤ l)
order zero l = inr (omega arith)
order (suc n) zero = inl (omega arith)
order (suc n) (suc l) = more (order n l)
  where
    more : (l < n) ⊎ (n ≤ l) → (suc l < suc n) ⊎ (suc n ≤ suc l)
    more (inl h) = inl (omega (arith, h))
    more (inr h) = inr (omega (arith, h))

there : {A E : Type 0} (x : A) (e : E) (n l : ℕ) → (Ok x ≡ Err e) ↔ (n ≤ l) → l < n
there x e n l iff = by (order n l)
  where
    by : (l < n) ⊎ (n ≤ l) → l < n
    by (inl h) = h
    by (inr h) = let f : Ok x ≡ Err e = iff.1 h in cc

nowhere : {A : Type 0} (r : Result A LinkError) (e : LinkError) (n l : ℕ) → r ≡ Err e → (r ≡ Err linking.NoLink) ↔ (n ≤ l) → n ≤ l
nowhere r linking.NoLink n l is iff = iff.0 is

pub admits_ok : {A E : Type 0} (x : A) (e : E) (way : Bool) (l : ℕ) (c d : LinkSet) (text : List ℕ) → (Ok x ≡ Err e) ↔ (length c.links ≤ l) → text ≡ codes "ok" → d ≡ after_admission c l way
    → Admits way l c text d
admits_ok x e way l c d text fault is makes =
    admits_at way l c d (after_admission c l way) text (codes "ok") is makes (answers.admits_one (there x e (length c.links) l fault))

pub admits_nowhere : {A : Type 0} (r : Result A LinkError) (e : LinkError) (way : Bool) (l : ℕ) (c d : LinkSet) (text : List ℕ) → r ≡ Err e → (r ≡ Err linking.NoLink) ↔ (length c.links ≤ l) → text ≡ NO_LINK → d ≡ c
    → Admits way l c text d
admits_nowhere r e way l c d text was fault is makes = admits_at way l c d c text NO_LINK is makes (answers.admits_nowhere (nowhere r e (length c.links) l was fault))
