-- Orders to a link set, carried out and reported.
use Rattle.std.proofs.Common.{◌≡◌, ◌∙◌, ℕ, Bool, true, false, List, [], ◌∷◌, ◌++◌, codes, Option, None, Some, Result, Ok, Err, OnOk, IfOk, IsSome, IsNone, append-nil, true≢false, refl, sym, ap, subst}
use Rattle.std.proofs.lemmas.Result.{on_ok_weaker}
use Rattle.line_filter.specs.Desks.{Told as TellsSuch}
use Rattle.line_filter.specs.Reporting.{Stand, ToldLine, TellsLines}
use Rattle.line_filter.proofs.Reporting.{tells_trans}
use Rattle.line_tending.specs.Rounds.{AddsOrders}
use Rattle.line_play.specs.declared.set.orders.SetOrder.{SetOrder}
use Rattle.line_play.specs.declared.set.orders.SetOrder.TheVariants as order
use Rattle.line_play.specs.SetDoing.{Stood, answered, links_at, lacks_links, NO_LINK, Changes, Refuses, MayShow}
use Rattle.script_lines.specs.Words.{words_of}
use Rattle.line_play.specs.SetGiven.{PlainSaid, is_ignored, is_set_report, is_on}
use Rattle.line_play.specs.declared.set.orders.Focus.TheVariants.{Nothing}
use Rattle.line_play.specs.SetShowing.{shows, answer_lines}
use Rattle.line_play.specs.SetObeying.{words_behind, unselected, unselected_by, refusal_line, ObeysThere, does_so, refuses_so, Obeys, does, lacks_some}
use Rattle.line_play.specs.SetOrders.{PlainSetOrder, plain_set_order, is_send}

-- a refused message isn't sent
pub never_none : {A E : Type 0} (r : Result (Option A) E) (P : Type 0) → IfOk r (λ (o : Option A). IsSome o) → IfOk r (λ (o : Option A). IsNone o → P)
never_none (Ok None) P some = λ none. absurd (true≢false (sym some))
never_none (Ok (Some x)) P some = λ none. absurd (true≢false none)
never_none (Err e) P some = tt

-- ---- the messages that orders send

-- an order that isn't `send` sends nothing
pub quiet : (s : SetOrder) → ((octets : _) → s ≡ order.Send octets → ⊥) → is_send (plain_set_order s) ≡ false
quiet (order.On focus) not = refl
quiet (order.Link obeyed) not = refl
quiet (order.State process) not = refl
quiet (order.Value process variable) not = refl
quiet (order.Measure measure) not = refl
quiet order.Aborted not = refl
quiet order.Measures not = refl
quiet order.Reset not = refl
quiet (order.Send octets) not = absurd (not octets refl)
quiet order.Table not = refl
quiet order.Held not = refl
quiet order.Unsure not = refl
quiet order.Rebalance not = refl
quiet order.Reopen not = refl
quiet order.Quit not = refl
quiet (order.Leave seconds) not = refl

-- ---- a refusal, as reported

-- the order's words follow the reason if the order has no tag and some words
pub bare_text : (p : Stood) (order why text : List ℕ) → p.mark ≡ [] → (order ≡ [] → ⊥) → text ≡ codes "refused " ++ (why ++ (codes " " ++ order))
    → text ≡ codes "refused " ++ (why ++ words_behind p.mark order)
bare_text p [] why text none_there some is = absurd (some refl)
bare_text p (b ∷ bs) why text none_there some is = is ∙ ap (λ (m : List ℕ). codes "refused " ++ (why ++ words_behind m (b ∷ bs))) (sym none_there)

quiet_behind : (mark order : List ℕ) → (mark ≡ [] → order ≡ []) → words_behind mark order ≡ []
quiet_behind [] order none_there = ap (words_behind []) (none_there refl)
quiet_behind (b ∷ bs) [] none_there = refl
quiet_behind (b ∷ bs) (c ∷ cs) none_there = refl

pub marked_text : (p : Stood) (order why text : List ℕ) → (p.mark ≡ [] → order ≡ []) → text ≡ codes "refused " ++ why
    → text ≡ codes "refused " ++ (why ++ words_behind p.mark order)
marked_text p order why text none_there is = is ∙ ap (λ (xs : List ℕ). codes "refused " ++ xs) (sym (append-nil why) ∙ ap (λ (xs : List ℕ). why ++ xs) (sym (quiet_behind p.mark order none_there)))

-- ---- words that are no order

pub never_ignored : (mark text : List ℕ) → (mark ≡ [] → ⊥) → false ≡ is_ignored mark text
never_ignored [] text some = absurd (some refl)
never_ignored (b ∷ mark) text some = refl

pub ignored_so : {E : Type 0} (r : Result Bool E) (mark text : List ℕ) → mark ≡ [] → IfOk r (λ (b : Bool). b ≡ is_set_report (words_of text))
    → IfOk r (λ (b : Bool). b ≡ is_ignored mark text)
ignored_so (Ok b) mark text none_there is = is ∙ sym (ap (λ (m : List ℕ). is_ignored m text) none_there)
ignored_so (Err e) mark text none_there is = tt

pub kept_so : (text : List ℕ) (p : Stood) (b : Bool) → b ≡ is_on (words_of text) → b ≡ false → p ≡ unselected text p
kept_so text p b is denied = sym (ap (λ (x : Bool). unselected_by x p) (sym is ∙ denied))

pub unselected_so : (text : List ℕ) (p : Stood) (b : Bool) → b ≡ is_on (words_of text) → b ≡ true → record p { focus = Nothing } ≡ unselected text p
unselected_so text p b is shown = sym (ap (λ (x : Bool). unselected_by x p) (sym is ∙ shown))

-- ---- an order is obeyed

pub refused_so : {A E : Type 0} (r : Result A E) (order text why : List ℕ) (what : PlainSetOrder) (whom : List ℕ) (p q : Stood) (a b : Stand) → text ≡ why
    → AddsOrders p.tender q.tender → Refuses what whom p why q
    → OnOk r (TellsLines a b (refusal_line q order text)) → OnOk r (TellsSuch (λ bytes. ObeysThere order what whom p bytes q) a b)
refused_so r order text why what whom p q a b text_is adds may line =
    on_ok_weaker r
    (λ (l : TellsLines a b (refusal_line q order text)). record {
      bytes = refusal_line q order text;
      are = refuses_so text adds (subst (λ (w : List ℕ). Refuses what whom p w q) (sym text_is) may);
      tells = l;
    })
    line

pub agreed_so : {A E : Type 0} (r : Result A E) (order : List ℕ) (what : PlainSetOrder) (whom : List ℕ) (p q : Stood) (a b : Stand)
    → MayShow what whom p.tender → AddsOrders p.tender q.tender → Changes what whom p q
    → OnOk r (TellsLines a b (answer_lines what whom q order)) → OnOk r (TellsSuch (λ bytes. ObeysThere order what whom p bytes q) a b)
agreed_so r order what whom p q a b may adds changes answer =
    on_ok_weaker r
    (λ (l : TellsLines a b (answer_lines what whom q order)). record { bytes = answer_lines what whom q order; are = does_so may adds changes; tells = l })
    answer

-- its links don't exist
pub lacking : {A E : Type 0} (r : Result A E) (order : List ℕ) (said : PlainSaid) (p : Stood) (a b : Stand) → is_send said.order ≡ false → lacks_links said p ≡ true
    → OnOk r (TellsLines a b (refusal_line p order NO_LINK)) → OnOk r (TellsSuch (λ bytes. Obeys order (Some said) p bytes p) a b)
lacking r order said p a b none_sent none_there line =
    on_ok_weaker r
    (λ (l : TellsLines a b (refusal_line p order NO_LINK)). record { bytes = refusal_line p order NO_LINK; are = lacks_some said refl none_sent none_there; tells = l })
    line

-- its links exist
pub there_so : {A E : Type 0} (r : Result A E) (order : List ℕ) (said : PlainSaid) (whom : List ℕ) (p q : Stood) (a b : Stand) → is_send said.order ≡ false
    → lacks_links said p ≡ false → whom ≡ links_at said p → OnOk r (TellsSuch (λ bytes. ObeysThere order said.order whom p bytes q) a b)
    → OnOk r (TellsSuch (λ bytes. Obeys order (Some said) p bytes q) a b)
there_so r order said whom p q a b none_sent there links_are made =
    on_ok_weaker r
    (λ (h : TellsSuch (λ bytes. ObeysThere order said.order whom p bytes q) a b). record {
      bytes = h.bytes;
      are = does said refl none_sent there (subst (λ (ls : List ℕ). ObeysThere order said.order ls p h.bytes q) links_are h.are);
      tells = h.tells;
    })
    made

pub answered_so : {A E : Type 0} (r : Result A E) (said : PlainSetOrder) (whom : List ℕ) (p : Stood) (order : List ℕ) (a b c : Stand)
    → TellsLines a b (answered p (codes "ok " ++ order)) → OnOk r (TellsLines b c (shows said whom p)) → OnOk r (TellsLines a c (answer_lines said whom p order))
answered_so r said whom p order a b c agreed asked =
    on_ok_weaker r (λ (l : TellsLines b c (shows said whom p)). tells_trans a b c (answered p (codes "ok " ++ order)) (shows said whom p) agreed l) asked

-- the reports began at an equal state
pub begun_at : {A E : Type 0} (r : Result A E) (R : List ToldLine → Type 0) (a b c : Stand) → b ≡ a → OnOk r (TellsSuch R b c) → OnOk r (TellsSuch R a c)
begun_at r R a b c same made = subst (λ (s : Stand). OnOk r (TellsSuch R s c)) same made

-- an option that holds no value is `None`
pub not_some : {A : Type 0} (o : Option A) (P : Type 0) → ((a : A) → o ≡ Some a → ⊥) → (IsNone o → P) → P
not_some None P no_more h = h refl
not_some (Some a) P no_more h = absurd (no_more a refl)

-- a property carries over to an equal value
pub moved : {A : Type 0} (x y : A) → x ≡ y → (P : A → Type 0) → P x → P y
moved x y e P h = subst P e h

pub not_both : (b : Bool) → b ≡ false → b ≡ true → ⊥
not_both b denied shown = absurd (true≢false (sym shown ∙ denied))
