-- The signals of an end's actors, and level 3's holds there, are steps of a life.
use Rattle.std.proofs.Common.{◌≡◌, ℤ, true, false, Option, Some, None, slice_get, refl, ap, ◌∙◌, inl, inr}
use Rattle.std.specs.Prelude.{◌⊎◌}
use Rattle.plain_laws.proofs.Truths.{by_test}
use Rattle.resend_store.specs.declared.messages.Msu.{Msu}
use Rattle.resend_store.specs.Window.{emptied}
use Rattle.link_transceiver.specs.declared.signals.EnvSignal.{EnvSignal}
use Rattle.link_transceiver.specs.declared.signals.EnvSignal.TheVariants as signal
use Rattle.link_transceiver.specs.declared.signals.LineKind.{LineKind}
use Rattle.link_transceiver.specs.declared.signals.LinkStatus.{LinkStatus}
use Rattle.link_transceiver.specs.TransceiverState.{TransceiverState, is_held}
use Rattle.link_transceiver.specs.Effects.{effect, renewed, clears, directed, told, sends, kind_named, is_busy_named}
use Rattle.link_transceiver.specs.Reporting.{reported, message_reported, status_reported}
use Rattle.link_group.specs.Ends.{Ends, Lives, withholds, acknowledges, near_else, far_else, is_beginning, EndsHeed}

-- what no signal except a restart, no report and no hold changes
record Aside (h g : TransceiverState) : Type 0 where
  sender : g.sender ≡ h.sender
  spare : g.spare ≡ h.spare
  receiver : g.receiver ≡ h.receiver
  withheld : g.withheld ≡ h.withheld
  hold : g.hold ≡ h.hold
  began : g.began ≡ h.began

aside_same : (h : TransceiverState) → Aside h h
aside_same h = record { sender = refl; spare = refl; receiver = refl; withheld = refl; hold = refl; began = refl }

sends_aside : (k : Option LineKind) (h : TransceiverState) → Aside h (sends k h)
sends_aside (Some k) h = record { sender = refl; spare = refl; receiver = refl; withheld = refl; hold = refl; began = refl }
sends_aside None h = aside_same h

directed_aside : (number : ℤ) (h : TransceiverState) → Aside h (directed number h)
unfolding directed
directed_aside number h =
    by_test (λ (g : TransceiverState). Aside h g) (is_busy_named number) (record h { busy = true }) (sends (kind_named number) h)
    (λ e. record { sender = refl; spare = refl; receiver = refl; withheld = refl; hold = refl; began = refl }) (λ e. sends_aside (kind_named number) h)

status_aside : (h : TransceiverState) (o : Option LinkStatus) → Aside h (status_reported h o).transceiver
status_aside h (Some status) = record { sender = refl; spare = refl; receiver = refl; withheld = refl; hold = refl; began = refl }
status_aside h None = aside_same h

message_aside : (h : TransceiverState) (o : Option Msu) → Aside h (message_reported h o).transceiver
message_aside h (Some msu) = record { sender = refl; spare = refl; receiver = refl; withheld = refl; hold = refl; began = refl }
message_aside h None = status_aside h (slice_get h.statuses 0)

reported_aside : (h : TransceiverState) → Aside h (reported h).transceiver
unfolding reported
reported_aside h = message_aside h (slice_get h.messages 0)

near_aside : (x : Ends) (h : TransceiverState) → Aside x.near h → Lives x → Lives (record x { near = h })
near_aside x h a r = near_else x h r a.sender a.spare

far_aside : (x : Ends) (g : TransceiverState) → Aside x.far g → Lives x → Lives (record x { far = g })
far_aside x g a r = far_else x g r a.receiver a.withheld (λ held. ap is_held a.hold ∙ held)

-- ---- signals

near_told : (x : Ends) (s : EnvSignal) → is_beginning s ≡ false → Lives x → Lives (record x { near = effect s x.near })
unfolding effect told
near_told x signal.Fresh e r = let f : true ≡ false = e in absurd (cc)
near_told x (signal.Take on) e r = near_else x (record x.near { take = on }) r refl refl
near_told x (signal.Deliver on) e r = near_else x (record x.near { deliver = on }) r refl refl
near_told x (signal.Line number) e r = near_aside x (directed number x.near) (directed_aside number x.near) r
near_told x (signal.Withhold true) e r = near_else x (effect (signal.Withhold true) x.near) r refl refl
near_told x (signal.Withhold false) e r = near_else x (effect (signal.Withhold false) x.near) r refl refl
near_told x signal.InServiceNow e r = near_else x (effect signal.InServiceNow x.near) r refl refl
near_told x (signal.Down reason) e r = near_else x (effect (signal.Down reason) x.near) r refl refl
near_told x signal.RemoteOut e r = near_else x (effect signal.RemoteOut x.near) r refl refl
near_told x signal.RemoteBack e r = near_else x (effect signal.RemoteBack x.near) r refl refl
near_told x signal.Clear e r = near_else x (effect signal.Clear x.near) r refl refl
near_told x signal.Cleared e r = near_else x (effect signal.Cleared x.near) r refl refl

far_told : (x : Ends) (s : EnvSignal) → is_beginning s ≡ false → Lives x → Lives (record x { far = effect s x.far })
unfolding effect told
far_told x signal.Fresh e r = let f : true ≡ false = e in absurd (cc)
far_told x (signal.Take on) e r = far_else x (record x.far { take = on }) r refl refl (λ held. held)
far_told x (signal.Deliver on) e r = far_else x (record x.far { deliver = on }) r refl refl (λ held. held)
far_told x (signal.Line number) e r = far_aside x (directed number x.far) (directed_aside number x.far) r
far_told x (signal.Withhold true) e r = withholds x r
far_told x (signal.Withhold false) e r = acknowledges x r
far_told x signal.InServiceNow e r = far_else x (effect signal.InServiceNow x.far) r refl refl (λ held. held)
far_told x (signal.Down reason) e r = far_else x (effect (signal.Down reason) x.far) r refl refl (λ held. held)
far_told x signal.RemoteOut e r = far_else x (effect signal.RemoteOut x.far) r refl refl (λ held. held)
far_told x signal.RemoteBack e r = far_else x (effect signal.RemoteBack x.far) r refl refl (λ held. held)
far_told x signal.Clear e r = far_else x (effect signal.Clear x.far) r refl refl (λ held. held)
far_told x signal.Cleared e r = far_else x (effect signal.Cleared x.far) r refl refl (λ held. held)

pub began_stays : (s : EnvSignal) (h : TransceiverState) → is_beginning s ≡ false → (effect s h).began ≡ h.began
unfolding effect told
began_stays signal.Fresh h e = let f : true ≡ false = e in absurd (cc)
began_stays (signal.Take on) h e = refl
began_stays (signal.Deliver on) h e = refl
began_stays (signal.Line number) h e = (directed_aside number h).began
began_stays (signal.Withhold true) h e = refl
began_stays (signal.Withhold false) h e = refl
began_stays signal.InServiceNow h e = refl
began_stays (signal.Down reason) h e = refl
began_stays signal.RemoteOut h e = refl
began_stays signal.RemoteBack h e = refl
began_stays signal.Clear h e = refl
began_stays signal.Cleared h e = refl

pub begins_or_stays : (s : EnvSignal) → (s ≡ signal.Fresh) ⊎ (is_beginning s ≡ false)
begins_or_stays signal.Fresh = inl refl
begins_or_stays (signal.Take on) = inr refl
begins_or_stays (signal.Deliver on) = inr refl
begins_or_stays (signal.Line number) = inr refl
begins_or_stays (signal.Withhold on) = inr refl
begins_or_stays signal.InServiceNow = inr refl
begins_or_stays (signal.Down reason) = inr refl
begins_or_stays signal.RemoteOut = inr refl
begins_or_stays signal.RemoteBack = inr refl
begins_or_stays signal.Clear = inr refl
begins_or_stays signal.Cleared = inr refl

pub fresh_begins : (h : TransceiverState) → (effect signal.Fresh h).began ≡ true
unfolding effect renewed
fresh_begins h = refl

-- ---- holds by level 3, and clearing

far_cleared : (x : Ends) → Lives x → Lives (record x { far = clears x.far })
unfolding clears
far_cleared x r = far_else x (clears x.far) r refl refl (λ held. held)

pub ends_heed : EndsHeed
ends_heed = record {
  near_told = near_told;
  far_told = far_told;
  near_asked = λ x r. near_aside x (reported x.near).transceiver (reported_aside x.near) r;
  far_asked = λ x r. far_aside x (reported x.far).transceiver (reported_aside x.far) r;
  near_held = λ x hold r. near_else x (record x.near { hold = hold }) r refl refl;
  far_held = λ x hold e r. far_else x (record x.far { hold = hold }) r refl refl (λ held. e);
  far_cleared = far_cleared;
  far_emptied = λ x accepted r. far_else x (record x.far { sender = emptied x.far.sender accepted }) r refl refl (λ held. held);
}
