use Rattle.std.proofs.Common.{◌≡◌, ℕ, List, None, refl}
use Rattle.std.specs.Prelude.{◌≢◌, codes}
use Rattle.script_links.specs.Orders.{order_of}
use Rattle.script_lines.proofs.NumberLemmas.{bytes_ne}
use Rattle.script_links.proofs.orders.order_in.Goals as goal

pub returns-in-power : goal.returns-in-power
unfolding order_of
returns-in-power c = rw c.in-power.is refl

pub returns-in-start : goal.returns-in-start
unfolding order_of
returns-in-start c = rw c.in-start.is refl

pub returns-in-stop : goal.returns-in-stop
unfolding order_of
returns-in-stop c = rw c.in-stop.is refl

pub returns-in-emergency : goal.returns-in-emergency
unfolding order_of
returns-in-emergency c = rw c.in-emergency.is refl

pub returns-in-calm : goal.returns-in-calm
unfolding order_of
returns-in-calm c = rw c.in-calm.is refl

pub returns-in-outage : goal.returns-in-outage
unfolding order_of
returns-in-outage c = rw c.in-outage.is refl

pub returns-in-back : goal.returns-in-back
unfolding order_of
returns-in-back c = rw c.in-back.is refl

pub returns-in-busy : goal.returns-in-busy
unfolding order_of
returns-in-busy c = rw c.in-busy.is refl

pub returns-in-free : goal.returns-in-free
unfolding order_of
returns-in-free c = rw c.in-free.is refl

pub returns-in-flush : goal.returns-in-flush
unfolding order_of
returns-in-flush c = rw c.in-flush.is refl

pub returns-in-continue : goal.returns-in-continue
unfolding order_of
returns-in-continue c = rw c.in-continue.is refl

pub returns-in-overload : goal.returns-in-overload
unfolding order_of
returns-in-overload c = rw c.in-overload.is refl

-- A word that is none of the orders.
no_order : (word : List ℕ)
    → word ≢ codes "power"
    → word ≢ codes "start"
    → word ≢ codes "stop"
    → word ≢ codes "emergency"
    → word ≢ codes "calm"
    → word ≢ codes "outage"
    → word ≢ codes "back"
    → word ≢ codes "busy"
    → word ≢ codes "free"
    → word ≢ codes "flush"
    → word ≢ codes "continue"
    → word ≢ codes "overload"
    → None ≡ order_of word
unfolding order_of
no_order word n_power n_start n_stop n_emergency n_calm n_outage n_back n_busy n_free n_flush n_continue n_overload =
    rw (
      bytes_ne word (codes "power") n_power,
      bytes_ne word (codes "start") n_start,
      bytes_ne word (codes "stop") n_stop,
      bytes_ne word (codes "emergency") n_emergency,
      bytes_ne word (codes "calm") n_calm,
      bytes_ne word (codes "outage") n_outage,
      bytes_ne word (codes "back") n_back,
      bytes_ne word (codes "busy") n_busy,
      bytes_ne word (codes "free") n_free,
      bytes_ne word (codes "flush") n_flush,
      bytes_ne word (codes "continue") n_continue,
      bytes_ne word (codes "overload") n_overload,
    ) refl

pub returns-in_default : goal.returns-in_default
returns-in_default c = no_order c.args.word.now c.in_default.not-power c.in_default.not-start c.in_default.not-stop c.in_default.not-emergency c.in_default.not-calm c.in_default.not-outage c.in_default.not-back c.in_default.not-busy c.in_default.not-free
    c.in_default.not-flush c.in_default.not-continue c.in_default.not-overload
