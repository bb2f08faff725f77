-- The life of a gateway: what happens to it, and what becomes of the messages of both directions.
use Rattle.std.specs.Prelude.{◌≡◌, ℕ, ◌+◌, ◌/◌, ◌%◌, ◌≤◌, ◌==◌, ◌&&◌, min, nat_lt, nat_le, not}
use Rattle.std.specs.Prelude.{Bool, true, false}
use Rattle.std.specs.Prelude.{if◌then◌else◌, count_by}
use Rattle.std.specs.Prelude.{Option, Some, None, List, [], ◌∷◌, ◌++◌, length}
use Rattle.std.specs.List.{filter, list_any}
use Rattle.resend_store.specs.declared.messages.Msu.{Msu}
use Rattle.m3ua_gateway.specs.declared.states.State.{State}
use Rattle.m3ua_gateway.specs.declared.states.State.TheVariants as state
use Rattle.m3ua_gateway.specs.declared.table.Action.{Action}
use Rattle.m3ua_gateway.specs.declared.table.Action.TheVariants as action
use Rattle.m3ua_gateway.specs.declared.table.Happening.{Happening}
use Rattle.m3ua_gateway.specs.declared.table.Happening.TheVariants as happening
use Rattle.m3ua_gateway.specs.States.{server_in, is_pending}
use Rattle.m3ua_gateway.specs.Table.{step}

-- the most messages that are kept while the AS is pending
abbrev pub MOST_KEPT : ℕ
MOST_KEPT = 256

-- the most messages of the ASP that wait for the set
abbrev pub MOST_WAITING : ℕ
MOST_WAITING = 1024

-- what a gateway holds
pub record Holds : Type 0 where
  pub state : State
  -- messages that the set delivered, for the ASP
  pub kept : List Msu
  -- messages of the ASP, for the set
  pub waiting : List Msu

-- what may happen
pub data Deed : Type 0 where
  -- a happening of the table; DATA that carries a message for level 4 comes instead
  happens : Happening → Deed
  -- DATA with our routing context, or with none, that carries this message for level 4
  comes : Msu → Deed
  -- the set delivered this message
  delivers : Msu → Deed
  -- the set took the first waiting message of a selection
  takes : ℕ → Deed
  -- the set refused the first waiting message of a selection for good
  drops : ℕ → Deed

-- what came of a life: what the gateway holds; the messages that the set delivered, that were sent
-- as DATA, that were lost; the messages that came as DATA, that the set took, that were refused,
-- each list in order; and how many other DATA were refused
pub record Life : Type 0 where
  pub holds : Holds
  pub delivered : List Msu
  pub sent : List Msu
  pub lost : List Msu
  pub came : List Msu
  pub taken : List Msu
  pub refused : List Msu
  pub strange : ℕ

-- a life from here on, of which nothing is told yet
abbrev pub standing : Holds → Life
standing h = record {
  holds = h;
  delivered = [];
  sent = [];
  lost = [];
  came = [];
  taken = [];
  refused = [];
  strange = 0;
}

abbrev pub born : Life
born = standing (record { state = state.Down; kept = []; waiting = [] })

abbrev pub is_release : Action → Bool
is_release action.Release = true
is_release _ = false

abbrev pub is_loss : Action → Bool
is_loss action.Lose = true
is_loss _ = false

-- what was kept, if there is such an action
abbrev pub if_some : (Action → Bool) → List Action → List Msu → List Msu
if_some test actions kept = if list_any test actions then kept else []

-- DATA that is refused whatever the state is: no message for level 4, another routing context,
-- octets that are no message; and DATA whose message doesn't come
abbrev pub strange_in : Happening → ℕ
strange_in happening.Data = 1
strange_in happening.OtherData = 1
strange_in happening.LongData = 1
strange_in happening.StrayData = 1
strange_in happening.RefusedData = 1
strange_in _ = 0

-- What was kept is sent, is thrown away, or stays.
abbrev pub after_happening : Life → State → List Action → ℕ → Life
after_happening l s actions strange = record l {
  holds = record l.holds {
    state = s;
    kept = if list_any is_release actions then []
        else (if list_any is_loss actions then [] else l.holds.kept);
  };
  sent = l.sent ++ if_some is_release actions l.holds.kept;
  lost = l.lost
      ++ (if list_any is_release actions then [] else if_some is_loss actions l.holds.kept);
  strange = l.strange + strange;
}

-- DATA is taken where the table takes it; else it is refused, and counted.
abbrev pub after_coming : Life → Msu → State → Life
after_coming l m state.Active = record l {
  holds = record l.holds { waiting = l.holds.waiting ++ m ∷ [] };
  came = l.came ++ m ∷ [];
}
after_coming l m _ = record l { came = l.came ++ m ∷ []; refused = l.refused ++ m ∷ [] }

-- what the set delivers while the AS is pending
abbrev pub while_pending : Life → Msu → Life
while_pending l m =
    if nat_lt (length l.holds.kept) MOST_KEPT
    then record l {
      holds = record l.holds { kept = l.holds.kept ++ m ∷ [] };
      delivered = l.delivered ++ m ∷ [];
    }
    else record l { delivered = l.delivered ++ m ∷ []; lost = l.lost ++ m ∷ [] }

-- A message that the set delivers is sent while the AS is active, kept while it is pending and
-- there is room, and lost otherwise.
abbrev pub after_delivery : Life → Msu → State → Life
after_delivery l m state.Active =
    record l { delivered = l.delivered ++ m ∷ []; sent = l.sent ++ m ∷ [] }
after_delivery l m state.DownPending = while_pending l m
after_delivery l m state.InactivePending = while_pending l m
after_delivery l m state.Down =
    record l { delivered = l.delivered ++ m ∷ []; lost = l.lost ++ m ∷ [] }
after_delivery l m state.Inactive =
    record l { delivered = l.delivered ++ m ∷ []; lost = l.lost ++ m ∷ [] }

-- whether a message can be DATA: it has a routing label (Q.704, 2.2), and a service indicator of 3
-- or more, so that it is for level 4 (Q.704, 14.2.1)
abbrev pub is_fit : Msu → Bool
is_fit m = nat_le 4 (length m.sif.items) && nat_le 3 (m.sio % 16)

-- A message that can't be DATA is lost in each state.
abbrev pub for_delivery : Msu → State → State
for_delivery m s = if is_fit m then s else state.Down

-- ---- queues

-- the selection in a message's label: the upper half of its fourth octet
abbrev pub selection_in : List ℕ → ℕ
selection_in (a ∷ b ∷ c ∷ d ∷ others) = d / 16
selection_in _ = 0

abbrev pub is_of : ℕ → Msu → Bool
is_of selection m = selection_in m.sif.items == selection

-- the first message of a selection, and what waits without it
abbrev pub first_of : ℕ → List Msu → Option Msu
first_of selection [] = None
first_of selection (m ∷ ms) = if is_of selection m then Some m else first_of selection ms

abbrev pub without_first : ℕ → List Msu → List Msu
without_first selection [] = []
without_first selection (m ∷ ms) =
    if is_of selection m then ms else m ∷ without_first selection ms

-- whether one waits
abbrev pub is_there : ℕ → List Msu → Bool
is_there selection ms = list_any (is_of selection) ms

abbrev pub after_taking : Life → ℕ → Option Msu → Life
after_taking l selection None = l
after_taking l selection (Some m) = record l {
  holds = record l.holds { waiting = without_first selection l.holds.waiting };
  taken = l.taken ++ m ∷ [];
}

abbrev pub after_dropping : Life → ℕ → Option Msu → Life
after_dropping l selection None = l
after_dropping l selection (Some m) = record l {
  holds = record l.holds { waiting = without_first selection l.holds.waiting };
  refused = l.refused ++ m ∷ [];
}

-- ---- a life

unfoldable pub lived : Life → Deed → Life
lived l (happens h) =
    after_happening l (step l.holds.state h).0 (step l.holds.state h).1 (strange_in h)
lived l (comes m) = after_coming l m l.holds.state
lived l (delivers m) = after_delivery l m (for_delivery m l.holds.state)
lived l (takes selection) = after_taking l selection (first_of selection l.holds.waiting)
lived l (drops selection) = after_dropping l selection (first_of selection l.holds.waiting)

-- by the deeds, the latest first
abbrev pub life_of : List Deed → Life
life_of [] = born
life_of (d ∷ ds) = lived (life_of ds) d

-- one life, and what came of a deed after it
abbrev pub joined : Life → Life → Life
joined l x = record {
  holds = x.holds;
  delivered = l.delivered ++ x.delivered;
  sent = l.sent ++ x.sent;
  lost = l.lost ++ x.lost;
  came = l.came ++ x.came;
  taken = l.taken ++ x.taken;
  refused = l.refused ++ x.refused;
  strange = l.strange + x.strange;
}

-- ---- what a gateway knows of its life

abbrev pub GREATEST : ℕ
GREATEST = 0xffff_ffff_ffff_ffff

-- a count that stops at the greatest number of 64 bits
abbrev pub counted : ℕ → ℕ
counted n = min n GREATEST

-- what it holds, and how many messages and DATA it counted as lost and as refused
pub record Account : Type 0 where
  pub holds : Holds
  pub lost : ℕ
  pub refused : ℕ

abbrev pub account_of : Life → Account
account_of l = record {
  holds = l.holds;
  lost = counted (length l.lost);
  refused = counted (length l.refused + l.strange);
}

-- what comes of a deed
abbrev pub result_of : Account → Deed → Life
result_of a d = lived (standing a.holds) d

abbrev pub account_with : Account → Life → Account
account_with a x = record {
  holds = x.holds;
  lost = counted (a.lost + length x.lost);
  refused = counted (a.refused + (length x.refused + x.strange));
}

abbrev pub account_after : Account → Deed → Account
account_after a d = account_with a (result_of a d)

-- Each message that the set delivered was sent, is kept or was lost, and no other, whichever
-- messages are counted.
abbrev pub IsUpward : Life → Type 0
IsUpward l =
    (test : Msu → Bool) → count_by test l.delivered
    ≡ count_by test l.sent + count_by test l.holds.kept + count_by test l.lost

-- Each message that came as DATA was taken by the set, waits, or was refused.
abbrev pub IsDownward : Life → Type 0
IsDownward l =
    (test : Msu → Bool) → count_by test l.came
    ≡ count_by test l.taken + count_by test l.holds.waiting + count_by test l.refused

-- ms are in order among ns
pub data Within : List Msu → List Msu → Type 0 where
  none : (ns : List Msu) → Within [] ns
  same : (m : Msu) (ms ns : List Msu) → Within ms ns → Within (m ∷ ms) (m ∷ ns)
  more : (n : Msu) (ms ns : List Msu) → Within ms ns → Within ms (n ∷ ns)

-- what is sent, and then what is kept, is in the order in which the set delivered it
abbrev pub IsInOrder : Life → Type 0
IsInOrder l = Within (l.sent ++ l.holds.kept) l.delivered

-- In each selection, what the set took, and then what waits, is in the order in which it came.
abbrev pub IsInOrderDown : Life → Type 0
IsInOrderDown l =
    (selection : ℕ)
    → Within (filter (is_of selection) l.taken ++ filter (is_of selection) l.holds.waiting)
    (filter (is_of selection) l.came)

-- Something is kept only while the AS is pending, and never more than may be.
abbrev pub IsKeptWhilePending : State → List Msu → Type 0
IsKeptWhilePending s kept =
    (is_pending (server_in s) ≡ false → kept ≡ []) × (length kept ≤ MOST_KEPT)

abbrev pub IsKept : Life → Type 0
IsKept l = IsKeptWhilePending l.holds.state l.holds.kept

-- Each message that was sent or is kept has a label and is for level 4.
abbrev pub is_unfit : Msu → Bool
is_unfit m = not (is_fit m)

abbrev pub AreFit : Life → Type 0
AreFit l = count_by is_unfit l.sent + count_by is_unfit l.holds.kept ≡ 0

-- ---- DATA

-- whether a deed is DATA
abbrev pub is_data : Deed → Bool
is_data (happens h) = strange_in h == 1
is_data (comes m) = true
is_data (delivers m) = false
is_data (takes selection) = false
is_data (drops selection) = false

-- Each DATA was taken by the set, waits, or was refused.
abbrev pub IsEachData : List Deed → Type 0
IsEachData ds =
    count_by is_data ds
    ≡ length (life_of ds).taken + length (life_of ds).holds.waiting
    + (length (life_of ds).refused + (life_of ds).strange)
