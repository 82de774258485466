-- The result of a receive of the ports in time, from what each of its steps does.
use Rattle.std.proofs.Common.{◌≡◌, ◌∙◌, ap, refl, sym, subst, inl, inr, ℕ, ◌+◌, ◌<◌, Bool, true, false, List, Result, Ok, Err, IfOk}
use Rattle.std.specs.List.{list_any}
use Rattle.gw_wire.specs.declared.wire.Got.{Got}
use Rattle.gw_wire.specs.declared.wire.Got.TheVariants as got
use Rattle.gw_wire.specs.declared.wire.WireFault.{WireFault}
use Rattle.gw_wire.specs.Ports.{Ports}
use Rattle.gw_wire.specs.Socket.{Answer}
use Rattle.gw_wire.specs.Waking.{is_awake}
use Rattle.gw_wire.specs.Timed.{BeginsAnew, ComesNext, FollowsNext, Following, HasLooked, HasWaited, IsCounted, IsLookedInTime, IsReceived, IsReceivedLater, KeepsCount, anew, asleep, at_once, begins, handing, is_idle, later, looked as recorded, none_awake, one_more, passed, with_ports}
use Rattle.gw_wire.specs.declared.timed.TimedPorts.{TimedPorts}
use Rattle.gw_wire.specs.declared.timed.TheConstants.{MOST_UNLOOKED}

-- the answer where something came at once
came_at_once : {S C P : Type 0} (Shows : C → ℕ → Type 0) (Waited Quiet : P → ℕ → Type 0) (Follows : Following S)
    (before counted looked idle after : TimedPorts S C P) (left : ℕ) (held buffer : List ℕ) (given : Got) (result : Result Got WireFault) →
    IsCounted Shows before counted left → HasLooked Waited Quiet counted looked → Follows looked.ports idle.ports held given →
    is_idle (Ok given) ≡ false → idle ≡ handing (Ok given) idle.ports looked → result ≡ Ok given → after ≡ idle → buffer ≡ held →
    IfOk result (IsReceived Shows Waited Quiet Follows before after buffer)
came_at_once Shows Waited Quiet Follows before counted looked idle after left held buffer given result counts looks follows came alone is stays same =
    let reached : Follows looked.ports after.ports buffer given =
    subst (λ (a : TimedPorts _ _ _). Follows looked.ports a.ports buffer given) (sym stays)
    (subst (λ (b : List ℕ). Follows looked.ports idle.ports b given) (sym same) follows) in
    subst (λ (r : Result Got WireFault). IfOk r (IsReceived Shows Waited Quiet Follows before after buffer)) (sym is)
    (at_once counted looked left counts looks reached came
    (subst (λ (a : TimedPorts _ _ _). a ≡ handing (Ok given) a.ports looked) (sym stays) alone))

-- the answer where nothing came at once
came_later : {S C P : Type 0} (Shows : C → ℕ → Type 0) (Waited Quiet : P → ℕ → Type 0) (Follows : Following S)
    (before counted looked idle after : TimedPorts S C P) (left : ℕ) (held buffer : List ℕ) (result : Result Got WireFault) →
    IsCounted Shows before counted left → HasLooked Waited Quiet counted looked → Follows looked.ports idle.ports held got.Idle →
    idle ≡ with_ports idle.ports looked → IfOk result (IsReceivedLater Shows Waited Quiet Follows idle after left buffer) →
    IfOk result (IsReceived Shows Waited Quiet Follows before after buffer)
came_later Shows Waited Quiet Follows before counted looked idle after left held buffer (Ok given) counts looks nothing same behind =
    later counted looked idle left held counts looks nothing same behind
came_later Shows Waited Quiet Follows before counted looked idle after left held buffer (Err fault) counts looks nothing same behind = tt

-- the answer, whether something came at once or not
pub received : {S C P : Type 0} (Shows : C → ℕ → Type 0) (Waited Quiet : P → ℕ → Type 0) (looks : S → ℕ) (empty : S → Bool)
    (Answered : S → S → Answer → List ℕ → Type 0) (before counted looked idle after : TimedPorts S C P) (left : ℕ) (held buffer : List ℕ)
    (came result : Result Got WireFault) → IsCounted Shows before counted left → HasLooked Waited Quiet counted looked →
    ComesNext looks empty Answered looked.ports idle.ports held came → idle ≡ handing came idle.ports looked →
    (is_idle came ≡ false → result ≡ came) → (is_idle came ≡ false → after ≡ idle) → (is_idle came ≡ false → buffer ≡ held) →
    (is_idle came ≡ true → IfOk result (IsReceivedLater Shows Waited Quiet (FollowsNext looks empty Answered) idle after left buffer)) →
    IfOk result (IsReceived Shows Waited Quiet (FollowsNext looks empty Answered) before after buffer)
received Shows Waited Quiet looks empty Answered before counted looked idle after left held buffer (Ok got.Idle) result counts looked_at next same is stays kept behind =
    came_later Shows Waited Quiet (FollowsNext looks empty Answered) before counted looked idle after left held buffer result counts looked_at next same (behind refl)
received Shows Waited Quiet looks empty Answered before counted looked idle after left held buffer (Ok got.Tick) result counts looked_at next same is stays kept behind =
    came_at_once Shows Waited Quiet (FollowsNext looks empty Answered) before counted looked idle after left held buffer got.Tick result counts looked_at next
    refl same (is refl) (stays refl) (kept refl)
received Shows Waited Quiet looks empty Answered before counted looked idle after left held buffer (Ok (got.Datagram port from len)) result counts looked_at next same is stays kept behind =
    came_at_once Shows Waited Quiet (FollowsNext looks empty Answered) before counted looked idle after left held buffer (got.Datagram port from len) result counts
    looked_at next refl same (is refl) (stays refl) (kept refl)
received Shows Waited Quiet looks empty Answered before counted looked idle after left held buffer (Err fault) result counts looked_at next same is stays kept behind =
    subst (λ (r : Result Got WireFault). IfOk r (IsReceived Shows Waited Quiet (FollowsNext looks empty Answered) before after buffer)) (sym (is refl)) tt

-- a wait, and after it what leaves the count of receives alone
pub begun : {S C P : Type 0} (Waited Quiet : P → ℕ → Type 0) (before woken after : TimedPorts S C P) (most : ℕ) →
    HasWaited Waited Quiet before woken most → after.unlooked ≡ woken.unlooked → BeginsAnew Waited after
begun Waited Quiet before woken after most waits same =
    record { waiter = woken.waiter; most = most; waited = waits.waited; unlooked = same ∙ waits.unlooked }

-- a receive of which each step is known, up to what nothing came of at once
pub looked_in_time : {S C P : Type 0} (Shows : C → ℕ → Type 0) (Waited Quiet : P → ℕ → Type 0)
    (before counted looked after : TimedPorts S C P) (left : ℕ) → IsCounted Shows before counted left →
    HasLooked Waited Quiet counted looked → KeepsCount Waited looked after → IsLookedInTime Waited before after
looked_in_time Shows Waited Quiet before counted looked after left counts looks (inr fresh) = anew fresh
looked_in_time Shows Waited Quiet before counted looked after left counts (begins woken ports ticked waits holds is) (inl kept) =
    anew (begun Waited Quiet counted woken after 0 waits (kept ∙ ap (λ (t : TimedPorts _ _ _). t.unlooked) is))
looked_in_time Shows Waited Quiet before counted looked after left counts (passed unticked awake few one) (inl kept) =
    one_more (subst (λ n. n < MOST_UNLOOKED) counts.unlooked few)
    (kept ∙ ap (λ (t : TimedPorts _ _ _). t.unlooked) one ∙ ap (λ n. n + 1) counts.unlooked)
looked_in_time Shows Waited Quiet before counted looked after left counts (recorded unticked awake many waits) (inl kept) =
    anew (begun Waited Quiet counted looked after 0 waits kept)
looked_in_time Shows Waited Quiet before counted looked after left counts (asleep unticked none same) (inl kept) =
    none_awake (subst (λ (pairs : List _). list_any is_awake pairs ≡ false) (ap (λ (p : Ports _). p.pairs) counts.ports) none)
    (kept ∙ ap (λ (t : TimedPorts _ _ _). t.unlooked) same ∙ counts.unlooked)
