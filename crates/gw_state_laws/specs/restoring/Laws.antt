-- That the text of what a gateway saves is read back.
use Rattle.std.specs.Prelude.{◌≡◌, ℕ, List, Ok}
use Rattle.gw_configuration.specs.Configuration.{Configuration}
use Rattle.gw_core.specs.History.{state_after, state_from}
use Rattle.gw_core.specs.Resumed.{carried, saved, saved_of}
use Rattle.gw_core.specs.State.{State}
use Rattle.gw_core.specs.declared.event.Counts.{Counts}
use Rattle.gw_state.specs.Saved.{Saved, origin_of, with_denials}
use Rattle.gw_script.specs.Event.{Event}
use Rattle.gw_state_text.specs.Fit.{AreFit}
use Rattle.gw_state_text.specs.Reading.{state_of}
use Rattle.gw_state_text.specs.Text.{state_text}
use Rattle.gw_state_laws.specs.restoring.GatewayOf.{IsGatewayOf}

-- ---- the states of a gateway

-- After every history a gateway is in such a state.
abbrev pub NewOnesAre : Configuration → Type 0
NewOnesAre c = (k : Counts) (h : List Event) → IsGatewayOf c (state_after c k h)

-- So is one that takes over a saved state that fits, whatever configuration it was saved under: each one that is read fits.
abbrev pub ResumedOnesAre : Configuration → Type 0
ResumedOnesAre c = (s : Saved) → AreFit s → IsGatewayOf c (carried c s)

-- So is one that takes over what is saved of a gateway of whatever configuration in such a state, as after a reload.
abbrev pub ReloadedOnesAre : Configuration → Type 0
ReloadedOnesAre c = (old : Configuration) (w : State) → IsGatewayOf old w → IsGatewayOf c (carried c (saved old w))

-- Every list of events leads from such a state to another one.
abbrev pub TheyStaySo : Configuration → Type 0
TheyStaySo c = (w : State) (l : List Event) → IsGatewayOf c w → IsGatewayOf c (state_from w l)

-- So do other counts.
abbrev pub CountsLeaveThemSo : Configuration → Type 0
CountsLeaveThemSo c = (w : State) (ticks denials : ℕ) → IsGatewayOf c w →
    IsGatewayOf c (record w { ticks = ticks; denials = denials })

-- ---- what is saved

-- What is saved of a gateway in such a state fits.
abbrev pub SavedOnesFit : Configuration → Saved → Type 0
SavedOnesFit c s = (w : State) → IsGatewayOf c w → s ≡ saved_of (origin_of c) w → AreFit s

-- So it does with another number of its last denial, as it is kept.
abbrev pub NumberedOnesFit : Configuration → Saved → Type 0
NumberedOnesFit c s = (w : State) (denials : ℕ) → IsGatewayOf c w → s ≡ with_denials (saved_of (origin_of c) w) denials → AreFit s

-- So its text is read, as what was saved.
abbrev pub SavedOnesAreRead : Configuration → Saved → Type 0
SavedOnesAreRead c s = (w : State) → IsGatewayOf c w → s ≡ saved_of (origin_of c) w → state_of (state_text s) ≡ Ok s

abbrev pub NumberedOnesAreRead : Configuration → Saved → Type 0
NumberedOnesAreRead c s = (w : State) (denials : ℕ) → IsGatewayOf c w → s ≡ with_denials (saved_of (origin_of c) w) denials →
    state_of (state_text s) ≡ Ok s

-- And what takes it over is in the state in which it was saved.
abbrev pub SavedOnesAreRestored : Configuration → Saved → Type 0
SavedOnesAreRestored c s = (w : State) → IsGatewayOf c w → s ≡ saved_of (origin_of c) w → carried c s ≡ w
