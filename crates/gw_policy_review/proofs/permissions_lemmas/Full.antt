-- The lines of a configuration of format 3, one kind after the other.
use Rattle.std.proofs.Common.{◌≡◌, ◌++◌, ℕ, List, Ok, length, refl}
use Rattle.gw_configuration.specs.Configuration.{Configuration}
use Rattle.gw_policy_review.specs.declared.permissions.grants.Deed.TheVariants as deeds
use Rattle.gw_policy_review.specs.permissions.Allowances.{AppendsAllowances}
use Rattle.gw_policy_review.specs.permissions.Permissions.{AppendsFull, AppendsGrants, AppendsPorts, AreLater, network_lines}
use Rattle.gw_policy_review.specs.permissions.Texts.{Appends}
use Rattle.gw_policy_review.specs.permissions.Questions.{claiming}
use Rattle.gw_policy_review.proofs.warnings_lemmas.Pieces.{five}

pub full : (c : Configuration) (lines : List ℕ) (after_ports after_claims after_allowances rest : ℕ) (a b d e f g : List ℕ)
    → AppendsPorts c lines c.ports 262144 after_ports a b → d ≡ b ++ network_lines c
    → AppendsGrants c lines deeds.Claim (claiming (length c.ports)) after_ports after_claims d e
    → AppendsAllowances c lines after_claims after_allowances e f → Appends (AreLater c lines after_allowances rest) f g
    → AppendsFull c lines a g
full c lines after_ports after_claims after_allowances rest a b d e f g ports networks claims allowances later = (
  ports.0 ++ (network_lines c ++ (claims.0 ++ (allowances.0 ++ later.0))),
  record {
    after_ports = after_ports;
    ports = ports.0;
    are_ports = ports.1;
    after_claims = after_claims;
    claims = claims.0;
    are_claims = claims.1;
    after_allowances = after_allowances;
    allowances = allowances.0;
    are_allowances = allowances.1;
    rest = rest;
    later = later.0;
    are_later = later.1;
    shown = refl;
  },
  five {T = ℕ} {E = ℕ} (Ok 0) a b d e f g ports.0 (network_lines c) claims.0 allowances.0 later.0 ports.2 networks claims.2 allowances.2
      later.2,
)
