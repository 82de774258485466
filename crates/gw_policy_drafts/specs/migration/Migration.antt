-- What a configuration is in format 3.
use Rattle.std.specs.Prelude.{◌≡◌, ℕ, List, Ok}
use Rattle.gw_rules.specs.declared.format.Format.TheVariants.{Three}
use Rattle.gw_configuration.specs.Configuration.{Configuration}
use Rattle.gw_policy_text.specs.Document.{configuration}

-- the same device, ports, routes, objects and rules, in format 3
abbrev pub in_format_three : Configuration → Configuration
in_format_three c = record c { format = Three }

-- the text is read as that
abbrev pub Migrates : Configuration → List ℕ → Type 0
Migrates c text = configuration text ≡ Ok (in_format_three c)
